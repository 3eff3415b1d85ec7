use Rattle.std.proofs.Common.{get_or, arith}
use Rattle.std.proofs.lemmas.Option.{slice_get-get_or}
use Rattle.eif_ancestry.proofs.Members.{member_at}
use Rattle.eif_ancestry.proofs.walk.Walk.meet_all.Goals as goal

pub meet-requires-clause-within : goal.meet-requires-clause-within
meet-requires-clause-within c =
    let p = get_or c.args.parents.now c.loop-p.p-index 0 in
    let at = slice_get-get_or c.args.parents.now c.loop-p.p-index 0 c.loop-p-test.true in
    let h = c.requires.within p (member_at c.args.parents.now c.loop-p.p-index p at) in
    let l = c.loop-p.invariant.tidy.long in
    omega arith
