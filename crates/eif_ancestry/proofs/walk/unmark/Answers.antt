use Rattle.std.proofs.Common.{get_or, arith}
use Rattle.std.proofs.lemmas.Option.{slice_get-get_or}
use Rattle.eif_ancestry.proofs.Members.{member_at}
use Rattle.eif_ancestry.proofs.walk.unmark.Goals as goal

pub index_mut-requires : goal.index_mut-requires
index_mut-requires c =
    let a = get_or c.args.classes.now c.loop-a.a-index 0 in
    let at = slice_get-get_or c.args.classes.now c.loop-a.a-index 0 c.loop-a-test.true in
    let h = c.requires a (member_at c.args.classes.now c.loop-a.a-index a at) in
    let l = c.loop-a.invariant.long in
    omega arith
