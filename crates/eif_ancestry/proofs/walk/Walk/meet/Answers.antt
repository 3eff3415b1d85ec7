use Rattle.std.proofs.Common.{◌≡◌, length, false}
use Rattle.eif_ancestry.specs.Walks.{has_mark}
use Rattle.eif_ancestry.proofs.Marks.{tidy_more, members_more}
use Rattle.eif_ancestry.proofs.walk.Walk.meet.Goals as goal

pub returns-in_ok-push-clause-tidy : goal.returns-in_ok-push-clause-tidy
returns-in_ok-push-clause-tidy c =
    let w = c.args.self.now in
    let unmarked : has_mark w.marks.items c.args.p ≡ false = cc in
    tidy_more (length w.marks.items) w.met.items w.marks.items c.args.p c.requires.tidy c.requires.within unmarked
    c.push.new.self.items c.in_ok-push.ensures.items

pub returns-in_ok-push-clause-members : goal.returns-in_ok-push-clause-members
returns-in_ok-push-clause-members c =
    members_more c.args.self.now.met.items c.push.new.self.items c.args.p c.in_ok-push.ensures.items
