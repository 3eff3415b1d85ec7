use Rattle.std.proofs.Common.{arith}
use Rattle.eif_derivations.proofs.GrowingLists.{added_last, all_kept}
use Rattle.eif_derivations.proofs.lists.ActualLists.add.Goals as goal

pub returns-clause-kept : goal.returns-clause-kept
returns-clause-kept c =
    all_kept c.args.self.now.lists.items c.push-2.new.self.items c.args.list c.in_ok-push-2.ensures.items

pub returns-clause-id : goal.returns-clause-id
returns-clause-id c =
    added_last c.args.self.now.lists.items c.push-2.new.self.items c.args.list c.in_ok-push-2.ensures.items
    c.len-number.result (omega (arith, c.len-number.ensures, c.args.self.now.lists.ok.0))
