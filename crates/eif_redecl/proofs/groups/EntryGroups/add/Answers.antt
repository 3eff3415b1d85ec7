use Rattle.std.proofs.Common.{Some, sym, ap, ◌∙◌}
use Rattle.std.proofs.lemmas.Option.{slice_get-get_or}
use Rattle.eif_redecl.proofs.GroupLaws.{group_set}
use Rattle.eif_redecl.proofs.groups.EntryGroups.add.Goals as goal

pub returns-in_ok-push-in-Some : goal.returns-in_ok-push-in-Some
returns-in_ok-push-in-Some c =
    let groups = c.args.self.now.groups.items in
    let i = c.args.name.0 in
    let group = c.in-Some.group.now in
    let at = slice_get-get_or groups i group c.in-Some.ensures.item.3.0 ∙ ap Some (sym c.in-Some.ensures.value) in
    group_set groups i group c.push.new.self c.args.entry at c.in_ok-push-in-Some.ensures.items
