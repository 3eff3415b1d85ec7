use Rattle.std.proofs.Common.{◌++◌, ap, sym, ◌∙◌}
use Rattle.std.proofs.lemmas.List.{map-append}
use Rattle.eif_base.specs.declared.class_id.ClassId.{ClassId}
use Rattle.eif_rows.specs.Numbers.{class_numbers}
use Rattle.eif_tree.specs.View.{clients_view}
use Rattle.eif_universe.specs.Universes.{classes_of}
use Rattle.eif_heirs.proofs.ClientSets.{any_listed}
use Rattle.eif_heirs.proofs.clients.push_listed.Goals as goal

pub returns-in_ok-push : goal.returns-in_ok-push
returns-in_ok-push c =
    let old = c.args.out.now.items in
    ap class_numbers c.in_ok-push.ensures.items
    ∙ (map-append (λ (k : ClassId). k.0) old _
    ∙ ap (λ zs. class_numbers old ++ zs)
    (sym (any_listed (classes_of c.args.u.now) c.requires (clients_view c.args.clients.now) c.if-clients.false)))
