use Rattle.std.proofs.Common.{Some, ap, sym, ◌∙◌}
use Rattle.eif_type_laws.proofs.SameTypes.{same_actuals_are}
use Rattle.eif_derivations.proofs.lists.ActualLists.is_list.Goals as goal

pub returns-in-Some : goal.returns-in-Some
returns-in-Some c = λ same. sym c.in-Some.ensures ∙ ap Some (same_actuals_are _ _ (sym c.same_types.ensures ∙ same))
