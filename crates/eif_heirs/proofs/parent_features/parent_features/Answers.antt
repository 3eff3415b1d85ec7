use Rattle.std.proofs.Common.{◌++◌, map, sym, ap, ◌∙◌}
use Rattle.std.proofs.lemmas.List.{append-nil}
use Rattle.std.proofs.lemmas.Slice.Zip.{either_empty_from_Zip}
use Rattle.eif_adapt.specs.Adaptations.{feature_view}
use Rattle.eif_heirs.proofs.SeenRows.{seen_end}
use Rattle.eif_heirs.proofs.parent_features.parent_features.Goals as goal

pub returns : goal.returns
returns c =
    let seen = map feature_view c.names.features.items in
    let ends = either_empty_from_Zip c.names.name-iterator c.next.new.self c.next.result c.in-None.is c.next.ensures.steps in
    sym (append-nil seen) ∙ (ap (λ fs. seen ++ fs) (sym (seen_end _ _ ends)) ∙ c.names.invariant)
