use Rattle.std.proofs.Common.{◌≡◌, List, [], map, take, Some, subst, arith}
use Rattle.std.specs.Prelude.{flat_map, slice_get}
use Rattle.eif_adapt.proofs.OneOn.{one_on, at_end}
use Rattle.eif_feature_rules.specs.RuleForms as rules
use Rattle.eif_heirs.specs.DeclaredNames.{IsDeclaredName}
use Rattle.eif_heirs.proofs.DeclaredInTurn.{here_by_part, names_of_part, view_here, views_more}
use Rattle.eif_rows.specs.Matched.{Match}
use Rattle.eif_tree.specs.View.{class_view, features_view}
use Rattle.eif_tree.specs.declared.class.FeatureClause.{FeatureClause}
use Rattle.eif_heirs.proofs.declared.declared_names.Goals as goal

pub parts-preserved : goal.parts-preserved
parts-preserved c =
    let k = class_view c.args.tree.now in
    let parts = c.as_slice-parts.result.now in
    let i = c.parts.part in
    let x = c.index-parts-part.result in
    let out = c.push_names_of_part.new.out.items in
    one_on (λ (ps : List FeatureClause). Match (IsDeclaredName k) out (flat_map names_of_part (map features_view ps)))
    parts i x c.parts-test.true c.index-parts-part.is
    (subst (λ (ys : List rules.DeclaredName). Match (IsDeclaredName k) out ys)
    (views_more features_view names_of_part [] (take i parts) x)
    (c.in_ok-push_names_of_part.ensures k (flat_map names_of_part (map features_view (take i parts)))
    (subst (λ (ps : List FeatureClause). slice_get (map features_view ps) i ≡ Some (features_view x))
    c.as_slice-parts.ensures.value
    (view_here features_view parts i x c.parts-test.true c.index-parts-part.is))
    c.parts.invariant))

pub returns : goal.returns
returns c =
    let k = class_view c.args.tree.now in
    subst (λ (ys : List rules.DeclaredName). Match (IsDeclaredName k) c.parts.out.items ys) (here_by_part k)
    (subst (λ (ps : List FeatureClause).
    Match (IsDeclaredName k) c.parts.out.items (flat_map names_of_part (map features_view ps)))
    c.as_slice-parts.ensures.value
    (at_end (λ (ps : List FeatureClause).
    Match (IsDeclaredName k) c.parts.out.items (flat_map names_of_part (map features_view ps)))
    c.as_slice-parts.result.now c.parts.part (omega arith) c.parts.invariant))
