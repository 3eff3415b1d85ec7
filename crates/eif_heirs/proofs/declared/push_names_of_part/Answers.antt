use Rattle.std.proofs.Common.{◌≡◌, List, ◌++◌, map, take, Some, sym, subst, arith}
use Rattle.std.specs.Prelude.{flat_map, slice_get}
use Rattle.std.proofs.lemmas.List.{append-nil}
use Rattle.eif_adapt.proofs.OneOn.{one_on, at_end}
use Rattle.eif_feature_rules.specs.RuleForms as rules
use Rattle.eif_feature_rules.specs.RuleForms.{names_of_declaration}
use Rattle.eif_heirs.specs.DeclaredNames.{IsDeclaredName}
use Rattle.eif_heirs.proofs.DeclaredInTurn.{declared_at, view_here, views_more}
use Rattle.eif_rows.specs.Matched.{Match}
use Rattle.eif_tree.specs.View.{decl_view, features_view}
use Rattle.eif_tree.specs.declared.class.FeatureDecl.{FeatureDecl}
use Rattle.eif_heirs.proofs.declared.push_names_of_part.Goals as goal

pub decls-init : goal.decls-init
decls-init c = λ k before at h.
    subst (λ (ys : List rules.DeclaredName). Match (IsDeclaredName k) c.args.out.now.items ys) (sym (append-nil before)) h

pub decls-preserved : goal.decls-preserved
decls-preserved c = λ k before at h.
    let decls = c.as_slice-decls.result.now in
    let i = c.decls.place in
    let d = c.index-decls-place.result in
    let out = c.push_names.new.out.items in
    let so_far = before ++ flat_map names_of_declaration (map decl_view (take i decls)) in
    one_on (λ (ds : List FeatureDecl).
    Match (IsDeclaredName k) out (before ++ flat_map names_of_declaration (map decl_view ds)))
    decls i d c.decls-test.true c.index-decls-place.is
    (subst (λ (ys : List rules.DeclaredName). Match (IsDeclaredName k) out ys)
    (views_more decl_view names_of_declaration before (take i decls) d)
    (c.in_ok-push_names.ensures k so_far
    (declared_at k (features_view c.args.tree.now) (decl_view d) c.args.part i at
    (subst (λ (ds : List FeatureDecl). slice_get (map decl_view ds) i ≡ Some (decl_view d)) c.as_slice-decls.ensures.value
    (view_here decl_view decls i d c.decls-test.true c.index-decls-place.is)))
    (c.decls.invariant k before at h)))

pub returns : goal.returns
returns c = λ k before at h.
    let names : List FeatureDecl → List rules.DeclaredName =
    λ ds. before ++ flat_map names_of_declaration (map decl_view ds) in
    subst (λ (ds : List FeatureDecl). Match (IsDeclaredName k) c.decls.out.items (names ds)) c.as_slice-decls.ensures.value
    (at_end (λ (ds : List FeatureDecl). Match (IsDeclaredName k) c.decls.out.items (names ds))
    c.as_slice-decls.result.now c.decls.place (omega arith) (c.decls.invariant k before at h))
