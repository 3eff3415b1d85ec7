use Rattle.std.proofs.Common.{◌≡◌, ◌++◌, ◌≤◌, List, length, take, Some, ap, sym, ◌∙◌, arith}
use Rattle.std.specs.Prelude.{slice_get}
use Rattle.std.proofs.lemmas.Option.{slice_get-get_or}
use Rattle.eif_classes.specs.Features.{entries}
use Rattle.eif_feature_faults.proofs.Beside.{declared_at}
use Rattle.eif_feature_faults.proofs.InTurn.{added_all, added_more, at_with_earlier, length-with_earlier}
use Rattle.eif_feature_faults.proofs.declarations.push_faults_beside.Goals as goal
use Rattle.eif_feature_faults.specs.DeclaredViews.{declared_view}
use Rattle.eif_feature_rules.specs.DeclarationRules.{declared_name_faults}
use Rattle.eif_feature_rules.specs.RuleForms.{DeclaredName, declared_here, with_earlier}
use Rattle.eif_heirs.specs.Clauses.{ups_in}
use Rattle.eif_heirs.specs.DeclaredNames.{IsDeclaredName}
use Rattle.eif_rows.proofs.Matches.{length-Match}
use Rattle.eif_tree.specs.View.{class_view}

pub declared-preserved : goal.declared-preserved
declared-preserved c = λ u heir.
    let h = c.args.heir.now in
    let class = class_view h.tree.now in
    let here = declared_here class in
    let i = c.declared.i in
    let x = c.x-item.result in
    let item : slice_get h.declared.items i ≡ Some x =
    ap (λ xs. slice_get xs i) (sym c.deref-x-items.ensures.value)
    ∙ (slice_get-get_or c.deref-x-items.result.now i x c.declared-test.true ∙ ap Some (sym c.x-item.is)) in
    let at = declared_at u h heir i x item in
    added_more (λ (x : List DeclaredName × DeclaredName). declared_name_faults class (entries (ups_in u class)) x.0 x.1)
    c.args.out.now (with_earlier here) i (take i here, declared_view x) c.declared.out c.push_if_broken.new.out
    (at_with_earlier here i (declared_view x) at) (c.declared.invariant u heir)
    (c.in_ok-push_if_broken.ensures ∙ ap (λ l. c.declared.out ++ l) (c.rule_beside.ensures u heir at))

pub returns : goal.returns
returns c = λ u heir.
    let h = c.args.heir.now in
    let class = class_view h.tree.now in
    let here = declared_here class in
    let long = length-Match (IsDeclaredName class) h.declared.items here heir.declared_are in
    let items = ap length c.deref-x-items.ensures.value in
    let past : length (with_earlier here) ≤ c.declared.i = omega (arith, length-with_earlier here) in
    added_all (λ (x : List DeclaredName × DeclaredName). declared_name_faults class (entries (ups_in u class)) x.0 x.1)
    c.args.out.now (with_earlier here) c.declared.i c.declared.out past (c.declared.invariant u heir)
