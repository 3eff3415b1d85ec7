use Rattle.std.proofs.Common.{◌≡◌, ℕ, List, ◌++◌, map, Some, sym, ap, ap₂, subst, ◌∙◌, append_assoc}
use Rattle.std.specs.List.{flat_map}
use Rattle.eif_base.specs.declared.fault.Fault.{Fault}
use Rattle.eif_base.specs.Numbering.{is_among}
use Rattle.eif_classes.specs.Binding.{is_selected_in}
use Rattle.eif_classes.specs.Descent.{above}
use Rattle.eif_feature_faults.specs.Selected.{AreAllNamed, clause_needless, undecided_by}
use Rattle.eif_feature_faults.proofs.Selecting.{clauses_are, trees_are, undecided_same}
use Rattle.eif_feature_rules.specs.SelectionRules as rules
use Rattle.eif_heirs.specs.Clauses.{ups_in}
use Rattle.eif_heirs.specs.declared.clauses.Clause.{Clause}
use Rattle.eif_rows.proofs.Matches.{Match-from_map}
use Rattle.eif_rows.specs.Numbers.{names_of}
use Rattle.eif_system.specs.Inheritance as inheritance
use Rattle.eif_system.specs.Lineage.{line_of}
use Rattle.eif_tree.specs.Tree.{ParentT}
use Rattle.eif_tree.specs.View.{class_view, parent_view}
use Rattle.eif_feature_faults.proofs.selection.push_selection_faults.Goals as goal

pub returns : goal.returns
returns c = λ u heir are.
    let h = c.args.heir.now in
    let r = c.args.choices.now in
    let class = class_view h.tree.now in
    let ups = ups_in u class in
    let list = rules.choices u ups (above (line_of u h.class_id.0)) in
    let all : AreAllNamed h.names.items r.candidates.items list =
    Match-from_map (λ fs. names_of h.names.items fs.items) (λ ns. map Some ns) r.candidates.items list
    (subst (λ (names : List (List ℕ)). map (λ fs. names_of names fs.items) r.candidates.items ≡ map (λ ns. map Some ns) list)
    (sym heir.names_are) are.candidates_are) in
    let chosen = c.in_ok-choice.ensures list
    (subst (λ (names : List (List ℕ)). AreAllNamed names c.deref-2.result.now list) (sym c.deref.ensures.value)
    (subst (λ cs. AreAllNamed h.names.items cs list) (sym c.deref-2.ensures.value) all)) in
    let needless = ap (λ (xs : List Clause). flat_map (clause_needless class c.in_ok-choice.choice) xs) c.deref-3.ensures.value
    ∙ clauses_are u class c.in_ok-choice.choice list chosen h.clauses.items (inheritance.clauses class) heir.clauses_are in
    let selected : (n : List ℕ) → is_among c.in_ok-set.set n ≡ is_selected_in (inheritance.clauses class) n =
    λ n. c.in_ok-set.ensures n
    ∙ ap (λ (ps : List ParentT). is_selected_in ps n)
    (ap (λ (xs : List Clause). map (λ x. parent_view x.tree.now) xs) c.deref-4.ensures.value
    ∙ trees_are u class h.clauses.items (inheritance.clauses class) heir.clauses_are) in
    let undecided = undecided_same class c.in_ok-set.set selected list in
    let first = flat_map (clause_needless class c.in_ok-choice.choice) c.deref-3.result.now in
    let last = flat_map (undecided_by class c.in_ok-set.set) list in
    c.in_ok-push_all_undecided.ensures list (subst (λ cs. AreAllNamed h.names.items cs list) (sym c.deref-5.ensures.value) all)
    ∙ (ap (λ (fs : List Fault). fs ++ last) c.in_ok-push_needless.ensures
    ∙ (append_assoc c.args.out.now first last
    ∙ ap (λ (fs : List Fault). c.args.out.now ++ fs) (ap₂ (λ (a b : List Fault). a ++ b) needless undecided)))
