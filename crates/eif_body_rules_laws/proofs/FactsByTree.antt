-- Facts without the types of tests' locals, form by form.
use Rattle.std.proofs.Common.{◌≡◌, ℕ, Bool, true, false, List, [], ◌∷◌, ◌++◌, map, Option, Some, None, refl, ap, ap₂, ◌∙◌}
use Rattle.std.specs.Prelude.{if◌then◌else◌, not}
use Rattle.eif_base.specs.declared.place.Place.{Place}
use Rattle.eif_tree.specs.declared.tree.NameAt.{NameAt}
use Rattle.eif_tree.specs.declared.tree.Op.{Op}
use Rattle.eif_tree.specs.declared.tree.Op.TheVariants as op
use Rattle.eif_tree.specs.Tree.{Ex, literal, void_value, current_value, result_value, unqualified, precursor, qualified, creation, test, paren, unary, binary}
use Rattle.eif_classes.specs.Types.{TyT}
use Rattle.eif_body_rules.specs.Conditions.{tested_name, goes_on, tells_both, left_value, at_right, told_by_unary, told_by_void}
use Rattle.eif_body_rules.specs.ExpressionTypes.{judge, facts, all_attached}
use Rattle.eif_body_rules.specs.Facts.{Fact}
use Rattle.eif_body_rules.specs.PlainFacts as plain
use Rattle.eif_body_rules.specs.Settings.{Setting, is_testable}
use Rattle.eif_body_rules.specs.TestRules.{local_names, test_names, local_type, bound_local}
use Rattle.eif_body_rules_laws.specs.FactsByTree.{erased}

map_append : (xs ys : List Fact) → map erased (xs ++ ys) ≡ map erased xs ++ map erased ys
map_append [] ys = refl
map_append (x ∷ xs) ys = ap (λ zs. erased x ∷ zs) (map_append xs ys)

joined_erased :
    (xs ys : List Fact) (a b : List plain.PlainFact)
    → map erased xs ≡ a → map erased ys ≡ b → map erased (xs ++ ys) ≡ a ++ b
joined_erased xs ys a b p q = map_append xs ys ∙ ap₂ (λ a b. a ++ b) p q

attached_erased : (xs : List (List ℕ)) → map erased (all_attached xs) ≡ map plain.attached xs
attached_erased [] = refl
attached_erased (x ∷ xs) = ap (λ zs. plain.attached x ∷ zs) (attached_erased xs)

bound_erased :
    (p : Place) (local : Option NameAt) (t : Option TyT)
    → map erased (bound_local p local t) ≡ map (λ x. plain.usable_at x p) (local_names local)
unfolding bound_local
bound_erased p None t = refl
bound_erased p (Some x) t = refl

where_true :
    (b : Bool) (xs : List Fact) (a : List plain.PlainFact)
    → map erased xs ≡ a → map erased (if b then xs else []) ≡ (if b then a else [])
where_true true xs a h = h
where_true false xs a h = refl

unary_erased :
    (o : Op) (xs : List Fact) (a : List plain.PlainFact)
    → map erased xs ≡ a → map erased (told_by_unary o xs) ≡ told_by_unary o a
unary_erased op.Not xs a h = h
unary_erased _ xs a h = refl

pub by_tree :
    (s : Setting) (k : List Fact) (n : List (List ℕ)) (b : Bool) (e : Ex)
    → map erased (facts s k n b e) ≡ plain.plain_facts (is_testable s) b e
by_tree s k n b (literal p x) = refl
by_tree s k n b (void_value p) = refl
by_tree s k n b (current_value p) = refl
by_tree s k n b (result_value p) = refl
by_tree s k n b (unqualified p x args) = refl
by_tree s k n b (precursor p x args) = refl
by_tree s k n b (qualified p e x args) = refl
by_tree s k n b (creation p t x args) = refl
by_tree s k n b (test p t local e) =
    let seen = local_type s t (judge s k (n ++ local_names local) e).value in
    where_true b _ _
    (joined_erased _ _ _ _ (attached_erased (tested_name (is_testable s) e)) (bound_erased p local seen))
by_tree s k n b (paren p e) = by_tree s k n b e
by_tree s k n b (unary p o e) = unary_erased o _ _ (by_tree s k n (not b) e)
by_tree s k n b (binary p o q left right) =
    let known = at_right o k (facts s k n (goes_on o) left) in
    joined_erased _ _ _ _ (attached_erased (told_by_void (is_testable s) o b left right))
    (where_true (tells_both o b) _ _
    (joined_erased _ _ _ _ (by_tree s k n (left_value o b) left) (by_tree s known (n ++ test_names left) b right)))
