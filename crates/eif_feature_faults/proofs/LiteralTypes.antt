-- When a written type is that of a literal.
use Rattle.std.proofs.Common.{◌≡◌, ℕ, ◌+◌, Bool, true, false, cond, List, [], ◌∷◌, length, map, Option, Some, None, refl, sym, ap, ◌∙◌}
use Rattle.std.specs.Prelude.{◌==◌, ◌&&◌, ◌||◌, if◌then◌else◌, is_some}
use Rattle.std.specs.List.{list_any, position_from}
use Rattle.std.proofs.Math.Dec.{eqb-suc-zero}
use Rattle.std.proofs.lemmas.List.{length-map}
use Rattle.std.specs.Option.{option_map_or}
use Rattle.std.specs.Str.{bytes_eq}
use Rattle.eif_classes.specs.Resolution.{all_resolved, class_mark, formal_number, type_denoted}
use Rattle.eif_classes.specs.Types.{Actuals, no_actuals, and_actual, class_type, same_actuals, same_mark, same_type}
use Rattle.eif_feature_faults.specs.DeclaredViews.{is_attached_mark}
use Rattle.eif_feature_rules.specs.DeclarationRules.{is_literal_type, literal_class}
use Rattle.eif_system.specs.Universe.{class_number}
use Rattle.eif_tree.proofs.Views.{type_view-opened}
use Rattle.eif_tree.specs.Tree.{ClassT, TypeT}
use Rattle.eif_tree.specs.View.{class_view, formal_view, type_view, types_from}
use Rattle.eif_tree.specs.declared.class.ClassTree.{ClassTree}
use Rattle.eif_tree.specs.declared.class.FormalTree.{FormalTree}
use Rattle.eif_tree.specs.declared.tree.Literal.{Literal}
use Rattle.eif_tree.specs.declared.tree.TypeTree.{TypeTree, out-TypeTree}
use Rattle.eif_tree.specs.declared.tree.Mark.{Mark}
use Rattle.eif_tree.specs.declared.tree.Mark.TheVariants.{Attached}

pub is_formal : (n : List ℕ) (fs : List FormalTree) (s : ℕ)
    → is_some (position_from (λ f. bytes_eq f.name n) s (map formal_view fs)) ≡ list_any (λ f. bytes_eq f.name n) fs
is_formal n [] s = refl
is_formal n (f ∷ fs) s = go (bytes_eq f.name n) (is_formal n fs (s + 1))
  where
    go : (b : Bool)
        → is_some (position_from (λ f. bytes_eq f.name n) (s + 1) (map formal_view fs)) ≡ list_any (λ f. bytes_eq f.name n) fs
        → is_some (cond b (Some s) (position_from (λ f. bytes_eq f.name n) (s + 1) (map formal_view fs)))
        ≡ (b || list_any (λ f. bytes_eq f.name n) fs)
    go true h = refl
    go false h = h

-- without actuals
pub is_bare : (u : List ClassT) (c : ClassT) (ts : List TypeT)
    → same_actuals (all_resolved u c (types_from ts)) no_actuals ≡ (length ts == 0)
is_bare u c [] = refl
is_bare u c (t ∷ ts) = sym (eqb-suc-zero (length ts))

-- by the formal of its name, its mark, its actuals and the class of its name
unfoldable pub verdict : Bool → Bool → Bool → Bool → Bool
verdict formal attached bare denoted =
    if formal then false else if attached then if bare then denoted else false else false

and_and : (a b d : Bool) → (d && (a && b)) ≡ verdict false a b d
unfolding verdict
and_and true true true = refl
and_and true true false = refl
and_and true false true = refl
and_and true false false = refl
and_and false b true = refl
and_and false b false = refl

no_verdict : (a b : Bool) → false ≡ verdict false a b false
unfolding verdict
no_verdict true true = refl
no_verdict true false = refl
no_verdict false b = refl

hidden : (a b d : Bool) → false ≡ verdict true a b d
unfolding verdict
hidden a b d = refl

same_as : (i k : Option ℕ) (m : Mark) (ts : Actuals) (j : ℕ)
    → same_type (type_denoted i k m ts) (class_type j Attached no_actuals)
    ≡ verdict (is_some i) (is_attached_mark m) (same_actuals ts no_actuals) (option_map_or (λ d. d == j) k false)
same_as (Some i) k m ts j = hidden _ _ _
same_as None None m ts j = no_verdict (is_attached_mark m) (same_actuals ts no_actuals)
same_as None (Some d) m ts j = and_and (is_attached_mark m) (same_actuals ts no_actuals) (d == j)

-- a written type in a class text
pub is_literal : (u : List ClassT) (c : ClassTree) (x : Literal) (t : TypeTree)
    → is_literal_type u (class_view c) x (type_view t)
    ≡ verdict (list_any (λ f. bytes_eq f.name (out-TypeTree t).name) c.formals.items)
    (is_attached_mark (out-TypeTree t).mark) (length (out-TypeTree t).actuals.items == 0)
    (option_map_or (λ d. d == literal_class x) (class_number u (out-TypeTree t).name) false)
is_literal u c x t =
    let w = out-TypeTree t in
    let ts = map type_view w.actuals.items in
    let actuals = all_resolved u (class_view c) (types_from ts) in
    let denoted = option_map_or (λ d. d == literal_class x) (class_number u w.name) false in
    let bare : same_actuals actuals no_actuals ≡ (length w.actuals.items == 0) =
    is_bare u (class_view c) ts ∙ ap (λ n. n == 0) (length-map w.actuals.items type_view) in
    ap (is_literal_type u (class_view c) x) (type_view-opened t)
    ∙ (same_as (formal_number (class_view c) w.name) (class_number u w.name) w.mark actuals (literal_class x)
    ∙ (ap (λ b. verdict b (is_attached_mark w.mark) (same_actuals actuals no_actuals) denoted)
    (is_formal w.name c.formals.items 0)
    ∙ ap (λ b. verdict (list_any (λ f. bytes_eq f.name w.name) c.formals.items) (is_attached_mark w.mark) b denoted) bare))

-- ---- the tests one by one

pub formal_told : (f a b d : Bool) → f ≡ true → verdict f a b d ≡ false
unfolding verdict
formal_told f a b d e = ap (λ f. verdict f a b d) e

pub mark_told : (f a b d : Bool) → f ≡ false → a ≡ false → verdict f a b d ≡ false
unfolding verdict
mark_told f a b d e g = ap (λ f. verdict f a b d) e ∙ ap (λ a. verdict false a b d) g

pub bare_told : (f a b d : Bool) → f ≡ false → a ≡ true → b ≡ false → verdict f a b d ≡ false
unfolding verdict
bare_told f a b d e g h =
    ap (λ f. verdict f a b d) e ∙ (ap (λ a. verdict false a b d) g ∙ ap (λ b. verdict false true b d) h)

pub class_told : (f a b d : Bool) → f ≡ false → a ≡ true → b ≡ true → verdict f a b d ≡ d
unfolding verdict
class_told f a b d e g h =
    ap (λ f. verdict f a b d) e ∙ (ap (λ a. verdict false a b d) g ∙ ap (λ b. verdict false true b d) h)
