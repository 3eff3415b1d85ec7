-- The test locals of a flow are those of the facts, form by form.
use Rattle.std.proofs.Common.{◌≡◌, ℕ, Bool, true, false, List, [], ◌∷◌, ◌++◌, map, Option, Some, None, refl, ap, ap₂, ◌∙◌}
use Rattle.std.specs.Prelude.{if◌then◌else◌, not}
use Rattle.eif_base.specs.declared.place.Place.{Place}
use Rattle.eif_tree.specs.declared.tree.NameAt.{NameAt}
use Rattle.eif_tree.specs.declared.tree.Op.{Op}
use Rattle.eif_tree.specs.declared.tree.Op.TheVariants as op
use Rattle.eif_tree.specs.Tree.{Ex, literal, void_value, current_value, result_value, unqualified, precursor, qualified, creation, test, paren, unary, binary}
use Rattle.eif_body_rules.specs.Conditions.{tested_name, tells_both, left_value, told_by_unary, told_by_void}
use Rattle.eif_body_rules.specs.PlainFacts as facts
use Rattle.eif_body_rules.specs.TestRules.{local_names}
use Rattle.eif_flow_rules.specs.TestLocals.{local_name, usable_by_left}
use Rattle.eif_flow_rules_laws.specs.TestLocalsAgree.{usable_names, usable_where, told_by_left, TestLocalsAgree}

append_names :
    (xs ys : List facts.PlainFact) → usable_names (xs ++ ys) ≡ usable_names xs ++ usable_names ys
append_names [] ys = refl
append_names (facts.attached x ∷ xs) ys = append_names xs ys
append_names (facts.usable_at x p ∷ xs) ys = ap (λ zs. x ∷ zs) (append_names xs ys)

-- facts on attached names make nothing usable
behind_attached :
    (xs : List (List ℕ)) (ys : List facts.PlainFact)
    → usable_names (map facts.attached xs ++ ys) ≡ usable_names ys
behind_attached [] ys = refl
behind_attached (x ∷ xs) ys = behind_attached xs ys

-- a form that tells nothing
nothing_told : (b : Bool) → let none : List (List ℕ) = [] in none ≡ (if b then none else none)
nothing_told true = refl
nothing_told false = refl

local_told : (p : Place) (l : Option NameAt) → usable_names (map (λ x. facts.usable_at x p) (local_names l)) ≡ local_name l
local_told p None = refl
local_told p (Some n) = refl

by_unary :
    (p : Place) (o : Op) (b : Bool) (e : Ex) (told : List facts.PlainFact)
    → usable_names told ≡ usable_where (not b) e → usable_names (told_by_unary o told) ≡ usable_where b (unary p o e)
by_unary p op.Not true e told h = h
by_unary p op.Not false e told h = h
by_unary p _ true e told h = refl
by_unary p _ false e told h = refl

by_operands :
    (p : Place) (o : Op) (b : Bool) (q : Place) (l r : Ex)
    → (if tells_both o b then usable_where (left_value o b) l ++ usable_where b r else [])
    ≡ usable_where b (binary p o q l r)
by_operands p op.And true q l r = refl
by_operands p _ true q l r = refl
by_operands p op.And false q l r = refl
by_operands p _ false q l r = refl

names_if :
    (b : Bool) (told : List facts.PlainFact)
    → usable_names (if b then told else []) ≡ (if b then usable_names told else [])
names_if true told = refl
names_if false told = refl

pub where_it_holds :
    (testable : List ℕ → Bool) (b : Bool) (e : Ex)
    → usable_names (facts.plain_facts testable b e) ≡ usable_where b e
where_it_holds t b (literal p x) = nothing_told b
where_it_holds t b (void_value p) = nothing_told b
where_it_holds t b (current_value p) = nothing_told b
where_it_holds t b (result_value p) = nothing_told b
where_it_holds t b (unqualified p x args) = nothing_told b
where_it_holds t b (precursor p x args) = nothing_told b
where_it_holds t b (qualified p e x args) = nothing_told b
where_it_holds t b (creation p u x args) = nothing_told b
where_it_holds t true (test p u l e) = behind_attached (tested_name t e) _ ∙ local_told p l
where_it_holds t false (test p u l e) = refl
where_it_holds t b (paren p e) = where_it_holds t b e
where_it_holds t b (unary p o e) = by_unary p o b e _ (where_it_holds t (not b) e)
where_it_holds t b (binary p o q l r) =
    let left = facts.plain_facts t (left_value o b) l in
    let right = facts.plain_facts t b r in
    behind_attached (told_by_void t o b l r) _
    ∙ (names_if (tells_both o b) (left ++ right)
    ∙ (ap (λ ns. if tells_both o b then ns else [])
    (append_names left right ∙ ap₂ (λ a b. a ++ b) (where_it_holds t (left_value o b) l) (where_it_holds t b r))
    ∙ by_operands p o b q l r))

on_the_right : (testable : List ℕ → Bool) (o : Op) (e : Ex) → told_by_left testable o e ≡ usable_by_left o e
on_the_right t op.AndThen e = where_it_holds t true e
on_the_right t op.OrElse e = where_it_holds t false e
on_the_right t op.Implies e = where_it_holds t true e
on_the_right t _ e = refl

pub agree : TestLocalsAgree
agree = record { where_it_holds = where_it_holds; on_the_right = on_the_right }
