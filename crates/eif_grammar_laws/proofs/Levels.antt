-- Operators and levels, and how tightly expressions are spelled.
use Rattle.std.proofs.Common.{◌≡◌, ◌≢◌, ℕ, ◌+◌, ◌≤◌, ◌<◌, ◌==◌, if◌then◌else◌, Bool, true, false, Option, Some, None, List, refl, subst, arith, ◌⊎◌, inl, inr}
use Rattle.std.proofs.lemmas.Bool.Decides.{nat_tests}
use Rattle.eif_tree.specs.declared.Op.{Op}
use Rattle.eif_tree.specs.declared.Op.TheVariants as op
use Rattle.eif_tree.specs.Tree.{Ex, literal, test, unary, binary}
use Rattle.eif_tree.specs.Height.{height}
use Rattle.eif_grammar.specs.declared.terminal.Terminal.{Terminal}
use Rattle.eif_grammar.specs.declared.terminal.Terminal.TheVariants as t
use Rattle.eif_grammar.specs.Tokens.{Token}
use Rattle.eif_grammar.specs.Forms.{level, left_level, right_level, operator, binds, target_level}
use Rattle.eif_grammar.specs.Spelling.{head}
use Rattle.eif_grammar.specs.SpelledExpressions.{undotted, spells}
use Rattle.eif_grammar_laws.proofs.Meanings.{level_before}

pub height_some : (e : Ex) → 1 ≤ height e
height_some (literal p x) = omega arith
height_some _ = omega arith

-- ---- operators

-- what holds of the levels of a binary operator
pub record Levels (o : Op) : Type 0 where
  pub some : 1 ≤ level o
  pub most : level o ≤ 7
  pub left : level_before (level o) ≡ left_level o
  pub left_most : left_level o ≤ 8
  pub left_least : level o ≤ left_level o
  pub right_some : 1 ≤ right_level o
  pub right_most : right_level o ≤ 7
  pub right_next : right_level o ≤ level o + 1

-- the levels of all operators but `not`
pub levels : (o : Op) → 1 ≤ level o → Levels o
levels op.Not h = absurd (omega arith)
levels _ h = record {
  some = omega arith;
  most = omega arith;
  left = refl;
  left_most = omega arith;
  left_least = omega arith;
  right_some = omega arith;
  right_most = omega arith;
  right_next = omega arith;
}

pub level_most : (o : Op) → level o ≤ 7
level_most op.Not = omega arith
level_most _ = omega arith

-- an operator behind the right operand takes the whole before it
pub next_operator : (o : Op) (b : ℕ) → Levels o → b < right_level o → level_before b ≤ level o
next_operator o b l low =
    let least : b < 7 = omega (arith, l.right_most) in
    let here : b ≤ level o = omega (arith, l.right_next) in
    by_test (b == 7) refl
  where
    by_test : (x : Bool) → (b == 7) ≡ x → (if x then 8 else b) ≤ level o
    by_test true e = absurd (grind (arith, nat_tests, l.right_most))
    by_test false e = omega (arith, l.right_next)

-- what stands in the tables of operators agrees
abbrev Agree : ℕ → Option Op → Type 0
Agree b None = b ≡ 0
Agree b (Some o) = (b ≡ level o) × (1 ≤ level o) × (o ≢ op.AndThen) × (o ≢ op.OrElse)

agree : (x : Terminal) → Agree (binds x) (operator x)
agree t.Implies = (refl, omega arith, λ e. cc, λ e. cc)
agree t.Or = (refl, omega arith, λ e. cc, λ e. cc)
agree t.Xor = (refl, omega arith, λ e. cc, λ e. cc)
agree t.And = (refl, omega arith, λ e. cc, λ e. cc)
agree t.Equal = (refl, omega arith, λ e. cc, λ e. cc)
agree t.NotEqual = (refl, omega arith, λ e. cc, λ e. cc)
agree t.Less = (refl, omega arith, λ e. cc, λ e. cc)
agree t.Greater = (refl, omega arith, λ e. cc, λ e. cc)
agree t.LessEqual = (refl, omega arith, λ e. cc, λ e. cc)
agree t.GreaterEqual = (refl, omega arith, λ e. cc, λ e. cc)
agree t.Plus = (refl, omega arith, λ e. cc, λ e. cc)
agree t.Minus = (refl, omega arith, λ e. cc, λ e. cc)
agree t.Times = (refl, omega arith, λ e. cc, λ e. cc)
agree t.Divide = (refl, omega arith, λ e. cc, λ e. cc)
agree t.Modulo = (refl, omega arith, λ e. cc, λ e. cc)
agree t.Power = (refl, omega arith, λ e. cc, λ e. cc)
agree _ = refl

-- a token that is no operator takes nothing
pub no_operator : (x : Terminal) → operator x ≡ None → binds x ≡ 0
no_operator x e = subst (Agree (binds x)) e (agree x)

-- an operator takes what its level says, and is that of one token
pub binds_operator : (x : Terminal) (o : Op) → operator x ≡ Some o → (binds x ≡ level o) × (1 ≤ level o) × (o ≢ op.AndThen) × (o ≢ op.OrElse)
binds_operator x o e = subst (Agree (binds x)) e (agree x)

-- ---- how tightly an expression is spelled

pub chain_lower : (k j : ℕ) {A : Type 0} (rest : List Token) → k ≤ 8 → A × ((k ≡ target_level) ⊎ (head rest ≢ t.Dot)) → A × ((j ≡ target_level) ⊎ (head rest ≢ t.Dot))
chain_lower k j rest most (s, inl top) = absurd (omega arith)
chain_lower k j rest most (s, inr apart) = (s, inr apart)

-- a tighter spelling serves at a lower level
pub spells_lower : (e : Ex) (k j : ℕ) (ts rest : List Token) → j ≤ k → k ≤ 8 → spells e k ts rest → spells e j ts rest
spells_lower (test p ty l e) k j ts rest le most (mid, (lv, eq), more) = (mid, (omega arith, eq), more)
spells_lower (unary p o e) k j ts rest le most (mid, (lv, eq), more) = (mid, (omega arith, eq), more)
spells_lower (binary p o q l r) k j ts rest le most (mid, ((lv, pl), eq), more) = (mid, ((omega arith, pl), eq), more)
spells_lower _ k j ts rest le most s = chain_lower k j rest most s

-- a target behind which no dot stands serves at each level
pub spells_undotted : (e : Ex) (k : ℕ) (ts rest : List Token) → undotted (spells e target_level) ts rest → spells e k ts rest
spells_undotted (test p ty l e) k ts rest ((mid, (lv, eq), more), apart) = absurd (omega arith)
spells_undotted (unary p o e) k ts rest ((mid, (lv, eq), more), apart) = absurd (omega arith)
spells_undotted (binary p o q l r) k ts rest ((mid, ((lv, pl), eq), more), apart) = absurd (omega (arith, level_most o))
spells_undotted _ k ts rest (s, apart) = (s.0, inr apart)

-- the level before the next token is that of an operand at most
pub before_most : (x : Terminal) → level_before (binds x) ≤ 8
before_most t.Implies = omega arith
before_most _ = omega arith
