-- Expressions that tokens spell are written as the grammar has them.
use Rattle.std.proofs.Common.{◌≡◌, ℕ, Bool, true, false, Option, Some, None, subst, refl, sym, ap, ◌∙◌}
use Rattle.eif_base.specs.declared.Place.{Place}
use Rattle.eif_tree.specs.declared.NameAt.{NameAt}
use Rattle.eif_tree.specs.declared.Mark.{Mark}
use Rattle.eif_tree.specs.declared.Mark.TheVariants.{Plain, Attached, Detachable}
use Rattle.eif_tree.specs.declared.Op.{Op}
use Rattle.eif_tree.specs.declared.Op.TheVariants as op
use Rattle.eif_tree.specs.declared.Literal.{Literal}
use Rattle.eif_tree.specs.declared.Literal.TheVariants as lit
use Rattle.eif_tree.specs.Tree.{TypeT, Types, type_at, no_types, and_type, Ex, Exs, literal, void_value, current_value, result_value, unqualified, precursor, qualified, creation, test, paren, unary, binary, no_exs, and_ex}
use Rattle.eif_grammar.specs.declared.terminal.Terminal.{Terminal}
use Rattle.eif_grammar.specs.declared.terminal.Terminal.TheVariants as t
use Rattle.eif_grammar.specs.Forms.{operator, prefix_operator, left_level, right_level, unary_level, target_level}
use Rattle.eif_grammar.specs.Literals.{integer_value, character_value, string_value}
use Rattle.eif_grammar.specs.Spelling as spelling
use Rattle.eif_grammar.specs.Spelling.{Spelling}
use Rattle.eif_grammar.specs.SpelledTypes as types
use Rattle.eif_grammar.specs.SpelledExpressions as spelled
use Rattle.eif_spelled_trees.specs.WrittenTexts.{IsUnary, IsBinary, OfType, IsWritten, AreWritten}
use Rattle.eif_spelled_laws.proofs.Tests.{some_same}
use Rattle.eif_spelled_laws.proofs.Keeping.{Gives, Keeps, told, kept, both, ◌▸◌, first, either, also, stays, fact, one, token, the, the_at, name_at, the_name}

-- ---- types

mark : (m : Mark) (p q : Place) → Keeps (types.spells_mark m p q)
mark Plain p q = stays
mark Attached p q = either (the_at t.Exclamation p) (the_at t.Attached p)
mark Detachable p q = either (the_at t.Question p) (the_at t.Detachable p)

mutual
  pub type_tree : (ty : TypeT) → Keeps (types.spells_type ty)
  type_tree (type_at p q m n ts) = mark m p q ▸ name_at q n ▸ actuals ts

  actuals : (ts : Types) → Keeps (types.spells_actuals ts)
  actuals no_types = stays
  actuals (and_type a ts) = the t.OpenBracket ▸ type_tree a ▸ more_types ts ▸ the t.CloseBracket

  more_types : (ts : Types) → Keeps (types.spells_more_types ts)
  more_types no_types = stays
  more_types (and_type a ts) = the t.Comma ▸ type_tree a ▸ more_types ts

pub class_type : (ty : TypeT) → Keeps (types.spells_class_type ty)
class_type (type_at p q m n ts) = stays ▸ type_tree (type_at p q m n ts)

pub braced_type : (ty : TypeT) → Keeps (spelled.braced_type ty)
braced_type ty = the t.OpenBrace ▸ type_tree ty ▸ the t.CloseBrace

-- any type is written
abbrev pub any : TypeT → Type 0
any ty = Unit {0}

pub of_type : (ty : Option TypeT) → OfType any ty
of_type None = tt
of_type (Some ty) = tt

-- ---- literals and operators

literal_at : (p : Place) (x : Literal) → Keeps (spelled.spells_literal_at p x)
literal_at p (lit.Int z) = token (λ w. (w.terminal ≡ t.Integer) × (w.place ≡ p) × (integer_value w.text ≡ z))
literal_at p (lit.Char b) = token (λ w. (w.terminal ≡ t.Character) × (w.place ≡ p) × (character_value w.text ≡ b))
literal_at p (lit.Text l) = token (λ w. (w.terminal ≡ t.StringText) × (w.place ≡ p) × (string_value w.text ≡ l))
literal_at p (lit.Bool true) = the_at t.True p
literal_at p (lit.Bool false) = the_at t.False p

abbrev is_not : Option Op → Bool
is_not (Some op.Not) = true
is_not _ = false

never_not : (x : Terminal) → is_not (operator x) ≡ false
never_not t.Not = refl
never_not _ = refl

-- `not` is no operator with two operands
sign_told : (o : Op) (x : Terminal) → operator x ≡ Some o → IsBinary o
sign_told op.Not x e = let clash : true ≡ false = sym (ap is_not e) ∙ never_not x in cc
sign_told _ x e = tt

sign : (o : Op) (p : Place) → Gives (spelling.one (λ w. (operator w.terminal ≡ Some o) × (w.place ≡ p))) (IsBinary o)
sign o p = one (λ w. (operator w.terminal ≡ Some o) × (w.place ≡ p)) (IsBinary o) (λ w h. sign_told o w.terminal h.0)

binary_sign : (o : Op) (p : Place) → Gives (spelled.spells_operator o p) (IsBinary o)
binary_sign op.AndThen p = the_at t.And p ▸ the t.Then
binary_sign op.And p = the_at t.And p ▸ stays
binary_sign op.OrElse p = the_at t.Or p ▸ the t.Else
binary_sign op.Or p = the_at t.Or p ▸ stays
binary_sign op.Not p = sign op.Not p
binary_sign op.Implies p = sign op.Implies p
binary_sign op.Xor p = sign op.Xor p
binary_sign op.Equal p = sign op.Equal p
binary_sign op.NotEqual p = sign op.NotEqual p
binary_sign op.Less p = sign op.Less p
binary_sign op.Greater p = sign op.Greater p
binary_sign op.LessEqual p = sign op.LessEqual p
binary_sign op.GreaterEqual p = sign op.GreaterEqual p
binary_sign op.Plus p = sign op.Plus p
binary_sign op.Minus p = sign op.Minus p
binary_sign op.Times p = sign op.Times p
binary_sign op.Divide p = sign op.Divide p
binary_sign op.Modulo p = sign op.Modulo p
binary_sign op.Power p = sign op.Power p

prefix_told : (x : Terminal) (o : Op) → prefix_operator x ≡ Some o → IsUnary o
prefix_told t.Not o e = subst IsUnary (some_same e) tt
prefix_told t.Plus o e = subst IsUnary (some_same e) tt
prefix_told t.Minus o e = subst IsUnary (some_same e) tt
prefix_told _ o e = cc

-- ---- expressions

parent_name : (n : Option NameAt) → Keeps (spelled.spells_parent_name n)
parent_name None = stays
parent_name (Some n) = the t.OpenBrace ▸ the_name n ▸ the t.CloseBrace

tested_type : (ty : Option TypeT) → Keeps (spelled.spells_tested_type ty)
tested_type None = stays
tested_type (Some ty) = braced_type ty

test_local : (l : Option NameAt) → Keeps (spelled.spells_test_local l)
test_local None = stays
test_local (Some n) = the t.As ▸ kept (the_name n)

attached_test : {X : Type 0} {s : Spelling} (p : Place) (ty : Option TypeT) (l : Option NameAt) → Gives s X
    → Gives (spelled.attached_test p ty l s) X
attached_test p ty l g = the_at t.Attached p ▸ tested_type ty ▸ first g (test_local l)

tested : {X : Type 0} {s : Spelling} (p : Place) (ty : Option TypeT) (l : Option NameAt) → Gives s X
    → Gives (spelled.spells_test p ty l s) X
tested p (Some ty) (Some l) g = either (attached_test p (Some ty) (Some l) g)
    (the_at t.OpenBrace p ▸ the_name l ▸ the t.Colon ▸ type_tree ty ▸ the t.CloseBrace ▸ g)
tested p (Some ty) None g = attached_test p (Some ty) None g
tested p None l g = attached_test p None l g

pub creator : (n : Option NameAt) (args : Exs) {s : Spelling} → Gives s (AreWritten any args)
    → Gives (spelled.spells_creator n args s) (AreWritten any args)
creator None args g = told (λ e. subst (AreWritten any) (sym e) tt) (first fact stays)
creator (Some n) args g = the t.Dot ▸ the_name n ▸ g

mutual
  pub expression_at : (e : Ex) (k : ℕ) → Gives (spelled.spells e k) (IsWritten any e)
  expression_at (literal p x) k = also (literal_at p x)
  expression_at (void_value p) k = also (the_at t.Void p)
  expression_at (current_value p) k = also (the_at t.Current p)
  expression_at (result_value p) k = also (the_at t.Result p)
  expression_at (unqualified p n args) k = also (both (name_at p n) (arguments args))
  expression_at (precursor p n args) k = also (the_at t.Precursor p ▸ parent_name n ▸ arguments args)
  expression_at (qualified p e n args) k =
      also (stays ▸ both (expression_at e target_level) (the t.Dot ▸ the_name n ▸ arguments args))
  expression_at (creation p ty n args) k =
      told (λ x. (tt, x)) (also (the_at t.Create p ▸ braced_type ty ▸ creator n args (arguments args)))
  expression_at (test p ty l e) k =
      told (λ x. (of_type ty, x)) (stays ▸ tested p ty l (also (expression_at e target_level)))
  expression_at (paren p e) k =
      also (the_at t.OpenParenthesis p ▸ first (also (expression_at e 1)) (the t.CloseParenthesis))
  expression_at (unary p o e) k =
      stays
      ▸ both (one (λ w. (prefix_operator w.terminal ≡ Some o) × (w.place ≡ p)) (IsUnary o)
      (λ w h. prefix_told w.terminal o h.0))
      (expression_at e unary_level)
  expression_at (binary p o q l r) k =
      told (λ x. (x.1.0, x.0, x.1.1))
      (stays ▸ both (expression_at l (left_level o)) (both (binary_sign o q) (also (expression_at r (right_level o)))))

  pub arguments : (es : Exs) → Gives (spelled.spells_arguments es) (AreWritten any es)
  arguments no_exs = stays
  arguments (and_ex e es) =
      the t.OpenParenthesis ▸ both (also (expression_at e 1)) (first (more_arguments es) (the t.CloseParenthesis))

  more_arguments : (es : Exs) → Gives (spelled.spells_more es) (AreWritten any es)
  more_arguments no_exs = stays
  more_arguments (and_ex e es) = the t.Comma ▸ both (also (expression_at e 1)) (more_arguments es)

pub expression : (e : Ex) → Gives (spelled.spells_expression e) (IsWritten any e)
expression e = also (expression_at e 1)
