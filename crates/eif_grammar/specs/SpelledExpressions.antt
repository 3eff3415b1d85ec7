-- Which tokens spell an expression.
use Rattle.std.specs.Prelude.{◌≡◌, ◌≢◌, ◌≤◌, ◌<◌, ◌⊎◌, ℕ, true, false, Option, Some, None}
use Rattle.eif_base.specs.declared.Place.{Place}
use Rattle.eif_tree.specs.declared.NameAt.{NameAt}
use Rattle.eif_tree.specs.declared.Op.{Op}
use Rattle.eif_tree.specs.declared.Op.TheVariants as op
use Rattle.eif_tree.specs.declared.Literal.{Literal}
use Rattle.eif_tree.specs.declared.Literal.TheVariants as lit
use Rattle.eif_tree.specs.Tree.{TypeT, Ex, Exs, literal, void_value, current_value, result_value, unqualified, precursor, qualified, creation, test, paren, unary, binary, no_exs, and_ex}
use Rattle.eif_tree.specs.ExpressionPlaces.{place_of}
use Rattle.eif_grammar.specs.declared.terminal.Terminal.TheVariants as t
use Rattle.eif_grammar.specs.Literals.{integer_value, character_value, string_value}
use Rattle.eif_grammar.specs.Forms.{level, left_level, right_level, operator, prefix_operator, binds, unary_level, target_level}
use Rattle.eif_grammar.specs.Spelling.{Spelling, head, ◌⨟◌, ◌or◌, given, before, one, the, the_at, name_at, the_name}
use Rattle.eif_grammar.specs.SpelledTypes.{spells_type}

-- No operator of that level follows: the longest reading.
abbrev pub full : ℕ → Spelling → Spelling
full k a tokens rest = a tokens rest × (binds (head rest) < k)

-- no dot follows: the longest reading of a chain of calls
abbrev pub undotted : Spelling → Spelling
undotted a tokens rest = a tokens rest × (head rest ≢ t.Dot)

-- a chain of calls: the target of a longer one, or no dot follows
abbrev pub chain : ℕ → Spelling → Spelling
chain k a tokens rest = a tokens rest × ((k ≡ target_level) ⊎ (head rest ≢ t.Dot))

abbrev pub spells_literal_at : Place → Literal → Spelling
spells_literal_at p (lit.Int z) = one (λ token. (token.terminal ≡ t.Integer) × (token.place ≡ p) × (integer_value token.text ≡ z))
spells_literal_at p (lit.Char b) = one (λ token. (token.terminal ≡ t.Character) × (token.place ≡ p) × (character_value token.text ≡ b))
spells_literal_at p (lit.Text bytes) = one (λ token. (token.terminal ≡ t.StringText) × (token.place ≡ p) × (string_value token.text ≡ bytes))
spells_literal_at p (lit.Bool true) = the_at t.True p
spells_literal_at p (lit.Bool false) = the_at t.False p

-- a binary operator whose first token stands at that place
abbrev pub spells_operator : Op → Place → Spelling
spells_operator op.AndThen p = the_at t.And p ⨟ the t.Then
spells_operator op.And p = the_at t.And p ⨟ before (λ x. x ≢ t.Then)
spells_operator op.OrElse p = the_at t.Or p ⨟ the t.Else
spells_operator op.Or p = the_at t.Or p ⨟ before (λ x. x ≢ t.Else)
spells_operator o p = one (λ token. (operator token.terminal ≡ Some o) × (token.place ≡ p))

-- `{T}`
abbrev pub braced_type : TypeT → Spelling
braced_type ty = the t.OpenBrace ⨟ spells_type ty ⨟ the t.CloseBrace

-- the parent that a Precursor names
abbrev pub spells_parent_name : Option NameAt → Spelling
spells_parent_name None = before (λ x. x ≢ t.OpenBrace)
spells_parent_name (Some n) = the t.OpenBrace ⨟ the_name n ⨟ the t.CloseBrace

abbrev pub spells_tested_type : Option TypeT → Spelling
spells_tested_type None = before (λ x. x ≢ t.OpenBrace)
spells_tested_type (Some ty) = braced_type ty

abbrev pub spells_test_local : Option NameAt → Spelling
spells_test_local None = before (λ x. x ≢ t.As)
spells_test_local (Some n) = the t.As ⨟ the_name n

-- `attached {T} e as x`, with the type and the local as they are written
abbrev pub attached_test : Place → Option TypeT → Option NameAt → Spelling → Spelling
attached_test p ty l value = the_at t.Attached p ⨟ spells_tested_type ty ⨟ value ⨟ spells_test_local l

-- `{x: T} e`
abbrev pub braced_test : Place → TypeT → NameAt → Spelling → Spelling
braced_test p ty l value = the_at t.OpenBrace p ⨟ the_name l ⨟ the t.Colon ⨟ spells_type ty ⨟ the t.CloseBrace ⨟ value

-- both spellings of an object test
abbrev pub spells_test : Place → Option TypeT → Option NameAt → Spelling → Spelling
spells_test p (Some ty) (Some l) value = attached_test p (Some ty) (Some l) value or braced_test p ty l value
spells_test p (Some ty) None value = attached_test p (Some ty) None value
spells_test p None l value = attached_test p None l value

-- what stands behind the type or target of a creation: its procedure and the arguments
abbrev pub spells_creator : Option NameAt → Exs → Spelling → Spelling
spells_creator None args spelled = given (args ≡ no_exs) ⨟ before (λ x. x ≢ t.Dot)
spells_creator (Some n) args spelled = the t.Dot ⨟ the_name n ⨟ spelled

abbrev mutual
  -- An expression that is as tight as the level or tighter: a binary one of that level or above, a unary one or a test, a chain of calls, the target of one.
  pub spells : Ex → ℕ → Spelling
  spells (literal p x) k = chain k (spells_literal_at p x)
  spells (void_value p) k = chain k (the_at t.Void p)
  spells (current_value p) k = chain k (the_at t.Current p)
  spells (result_value p) k = chain k (the_at t.Result p)
  spells (unqualified p n args) k = chain k (name_at p n ⨟ spells_arguments args)
  spells (precursor p n args) k = chain k (the_at t.Precursor p ⨟ spells_parent_name n ⨟ spells_arguments args)
  spells (qualified p e n args) k =
      chain k (given (p ≡ place_of e) ⨟ spells e target_level ⨟ the t.Dot ⨟ the_name n ⨟ spells_arguments args)
  spells (creation p ty n args) k = chain k (the_at t.Create p ⨟ braced_type ty ⨟ spells_creator n args (spells_arguments args))
  spells (test p ty l e) k = given (k ≤ unary_level) ⨟ spells_test p ty l (undotted (spells e target_level))
  spells (paren p e) k = chain k (the_at t.OpenParenthesis p ⨟ full 1 (spells e 1) ⨟ the t.CloseParenthesis)
  spells (unary p o e) k =
      given (k ≤ unary_level) ⨟ one (λ token. (prefix_operator token.terminal ≡ Some o) × (token.place ≡ p)) ⨟ spells e unary_level
  spells (binary p o q l r) k =
      given ((k ≤ level o) × (p ≡ place_of l)) ⨟ spells l (left_level o) ⨟ spells_operator o q
      ⨟ full (right_level o) (spells r (right_level o))

  -- arguments, if there are any
  pub spells_arguments : Exs → Spelling
  spells_arguments no_exs = before (λ x. x ≢ t.OpenParenthesis)
  spells_arguments (and_ex e es) = the t.OpenParenthesis ⨟ full 1 (spells e 1) ⨟ spells_more es ⨟ the t.CloseParenthesis

  pub spells_more : Exs → Spelling
  spells_more no_exs = before (λ x. x ≢ t.Comma)
  spells_more (and_ex e es) = the t.Comma ⨟ full 1 (spells e 1) ⨟ spells_more es

-- a whole expression
abbrev pub spells_expression : Ex → Spelling
spells_expression e = full 1 (spells e 1)
