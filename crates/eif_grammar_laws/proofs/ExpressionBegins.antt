-- What is spelled as an expression begins with a token that begins one.
use Rattle.std.proofs.Common.{◌≡◌, ℕ, true, false, Option, Some, None, List, [], ◌∷◌, refl, ap, inl, inr}
use Rattle.eif_base.specs.declared.Place.{Place}
use Rattle.eif_tree.specs.declared.NameAt.{NameAt}
use Rattle.eif_tree.specs.declared.Op.{Op}
use Rattle.eif_tree.specs.declared.Literal.{Literal}
use Rattle.eif_tree.specs.declared.Literal.TheVariants as lit
use Rattle.eif_tree.specs.Tree.{TypeT, Ex, literal, void_value, current_value, result_value, unqualified, precursor, qualified, creation, test, paren, unary, binary}
use Rattle.eif_grammar.specs.declared.terminal.Terminal.{Terminal}
use Rattle.eif_grammar.specs.declared.terminal.Terminal.TheVariants as t
use Rattle.eif_grammar.specs.Tokens.{Token}
use Rattle.eif_grammar.specs.Forms.{left_level, prefix_operator, target_level, begins_expression}
use Rattle.eif_grammar.specs.Spelling.{Spelling, head, ◌⨟◌, one}
use Rattle.eif_grammar.specs.SpelledExpressions.{spells_literal_at, spells_test, spells, spells_expression}
use Rattle.eif_grammar.specs.SpelledInstructions.{tag}
use Rattle.eif_grammar_laws.proofs.Taken.{head_the, head_at, head_name}

prefix_begins : (x : Terminal) (o : Op) → prefix_operator x ≡ Some o → begins_expression x ≡ true
prefix_begins t.Not o e = refl
prefix_begins t.Plus o e = refl
prefix_begins t.Minus o e = refl
prefix_begins _ o e = cc

sign_begins : (p : Place) (o : Op) (ts mid : List Token) → one (λ token. (prefix_operator token.terminal ≡ Some o) × (token.place ≡ p)) ts mid → begins_expression (head ts) ≡ true
sign_begins p o [] mid s = absurd s
sign_begins p o (w ∷ ts) mid s = prefix_begins w.terminal o s.0.0

literal_begins : (p : Place) (x : Literal) (ts mid : List Token) → spells_literal_at p x ts mid → begins_expression (head ts) ≡ true
literal_begins p (lit.Int z) [] mid s = absurd s
literal_begins p (lit.Int z) (w ∷ ts) mid s = ap begins_expression s.0.0
literal_begins p (lit.Char b) [] mid s = absurd s
literal_begins p (lit.Char b) (w ∷ ts) mid s = ap begins_expression s.0.0
literal_begins p (lit.Text bytes) [] mid s = absurd s
literal_begins p (lit.Text bytes) (w ∷ ts) mid s = ap begins_expression s.0.0
literal_begins p (lit.Bool true) ts mid s = ap begins_expression (head_at t.True p ts mid s)
literal_begins p (lit.Bool false) ts mid s = ap begins_expression (head_at t.False p ts mid s)

test_begins : (p : Place) (ty : Option TypeT) (l : Option NameAt) (value : Spelling) (ts mid : List Token) → spells_test p ty l value ts mid → begins_expression (head ts) ≡ true
test_begins p (Some ty) (Some l) value ts mid (inl (m, word, more)) = ap begins_expression (head_at t.Attached p ts m word)
test_begins p (Some ty) (Some l) value ts mid (inr (m, brace, more)) = ap begins_expression (head_at t.OpenBrace p ts m brace)
test_begins p (Some ty) None value ts mid (m, word, more) = ap begins_expression (head_at t.Attached p ts m word)
test_begins p None l value ts mid (m, word, more) = ap begins_expression (head_at t.Attached p ts m word)

pub spells_begins : (e : Ex) (k : ℕ) (ts mid : List Token) → spells e k ts mid → begins_expression (head ts) ≡ true
spells_begins (literal p x) k ts mid s = literal_begins p x ts mid s.0
spells_begins (void_value p) k ts mid s = ap begins_expression (head_at t.Void p ts mid s.0)
spells_begins (current_value p) k ts mid s = ap begins_expression (head_at t.Current p ts mid s.0)
spells_begins (result_value p) k ts mid s = ap begins_expression (head_at t.Result p ts mid s.0)
spells_begins (unqualified p n args) k ts mid s = ap begins_expression (head_name p n ts s.0.0 s.0.1)
spells_begins (precursor p n args) k ts mid s = ap begins_expression (head_at t.Precursor p ts s.0.0 s.0.1)
spells_begins (qualified p e n args) k ts mid ((m0, (pl, eq), (m1, se, more)), end) = spells_begins e target_level ts m1 (rw eq se)
spells_begins (creation p ty n args) k ts mid s = ap begins_expression (head_at t.Create p ts s.0.0 s.0.1)
spells_begins (test p ty l e) k ts mid (m0, (lv, eq), s) = rw eq (test_begins p ty l _ m0 mid s)
spells_begins (paren p e) k ts mid s = ap begins_expression (head_at t.OpenParenthesis p ts s.0.0 s.0.1)
spells_begins (unary p o e) k ts mid (m0, (lv, eq), (m1, sign, se)) = rw eq (sign_begins p o m0 m1 sign)
spells_begins (binary p o q l r) k ts mid (m0, (lv, eq), (m1, sl, more)) = spells_begins l (left_level o) ts m1 (rw eq sl)

-- an assertion begins as its tag or its expression
pub assertion_begins : (e : Ex) (ts rest : List Token) → (tag ⨟ spells_expression e) ts rest → begins_expression (head ts) ≡ true
assertion_begins e ts rest (mid, inl (m, name, colon), se) = ap begins_expression (head_the t.Identifier ts m name)
assertion_begins e ts rest (mid, inr (apart, eq), se) = rw eq (spells_begins e 1 mid rest se.0)
