-- Tests on terminals, and single tokens.
use Rattle.std.proofs.Common.{◌≡◌, ◌≢◌, true, false, Bool, ℕ, zero, suc, List, [], ◌∷◌, refl, ap, sym, ◌∙◌, subst, arith}
use Rattle.std.proofs.lemmas.Bool.Decides.{nat_tests}
use Rattle.eif_grammar.specs.declared.terminal.Terminal.{Terminal}
use Rattle.eif_grammar.specs.declared.terminal.Terminal.TheVariants as t
use Rattle.eif_grammar.specs.Tokens.{Token}
use Rattle.eif_grammar.specs.Is.{index, is}
use Rattle.eif_grammar.specs.Spelling.{head, one}
use Rattle.eif_grammar.specs.Goals.{token}
use Rattle.eif_grammar.specs.Reader.{Reader, on, expect}
use Rattle.eif_grammar.specs.Outcomes.{Outcome, got, refused, Runs, Calls}
use Rattle.eif_grammar_laws.proofs.Readers.{by_rule, called, taken, looked, guarded, guard_refused, forked, forked_not, ended}

-- the terminal with that index
block_9 : ℕ → Terminal
block_9 zero = t.Exclamation
block_9 (suc zero) = t.Arrow
block_9 (suc (suc zero)) = t.LeftOutWord
block_9 (suc (suc (suc zero))) = t.LeftOutSymbol
block_9 (suc (suc (suc (suc zero)))) = t.EndOfText
block_9 _ = t.EndOfText

block_8 : ℕ → Terminal
block_8 zero = t.GreaterEqual
block_8 (suc zero) = t.Plus
block_8 (suc (suc zero)) = t.Minus
block_8 (suc (suc (suc zero))) = t.Times
block_8 (suc (suc (suc (suc zero)))) = t.Divide
block_8 (suc (suc (suc (suc (suc zero))))) = t.Modulo
block_8 (suc (suc (suc (suc (suc (suc zero)))))) = t.Power
block_8 (suc (suc (suc (suc (suc (suc (suc zero))))))) = t.Question
block_8 (suc (suc (suc (suc (suc (suc (suc (suc n)))))))) = block_9 n

block_7 : ℕ → Terminal
block_7 zero = t.Colon
block_7 (suc zero) = t.Dot
block_7 (suc (suc zero)) = t.Assign
block_7 (suc (suc (suc zero))) = t.Equal
block_7 (suc (suc (suc (suc zero)))) = t.NotEqual
block_7 (suc (suc (suc (suc (suc zero))))) = t.Less
block_7 (suc (suc (suc (suc (suc (suc zero)))))) = t.Greater
block_7 (suc (suc (suc (suc (suc (suc (suc zero))))))) = t.LessEqual
block_7 (suc (suc (suc (suc (suc (suc (suc (suc n)))))))) = block_8 n

block_6 : ℕ → Terminal
block_6 zero = t.OpenParenthesis
block_6 (suc zero) = t.CloseParenthesis
block_6 (suc (suc zero)) = t.OpenBracket
block_6 (suc (suc (suc zero))) = t.CloseBracket
block_6 (suc (suc (suc (suc zero)))) = t.OpenBrace
block_6 (suc (suc (suc (suc (suc zero))))) = t.CloseBrace
block_6 (suc (suc (suc (suc (suc (suc zero)))))) = t.Comma
block_6 (suc (suc (suc (suc (suc (suc (suc zero))))))) = t.Semicolon
block_6 (suc (suc (suc (suc (suc (suc (suc (suc n)))))))) = block_7 n

block_5 : ℕ → Terminal
block_5 zero = t.Select
block_5 (suc zero) = t.Then
block_5 (suc (suc zero)) = t.True
block_5 (suc (suc (suc zero))) = t.Undefine
block_5 (suc (suc (suc (suc zero)))) = t.Until
block_5 (suc (suc (suc (suc (suc zero))))) = t.Variant
block_5 (suc (suc (suc (suc (suc (suc zero)))))) = t.Void
block_5 (suc (suc (suc (suc (suc (suc (suc zero))))))) = t.Xor
block_5 (suc (suc (suc (suc (suc (suc (suc (suc n)))))))) = block_6 n

block_4 : ℕ → Terminal
block_4 zero = t.Note
block_4 (suc zero) = t.Obsolete
block_4 (suc (suc zero)) = t.Or
block_4 (suc (suc (suc zero))) = t.Precursor
block_4 (suc (suc (suc (suc zero)))) = t.Redefine
block_4 (suc (suc (suc (suc (suc zero))))) = t.Rename
block_4 (suc (suc (suc (suc (suc (suc zero)))))) = t.Require
block_4 (suc (suc (suc (suc (suc (suc (suc zero))))))) = t.Result
block_4 (suc (suc (suc (suc (suc (suc (suc (suc n)))))))) = block_5 n

block_3 : ℕ → Terminal
block_3 zero = t.From
block_3 (suc zero) = t.If
block_3 (suc (suc zero)) = t.Implies
block_3 (suc (suc (suc zero))) = t.Inherit
block_3 (suc (suc (suc (suc zero)))) = t.Invariant
block_3 (suc (suc (suc (suc (suc zero))))) = t.Local
block_3 (suc (suc (suc (suc (suc (suc zero)))))) = t.Loop
block_3 (suc (suc (suc (suc (suc (suc (suc zero))))))) = t.Not
block_3 (suc (suc (suc (suc (suc (suc (suc (suc n)))))))) = block_4 n

block_2 : ℕ → Terminal
block_2 zero = t.Do
block_2 (suc zero) = t.Else
block_2 (suc (suc zero)) = t.Elseif
block_2 (suc (suc (suc zero))) = t.End
block_2 (suc (suc (suc (suc zero)))) = t.Ensure
block_2 (suc (suc (suc (suc (suc zero))))) = t.Export
block_2 (suc (suc (suc (suc (suc (suc zero)))))) = t.False
block_2 (suc (suc (suc (suc (suc (suc (suc zero))))))) = t.Feature
block_2 (suc (suc (suc (suc (suc (suc (suc (suc n)))))))) = block_3 n

block_1 : ℕ → Terminal
block_1 zero = t.As
block_1 (suc zero) = t.Attached
block_1 (suc (suc zero)) = t.Check
block_1 (suc (suc (suc zero))) = t.Class
block_1 (suc (suc (suc (suc zero)))) = t.Create
block_1 (suc (suc (suc (suc (suc zero))))) = t.Current
block_1 (suc (suc (suc (suc (suc (suc zero)))))) = t.Deferred
block_1 (suc (suc (suc (suc (suc (suc (suc zero))))))) = t.Detachable
block_1 (suc (suc (suc (suc (suc (suc (suc (suc n)))))))) = block_2 n

block_0 : ℕ → Terminal
block_0 zero = t.Identifier
block_0 (suc zero) = t.Integer
block_0 (suc (suc zero)) = t.Real
block_0 (suc (suc (suc zero))) = t.Character
block_0 (suc (suc (suc (suc zero)))) = t.StringText
block_0 (suc (suc (suc (suc (suc zero))))) = t.Verbatim
block_0 (suc (suc (suc (suc (suc (suc zero)))))) = t.All
block_0 (suc (suc (suc (suc (suc (suc (suc zero))))))) = t.And
block_0 (suc (suc (suc (suc (suc (suc (suc (suc n)))))))) = block_1 n

at_index-index : (x : Terminal) → block_0 (index x) ≡ x
unfolding block_0 block_1 block_2 block_3 block_4 block_5 block_6 block_7 block_8 block_9
at_index-index t.Identifier = refl
at_index-index _ = refl

-- the test says that two terminals are one
pub is_same : (x y : Terminal) → is x y ≡ true → x ≡ y
is_same x y e =
    let indices : index x ≡ index y = grind (arith, nat_tests) in
    sym (at_index-index x) ∙ ap block_0 indices ∙ at_index-index y

pub is_self : (x : Terminal) → is x x ≡ true
is_self x = grind (arith, nat_tests)

pub is_other : (x y : Terminal) → is x y ≡ false → y ≢ x
is_other x y e same = let same' : is x x ≡ false = subst (λ z. is x z ≡ false) same e in let yes' = is_self x in cc

pub is_not : (x y : Terminal) → y ≢ x → is x y ≡ false
is_not x y h = by_test (is x y) refl
  where
    by_test : (b : Bool) → is x y ≡ b → is x y ≡ false
    by_test true e = absurd (h (sym (is_same x y e)))
    by_test false e = e

-- ---- readers that go by one terminal

-- the token is there
pub on_found : {A : Type 0} {x : Terminal} {r s : Reader A} {ts : List Token} {o : Outcome A} → head ts ≡ x → Runs r ts o → Runs (on x r s) ts o
on_found {A} {x} {r} {s} {ts} {o} e h = looked (forked (ap (is x) e ∙ is_self x) h)

-- another stands there
pub on_other : {A : Type 0} {x : Terminal} {r s : Reader A} {ts : List Token} {o : Outcome A} → head ts ≢ x → Runs s ts o → Runs (on x r s) ts o
on_other {A} {x} {r} {s} {ts} {o} e h = looked (forked_not (is_not x (head ts) e) h)

-- one token of that terminal is found
pub token_found : {x : Terminal} {n : Token} {ts : List Token} → n.terminal ≡ x → Calls (token x) (n ∷ ts) (got n ts)
token_found {x} {n} {ts} e = by_rule (looked (guarded (ap (is x) e ∙ is_self x) (taken ended)))

-- another is refused
pub token_refused : {x : Terminal} {ts : List Token} → head ts ≢ x → Calls (token x) ts (refused ts)
token_refused {x} {ts} e = by_rule (looked (guard_refused (is_not x (head ts) e)))

pub expected : {A : Type 0} {x : Terminal} {r : Reader A} {n : Token} {ts : List Token} {o : Outcome A} → n.terminal ≡ x → Runs r ts o → Runs (expect x r) (n ∷ ts) o
expected e h = called (token_found e) h

-- ---- single tokens of a spelling

-- the token that a spelling of one token has
pub one_is : (P : Token → Type 0) (ts rest : List Token) → one P ts rest → (n : Token) × (ts ≡ n ∷ rest) × P n
one_is P [] rest s = absurd s
one_is P (n ∷ ts) rest (p, e) = (n, ap (λ l. n ∷ l) e, p)

pub one_here : (P : Token → Type 0) {n : Token} {ts rest : List Token} → ts ≡ n ∷ rest → P n → one P ts rest
one_here P {n} {ts} {rest} e p = subst (λ x. one P x rest) (sym e) (p, refl)
