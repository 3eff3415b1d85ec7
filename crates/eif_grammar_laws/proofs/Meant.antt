-- What a rule's goals and tokens say, whatever the class goals mean.
use Rattle.std.proofs.Common.{◌≡◌, ◌≢◌, ℕ, ◌<◌, nat_lt, true, false, List, ◌∷◌, refl, ap, sym, ◌∙◌, arith}
use Rattle.std.proofs.lemmas.Bool.Decides.{nat_tests}
use Rattle.std.specs.Str.{str_to_ascii_lowercase}
use Rattle.eif_grammar.specs.declared.terminal.Terminal.{Terminal}
use Rattle.eif_grammar.specs.declared.terminal.Terminal.TheVariants as t
use Rattle.eif_grammar.specs.Tokens.{Token}
use Rattle.eif_grammar.specs.Is.{is}
use Rattle.eif_grammar.specs.Spelling.{head, before, the, the_at, name_at}
use Rattle.eif_grammar.specs.Goals.{TypeGoal, TypeFound, ExpressionGoal, ExpressionFound, InstructionGoal, InstructionFound, type_goal, expression_goal, instruction_goal, token}
use Rattle.eif_grammar.specs.Outcomes.{rule}
use Rattle.eif_grammar_laws.proofs.Readers.{Meanings, Means}
use Rattle.eif_grammar_laws.proofs.Terminals.{is_same, is_other, one_here}
use Rattle.eif_grammar_laws.proofs.Meanings.{TypeMeans, ExpressionMeans, InstructionMeans}

-- what the rules for types and expressions go by: their goals and tokens mean what they find
pub record ExpressionsMeant (M : Meanings) : Type 0 where
  pub types : {g : TypeGoal} {a : TypeFound g} {ts rest : List Token} → M (type_goal g) a ts rest → TypeMeans g a ts rest
  pub expressions : {g : ExpressionGoal} {a : ExpressionFound g} {ts rest : List Token} → M (expression_goal g) a ts rest → ExpressionMeans g a ts rest
  pub tokens : {x : Terminal} {n : Token} {ts rest : List Token} → M (token x) n ts rest → (n.terminal ≡ x) × (ts ≡ n ∷ rest)

-- the same, and instructions
pub record Meant (M : Meanings) : Type 0 where
  pub types : {g : TypeGoal} {a : TypeFound g} {ts rest : List Token} → M (type_goal g) a ts rest → TypeMeans g a ts rest
  pub expressions : {g : ExpressionGoal} {a : ExpressionFound g} {ts rest : List Token} → M (expression_goal g) a ts rest → ExpressionMeans g a ts rest
  pub instructions : {g : InstructionGoal} {a : InstructionFound g} {ts rest : List Token} → M (instruction_goal g) a ts rest → InstructionMeans g a ts rest
  pub tokens : {x : Terminal} {n : Token} {ts rest : List Token} → M (token x) n ts rest → (n.terminal ≡ x) × (ts ≡ n ∷ rest)

pub expressions_meant : {M : Meanings} → Meant M → ExpressionsMeant M
expressions_meant m = record { types = m.types; expressions = m.expressions; tokens = m.tokens }

-- a token's rule finds that token
pub token_form : (M : Meanings) (x : Terminal) (n : Token) (ts rest : List Token) → Means M (rule (token x)) n ts rest → (n.terminal ≡ x) × (ts ≡ n ∷ rest)
token_form M x n ts rest (y, found, (passes, (w, more, eq, (it, end)))) =
    let same : w.terminal ≡ y = sym (ap head eq) ∙ found in
    rw (← it, ← end) (same ∙ sym (is_same x y passes), eq)

-- ---- the next token, by what a rule saw of it

-- the token that was taken is the one that was seen
pub seen : {x : Terminal} {n : Token} {ts more : List Token} → head ts ≡ x → ts ≡ n ∷ more → (n.terminal ≡ x) × (ts ≡ n ∷ more)
seen found eq = (sym (ap head eq) ∙ found, eq)

pub the_here : {x : Terminal} {n : Token} {ts more : List Token} → (n.terminal ≡ x) × (ts ≡ n ∷ more) → the x ts more
the_here {x} (found, eq) = one_here (λ y. y.terminal ≡ x) eq found

pub the_at_here : {x : Terminal} {n : Token} {ts more : List Token} → (n.terminal ≡ x) × (ts ≡ n ∷ more) → the_at x n.place ts more
the_at_here {x} {n} (found, eq) = one_here (λ y. (y.terminal ≡ x) × (y.place ≡ n.place)) eq (found, refl)

pub name_here : {n : Token} {ts more : List Token} → (n.terminal ≡ t.Identifier) × (ts ≡ n ∷ more) → name_at n.place (str_to_ascii_lowercase n.text) ts more
name_here {n} (found, eq) =
    one_here (λ y. (y.terminal ≡ t.Identifier) × (y.place ≡ n.place) × (str_to_ascii_lowercase y.text ≡ str_to_ascii_lowercase n.text)) eq (found, refl, refl)

-- the test on the next token says which it is
pub tested_is : (ts : List Token) (x y : Terminal) → head ts ≡ y → is x y ≡ true → head ts ≡ x
tested_is ts x y found same = found ∙ sym (is_same x y same)

pub not_there : (x : Terminal) {y z : Terminal} → z ≡ y → is x y ≡ false → z ≢ x
not_there x {y} {z} found other same = is_other x y other (sym found ∙ same)

pub tested_other : (ts : List Token) (x y : Terminal) → head ts ≡ y → is x y ≡ false → before (λ z. z ≢ x) ts ts
tested_other ts x y found other = (not_there x found other, refl)

-- the token that was tested for is taken
pub took : (x : Terminal) {y : Terminal} {n : Token} {ts more : List Token} → head ts ≡ y → is x y ≡ true → ts ≡ n ∷ more → the x ts more
took x {y} {n} {ts} found same eq = the_here (seen (tested_is ts x y found same) eq)

-- room for one more level
pub room_below : (a room : ℕ) → nat_lt a room ≡ true → a < room
room_below a room e = grind (arith, nat_tests)
