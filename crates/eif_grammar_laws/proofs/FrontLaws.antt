-- Where a goal refuses is the first token past the longest front that begins what it reads.
use Rattle.std.proofs.Common.{◌≡◌, ◌≢◌, true, ℕ, ◌≤◌, Option, List, [], ◌++◌, refl, sym, ◌⊎◌, inl, inr, arith}
use Rattle.eif_tree.specs.Tree.{ClassT}
use Rattle.eif_grammar.specs.declared.terminal.Terminal.{Terminal}
use Rattle.eif_grammar.specs.declared.terminal.Terminal.TheVariants as t
use Rattle.eif_grammar.specs.Tokens.{Token}
use Rattle.eif_grammar.specs.Goals
use Rattle.eif_grammar.specs.Goals.{Goal, Found, type_goal, expression_goal, instruction_goal, class_goal}
use Rattle.eif_grammar.specs.Outcomes.{got, refused, Calls}
use Rattle.eif_grammar.specs.Parts.{TypePart, ExpressionPart, CompoundPart, TextPart, NoPart, LongestFront}
use Rattle.eif_grammar_laws.specs.Laws.{ClassPart}
use Rattle.eif_grammar_laws.proofs.Endings.{stops, HasRoom}
use Rattle.eif_grammar_laws.proofs.Stable.{stable, calls_suffix}
use Rattle.eif_grammar_laws.proofs.Takes.{all_take}
use Rattle.eif_grammar_laws.proofs.ClassStill.{all_steady}
use Rattle.eif_grammar_laws.proofs.Fronts.{Completes}
use Rattle.eif_grammar_laws.proofs.Completions.{Sample}
use Rattle.eif_grammar_laws.proofs.ExpressionSound.{type_means, expression_means}
use Rattle.eif_grammar_laws.proofs.TypeLaws.{no_type}
use Rattle.eif_grammar_laws.proofs.ExpressionLaws.{no_expression}
use Rattle.eif_grammar_laws.proofs.InstructionSound.{instruction_means}
use Rattle.eif_grammar_laws.proofs.InstructionLaws.{no_compound}
use Rattle.eif_grammar_laws.proofs.ClassLaws.{class_part, no_class, no_text_where_refused, no_text_where_left}
use Rattle.eif_grammar_laws.proofs.TypeViable.{a_type}
use Rattle.eif_grammar_laws.proofs.ExpressionViable.{an_expression}
use Rattle.eif_grammar_laws.proofs.InstructionViable.{no_instructions}
use Rattle.eif_grammar_laws.proofs.ClassViable.{a_class, fronts}

-- the tokens before those that are left begin something that the goal reads to the end
pub record Viable (g : Goal) (tokens left : List Token) : Type 0 where
  pub front : List Token
  pub begins : tokens ≡ front ++ left
  pub more : List Token
  pub value : Found g
  pub calls : Calls g (front ++ more) (got value [])

viable_by : (g : Goal) (b : Option Terminal) → Sample g b → stops g t.EndOfText ≡ true → (tokens left : List Token) → (left ≡ tokens) ⊎ Completes g tokens left → Viable g tokens left
viable_by g b s closes tokens left (inl same) = record { front = []; begins = sym same; more = s.word ++ []; value = s.value; calls = s.calls [] closes }
viable_by g b s closes tokens left (inr c) = record { front = c.front; begins = c.begins; more = c.word ++ []; value = c.value; calls = c.calls [] closes }

-- where a goal refuses
pub viable : (g : Goal) (b : Option Terminal) → Sample g b → stops g t.EndOfText ≡ true → HasRoom g → (tokens left : List Token) → Calls g tokens (refused left) → Viable g tokens left
viable g b s closes room tokens left c = viable_by g b s closes tokens left (fronts g tokens left room c)

-- for one kind of part, if what the goal reads to the end is one
module _ (g : Goal) (part : List Token → List Token → Found g → Type 0) (means : (tokens : List Token) (x : Found g) → Calls g tokens (got x []) → part tokens [] x) where
  pub longest : (tokens left : List Token) → Viable g tokens left → NoPart part tokens left → LongestFront part tokens left
  longest tokens left f none = record {
    front = f.front;
    begins = f.begins;
    viable = (f.more, f.value, means (f.front ++ f.more) f.value f.calls);
    longest = none;
  }

pub longest_type : (room : ℕ) (tokens left : List Token) → 1 ≤ room → Calls (type_goal (Goals.written room)) tokens (refused left) → LongestFront (TypePart room) tokens left
longest_type room tokens left some c =
    longest (type_goal (Goals.written room)) (TypePart room) (λ ts ty d. type_means (Goals.written room) ts ty [] d some) tokens left
    (viable (type_goal (Goals.written room)) _ (a_type room) refl some tokens left c) (no_type room tokens left c)

pub longest_expression : (room : ℕ) (tokens left : List Token) → 1 ≤ room → Calls (expression_goal (Goals.expression room 1)) tokens (refused left)
    → LongestFront (ExpressionPart room) tokens left
longest_expression room tokens left some c =
    longest (expression_goal (Goals.expression room 1)) (ExpressionPart room)
    (λ ts e d. expression_means (Goals.expression room 1) ts e [] d some (omega arith) (omega arith)) tokens left
    (viable (expression_goal (Goals.expression room 1)) _ (an_expression room 1) refl some tokens left c) (no_expression room tokens left c)

pub longest_compound : (room : ℕ) (tokens left : List Token) → Calls (instruction_goal (Goals.compound room)) tokens (refused left)
    → LongestFront (CompoundPart room) tokens left
longest_compound room tokens left c =
    longest (instruction_goal (Goals.compound room)) (CompoundPart room) (λ ts is d. instruction_means (Goals.compound room) ts is [] d) tokens left
    (viable (instruction_goal (Goals.compound room)) _ (no_instructions room) refl tt tokens left c) (no_compound room tokens left c)

-- ---- a class text

class_viable : (tokens left : List Token) → Calls (class_goal Goals.class_text) tokens (refused left) → Viable (class_goal Goals.class_text) tokens left
class_viable tokens left c = viable (class_goal Goals.class_text) _ a_class refl tt tokens left c

-- where tokens are left behind it
viable_behind : (tokens left : List Token) (x : ClassT) → Calls (class_goal Goals.class_text) tokens (got x left) → Viable (class_goal Goals.class_text) tokens left
viable_behind tokens left x c =
    let front = calls_suffix tokens left x c in
    let whole : Calls (class_goal Goals.class_text) (front.0 ++ left) (got x left) = rw front.1 at c in
    record { front = front.0; begins = front.1; more = []; value = x; calls = stable all_steady all_take front.0 left [] x whole refl }

pub longest_class : (tokens left : List Token) → Calls (class_goal Goals.class_text) tokens (refused left) → LongestFront ClassPart tokens left
longest_class tokens left c =
    longest (class_goal Goals.class_text) ClassPart (λ ts x d. class_part ts [] x d) tokens left (class_viable tokens left c) (no_class tokens left c)

text_front : (tokens left : List Token) → Viable (class_goal Goals.class_text) tokens left → NoPart TextPart tokens left → LongestFront TextPart tokens left
text_front tokens left f none = longest (class_goal Goals.class_text) TextPart (λ ts x d. (refl, class_part ts [] x d)) tokens left f none

pub longest_text : (tokens left : List Token) → Calls (class_goal Goals.class_text) tokens (refused left) → LongestFront TextPart tokens left
longest_text tokens left c =
    text_front tokens left (class_viable tokens left c) (λ other rest d a p. no_text_where_refused tokens left c other d a p.1)

pub longest_text_behind : (tokens left : List Token) (x : ClassT) → Calls (class_goal Goals.class_text) tokens (got x left) → left ≢ []
    → LongestFront TextPart tokens left
longest_text_behind tokens left x c some =
    text_front tokens left (viable_behind tokens left x c) (λ other rest d a p. no_text_where_left tokens left x c some other d a p.1)
