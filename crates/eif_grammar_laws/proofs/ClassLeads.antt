-- What the goals of a meaning lead to, where it agrees with what each kind of goal finds.
use Rattle.std.proofs.Common.{◌≡◌, ℕ, ◌≤◌, max, List, ◌∷◌, subst, arith}
use Rattle.eif_grammar.specs.declared.terminal.Terminal.{Terminal}
use Rattle.eif_grammar.specs.Tokens.{Token}
use Rattle.eif_grammar.specs.Goals
use Rattle.eif_grammar.specs.Goals.{type_goal, instruction_goal, class_goal, token}
use Rattle.eif_grammar_laws.proofs.Readers.{Meanings}
use Rattle.eif_grammar_laws.proofs.Meanings.{TypeMeans, InstructionMeans}
use Rattle.eif_grammar_laws.proofs.ClassMeanings.{ClassMeans}

pub record Leads (M : Meanings) : Type 0 where
  pub types : {g : Goals.TypeGoal} {a : Goals.TypeFound g} {ts rest : List Token} → M (type_goal g) a ts rest → TypeMeans g a ts rest
  pub instructions : {g : Goals.InstructionGoal} {a : Goals.InstructionFound g} {ts rest : List Token} → M (instruction_goal g) a ts rest → InstructionMeans g a ts rest
  pub classes : {g : Goals.ClassGoal} {a : Goals.ClassFound g} {ts rest : List Token} → M (class_goal g) a ts rest → ClassMeans g a ts rest
  pub tokens : {x : Terminal} {n : Token} {ts rest : List Token} → M (token x) n ts rest → (n.terminal ≡ x) × (ts ≡ n ∷ rest)

pub both_low : {a b c : ℕ} → a ≤ c → b ≤ c → max a b ≤ c
both_low {a} {b} {c} h i = omega arith

-- the same, found and left
pub moved : (g : Goals.ClassGoal) (ts : List Token) {a b : Goals.ClassFound g} {mid rest : List Token} → a ≡ b → mid ≡ rest → ClassMeans g a ts mid → ClassMeans g b ts rest
moved g ts {a} {b} {mid} {rest} it end s = subst (λ x. ClassMeans g x ts rest) it (subst (λ x. ClassMeans g a ts x) end s)
