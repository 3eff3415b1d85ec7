-- What a reader gives of some tokens.
use Rattle.std.specs.Prelude.{◌≡◌, ◌≢◌, true, false, ℕ, zero, suc, List, [], ◌∷◌}
use Rattle.eif_grammar.specs.Tokens.{Token}
use Rattle.eif_grammar.specs.Is.{is}
use Rattle.eif_grammar.specs.Spelling.{head}
use Rattle.eif_grammar.specs.Goals.{Goal, Found, type_goal, expression_goal, instruction_goal, class_goal, token}
use Rattle.eif_grammar.specs.Reader.{Reader, done, refuse, look, next, call, guard, fork}
use Rattle.eif_grammar.specs.TypeRules.{type_rule}
use Rattle.eif_grammar.specs.ExpressionRules.{expression_rule}
use Rattle.eif_grammar.specs.InstructionRules.{instruction_rule}
use Rattle.eif_grammar.specs.ClassRules.{class_rule}

-- a goal's rule
abbrev pub rule : (g : Goal) → Reader (Found g)
rule (type_goal g) = type_rule g
rule (expression_goal g) = expression_rule g
rule (instruction_goal g) = instruction_rule g
rule (class_goal g) = class_rule g
rule (token x) = look (λ y. guard (is x y) (next done))

-- what was found and what is left, or where it was refused
pub data Outcome (A : Type 0) : Type 0 where
  got : A → List Token → Outcome A
  refused : List Token → Outcome A
  stuck : Outcome A

abbrev pub after : {A B : Type 0} → Outcome A → (A → List Token → Outcome B) → Outcome B
after (got a ts) f = f a ts
after (refused ts) f = refused ts
after stuck f = stuck

-- a reader's outcome, where below gives the outcomes of goals
abbrev pub run : {A : Type 0} → ((g : Goal) → List Token → Outcome (Found g)) → Reader A → List Token → Outcome A
run below (done a) ts = got a ts
run below refuse ts = refused ts
run below (look k) ts = run below (k (head ts)) ts
run below (next k) [] = refused []
run below (next k) (x ∷ ts) = run below (k x) ts
run below (guard true r) ts = run below r ts
run below (guard false r) ts = refused ts
run below (fork true r s) ts = run below r ts
run below (fork false r s) ts = run below s ts
run below (call g k) ts = after (below g ts) (λ a rest. run below (k a) rest)

-- a goal's outcome, with calls nested no deeper than the number
unfoldable pub reached : ℕ → (g : Goal) → List Token → Outcome (Found g)
reached zero g ts = stuck
reached (suc n) g ts = run (reached n) (rule g) ts

-- the outcome at some depth
pub record Runs {A : Type 0} (r : Reader A) (ts : List Token) (o : Outcome A) : Type 0 where
  pub depth : ℕ
  pub runs : run (reached depth) r ts ≡ o
  pub ends : o ≢ stuck

pub record Calls (g : Goal) (ts : List Token) (o : Outcome (Found g)) : Type 0 where
  pub depth : ℕ
  pub runs : reached depth g ts ≡ o
  pub ends : o ≢ stuck
