-- Every type that the tokens spell within the room is found.
use Rattle.std.proofs.Common.{◌≡◌, ℕ, ◌+◌, ◌-◌, ◌≤◌, ◌<◌, List, refl, ap, sym, ◌∙◌, subst, arith, inl, inr}
use Rattle.std.specs.Str.{str_to_ascii_lowercase}
use Rattle.eif_base.specs.declared.Place.{Place}
use Rattle.eif_tree.specs.declared.Mark.{Mark}
use Rattle.eif_tree.specs.declared.Mark.TheVariants.{Plain, Attached, Detachable}
use Rattle.eif_tree.specs.Tree.{TypeT, Types, type_at, no_types, and_type}
use Rattle.eif_tree.specs.Height.{type_height, types_height}
use Rattle.eif_grammar.specs.declared.terminal.Terminal.{Terminal}
use Rattle.eif_grammar.specs.declared.terminal.Terminal.TheVariants as t
use Rattle.eif_grammar.specs.Tokens.{Token}
use Rattle.eif_grammar.specs.Spelling.{head, the_at, name_at}
use Rattle.eif_grammar.specs.SpelledTypes.{spells_mark, spells_type, spells_class_type, spells_actuals, spells_more_types}
use Rattle.eif_grammar.specs.Goals.{written, unmarked, actuals, more_types, type_goal}
use Rattle.eif_grammar.specs.TypeRules.{TypeStart, with_mark, with_name, type_start, named, written_by}
use Rattle.eif_grammar.specs.Outcomes.{Outcome, got, Runs, Calls}
use Rattle.eif_grammar_laws.proofs.Readers.{by_rule, looked, called, ended}
use Rattle.eif_grammar_laws.proofs.TypeMeaning.{type_height_some}
use Rattle.eif_grammar_laws.proofs.Terminals.{on_found}
use Rattle.eif_grammar_laws.proofs.Taken.{roomy, head_the, head_at, head_name, next_the, next_at, next_name, call_name, expect_the, on_the, on_before}

-- ---- one step of each form, by what its parts find

started : (room : ℕ) (ts : List Token) (o : Outcome TypeT) (s : TypeStart) → type_start (head ts) ≡ s → Runs (written_by room s) ts o → Calls (type_goal (written room)) ts o
started room ts o s e h = by_rule (looked (subst (λ x. Runs (written_by room x) ts o) (sym e) h))

-- behind the name
behind_name : (room : ℕ) (p q : Place) (m : Mark) (n : List ℕ) (us : Types) (mid rest : List Token) (w : Token) → Calls (type_goal (actuals room)) mid (got us rest)
    → w.place ≡ q → str_to_ascii_lowercase w.text ≡ n → Runs (named room p m w) mid (got (type_at p q m n us) rest)
behind_name room p q m n us mid rest w c here text = rw (← here, ← text) (called c ended)

plain_step : (room : ℕ) (p q : Place) (n : List ℕ) (us : Types) (ts mid rest : List Token) → p ≡ q → name_at q n ts mid → Calls (type_goal (actuals room)) mid (got us rest)
    → Calls (type_goal (written room)) ts (got (type_at p q Plain n us) rest)
plain_step room p q n us ts mid rest same s c =
    started room ts (got (type_at p q Plain n us) rest) with_name (ap type_start (head_name q n ts mid s))
    (next_name q n ts mid s (λ w here text. rw (same, ← here, ← text) (called c ended)))

marked_step : (x : Terminal) (room : ℕ) (p q : Place) (m : Mark) (n : List ℕ) (us : Types) (ts m1 m2 rest : List Token) → type_start x ≡ with_mark m
    → the_at x p ts m1 → name_at q n m1 m2 → Calls (type_goal (actuals room)) m2 (got us rest) → Calls (type_goal (written room)) ts (got (type_at p q m n us) rest)
marked_step x room p q m n us ts m1 m2 rest starts mark s c =
    started room ts (got (type_at p q m n us) rest) (with_mark m) (ap type_start (head_at x p ts m1 mark) ∙ starts)
    (next_at x p ts m1 mark (λ k at. rw (← at) (call_name q n m1 m2 s (λ w here text. behind_name room k.place q m n us m2 rest w c here text))))

written_step : (room : ℕ) (p q : Place) (m : Mark) (n : List ℕ) (us : Types) (ts m1 m2 rest : List Token) → spells_mark m p q ts m1 → name_at q n m1 m2
    → Calls (type_goal (actuals room)) m2 (got us rest) → Calls (type_goal (written room)) ts (got (type_at p q m n us) rest)
written_step room p q Plain n us ts m1 m2 rest (same, eq) s c = plain_step room p q n us ts m2 rest same (rw eq s) c
written_step room p q Attached n us ts m1 m2 rest (inl mark) s c = marked_step t.Exclamation room p q Attached n us ts m1 m2 rest refl mark s c
written_step room p q Attached n us ts m1 m2 rest (inr mark) s c = marked_step t.Attached room p q Attached n us ts m1 m2 rest refl mark s c
written_step room p q Detachable n us ts m1 m2 rest (inl mark) s c = marked_step t.Question room p q Detachable n us ts m1 m2 rest refl mark s c
written_step room p q Detachable n us ts m1 m2 rest (inr mark) s c = marked_step t.Detachable room p q Detachable n us ts m1 m2 rest refl mark s c

-- ---- every type

mutual
  pub type_found : (ty : TypeT) (room : ℕ) (ts rest : List Token) → spells_type ty ts rest → type_height ty ≤ room → Calls (type_goal (written room)) ts (got ty rest)
  type_found (type_at p q m n us) room ts rest (m1, sm, (m2, sn, su)) hgt = written_step room p q m n us ts m1 m2 rest sm sn (actuals_found us room m2 rest su hgt)

  pub actuals_found : (us : Types) (room : ℕ) (ts rest : List Token) → spells_actuals us ts rest → types_height us + 1 ≤ room → Calls (type_goal (actuals room)) ts (got us rest)
  actuals_found no_types room ts rest s hgt = by_rule (on_before t.OpenBracket ts rest s ended)
  actuals_found (and_type ty us) room ts rest (m1, so, (m2, st, (m3, su, sc))) hgt =
      let some = type_height_some ty in
      let low : 1 < room = omega arith in
      let first = type_found ty (room - 1) m1 m2 st (omega arith) in
      let more = more_found us (room - 1) m2 m3 su (omega arith) in
      by_rule (on_found (head_the t.OpenBracket ts m1 so) (roomy 1 room low (next_the t.OpenBracket ts m1 so (λ w. called first (called more (expect_the m3 rest sc ended))))))

  pub more_found : (us : Types) (room : ℕ) (ts rest : List Token) → spells_more_types us ts rest → types_height us ≤ room → Calls (type_goal (more_types room)) ts (got us rest)
  more_found no_types room ts rest s hgt = by_rule (on_before t.Comma ts rest s ended)
  more_found (and_type ty us) room ts rest (m1, so, (m2, st, su)) hgt =
      by_rule (on_the t.Comma ts m1 so (λ w. called (type_found ty room m1 m2 st (omega arith)) (called (more_found us room m2 rest su (omega arith)) ended)))

-- a type without a mark
pub class_type_found : (ty : TypeT) (room : ℕ) (ts rest : List Token) → spells_class_type ty ts rest → type_height ty ≤ room → Calls (type_goal (unmarked room)) ts (got ty rest)
class_type_found (type_at p q Plain n us) room ts rest (m0, (plain, e0), (m1, (same, e1), (m2, sn, su))) hgt =
    by_rule (rw (e0, e1) (call_name q n m1 m2 sn (λ w here text. rw (same, ← here, ← text) (called (actuals_found us room m2 rest su hgt) ended))))
class_type_found (type_at p q _ n us) room ts rest (m0, (plain, e0), more) hgt = cc
