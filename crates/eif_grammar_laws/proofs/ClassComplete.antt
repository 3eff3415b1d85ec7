-- Class texts that are spelled are found.
use Rattle.std.proofs.Common.{Bool, true, false, ◌≤◌, List, ap, sym, subst, arith}
use Rattle.eif_tree.specs.Tree.{ClassT}
use Rattle.eif_tree.specs.Height.{class_height}
use Rattle.eif_grammar.specs.declared.terminal.Terminal.TheVariants as t
use Rattle.eif_grammar.specs.Tokens.{Token}
use Rattle.eif_grammar.specs.Spelling.{◌⨟◌, nothing, the, name_at}
use Rattle.eif_grammar.specs.SpelledInstructions.{assertions_behind}
use Rattle.eif_grammar.specs.SpelledClasses as spelled
use Rattle.eif_grammar.specs.Goals
use Rattle.eif_grammar.specs.Goals.{class_goal}
use Rattle.eif_grammar.specs.ClassRules.{class_from}
use Rattle.eif_grammar.specs.Parts.{most_height}
use Rattle.eif_grammar.specs.Outcomes.{got, Runs, Calls}
use Rattle.eif_grammar_laws.proofs.Readers.{by_rule, called}
use Rattle.eif_grammar_laws.proofs.Terminals.{on_other}
use Rattle.eif_grammar_laws.proofs.Taken.{expect_the, on_the}
use Rattle.eif_grammar_laws.proofs.ClassSteps.{PartsFound, ended_as, named}
use Rattle.eif_grammar_laws.proofs.NoteComplete.{notes_found, obsolete_found}
use Rattle.eif_grammar_laws.proofs.ParentComplete.{parents_found}
use Rattle.eif_grammar_laws.proofs.GroupComplete.{formals_found, creators_found}
use Rattle.eif_grammar_laws.proofs.FeatureComplete.{features_found}

module _ (found : PartsFound) where
  -- behind the notes and the mark
  class_run : (c : ClassT) (ts rest : List Token)
      → (the t.Class ⨟ name_at c.place c.name ⨟ spelled.spells_formals c.formals ⨟ spelled.obsolete ⨟ spelled.spells_parents c.parents ⨟ spelled.spells_creators c.creators
      ⨟ spelled.spells_features c.features ⨟ assertions_behind t.Invariant nothing c.invariants ⨟ spelled.notes ⨟ the t.End) ts rest
      → class_height c ≤ most_height → Runs (class_from c.is_deferred) ts (got c rest)
  class_run c ts rest (m1, word, (m2, name, (m3, formals, (m4, old, (m5, parents, (m6, creators, (m7, features, (m8, invariants, (m9, notes, end))))))))) low =
      expect_the ts m1 word (named (record { place = c.place; name = c.name }) m1 m2 name (λ n e.
      called (formals_found found c.formals m2 m3 formals (omega arith)) (called (obsolete_found m3 m4 old)
      (called (parents_found found c.parents m4 m5 parents (omega arith)) (called (creators_found c.creators m5 m6 creators)
      (called (features_found found c.features m6 m7 features (omega arith)) (called (found.invariants_found c.invariants most_height m7 m8 invariants (omega arith))
      (called (notes_found found m8 m9 notes) (expect_the m9 rest end (ended_as (ap (λ x. record c { place = x.place; name = x.name }) e)))))))))))

  class_by : (b : Bool) (c : ClassT) (ts m1 m2 rest : List Token) → spelled.notes ts m1 → spelled.spells_deferred b m1 m2 → Runs (class_from b) m2 (got c rest)
      → Calls (class_goal Goals.class_text) ts (got c rest)
  class_by true c ts m1 m2 rest notes word r = by_rule (called (notes_found found ts m1 notes) (on_the t.Deferred m1 m2 word (λ n. r)))
  class_by false c ts m1 m2 rest notes (none, e) r =
      by_rule (called (notes_found found ts m1 notes) (on_other none (subst (λ l. Runs (class_from false) l (got c rest)) (sym e) r)))

  -- every class text that the tokens spell is found
  pub class_found : (c : ClassT) (ts rest : List Token) → spelled.spells_class c ts rest → class_height c ≤ most_height → Calls (class_goal Goals.class_text) ts (got c rest)
  class_found c ts rest (m1, notes, (m2, mark, s)) low = class_by c.is_deferred c ts m1 m2 rest notes mark (class_run c m2 rest s low)
