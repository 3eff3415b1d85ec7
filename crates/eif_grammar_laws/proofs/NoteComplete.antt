-- Notes and literals that are spelled are found.
use Rattle.std.proofs.Common.{◌≡◌, ◌≢◌, true, false, ℕ, zero, suc, List, [], ◌∷◌, ap, sym, ◌∙◌, subst, inl, inr}
use Rattle.eif_tree.specs.declared.Literal.{Literal}
use Rattle.eif_tree.specs.declared.Literal.TheVariants as lit
use Rattle.eif_grammar.specs.declared.terminal.Terminal.{Terminal}
use Rattle.eif_grammar.specs.declared.terminal.Terminal.TheVariants as t
use Rattle.eif_grammar.specs.Tokens.{Token}
use Rattle.eif_grammar.specs.Literals.{integer_value}
use Rattle.eif_grammar.specs.Spelling.{head, one}
use Rattle.eif_grammar.specs.SpelledClasses as spelled
use Rattle.eif_grammar.specs.Goals
use Rattle.eif_grammar.specs.Goals.{class_goal}
use Rattle.eif_grammar.specs.Outcomes.{got, Calls}
use Rattle.eif_grammar_laws.proofs.Readers.{by_rule, called, looked_at, ended}
use Rattle.eif_grammar_laws.proofs.Terminals.{on_other, one_is}
use Rattle.eif_grammar_laws.proofs.Taken.{head_the, expect_the, on_the}
use Rattle.eif_grammar_laws.proofs.ClassSteps.{PartsFound, last, ended_as, ended_at, takes, calls_one}

-- how a token of a spelling begins it
one_head : (P : Token → Type 0) (x : Terminal) (ts rest : List Token) → ((n : Token) → P n → n.terminal ≡ x) → one P ts rest → head ts ≡ x
one_head P x ts rest is s = let n = one_is P ts rest s in ap head n.1 ∙ is n.0 n.2

pub literal_found : (x : Literal) (ts rest : List Token) → spelled.spells_literal x ts rest → Calls (class_goal Goals.literal) ts (got x rest)
literal_found (lit.Int z) ts rest (inl (mid, inl plus, s)) =
    by_rule (looked_at (head_the t.Plus ts mid plus) (takes (λ n. n.terminal ≡ t.Plus) ts mid plus (λ n p. calls_one t.Integer _ mid rest (λ i q. q.0) s (λ i q. ended_as (ap lit.Int q.1)))))
literal_found (lit.Int z) ts rest (inl (mid, inr (none, e), s)) =
    let here = subst (λ l. one (λ n. (n.terminal ≡ t.Integer) × (integer_value n.text ≡ z)) l rest) (sym e) s in
    by_rule (looked_at (one_head _ t.Integer ts rest (λ i q. q.0) here) (takes _ ts rest here (λ i q. ended_as (ap lit.Int q.1))))
literal_found (lit.Int z) ts rest (inr (mid, minus, s)) =
    by_rule (looked_at (head_the t.Minus ts mid minus) (takes (λ n. n.terminal ≡ t.Minus) ts mid minus (λ n p. calls_one t.Integer _ mid rest (λ i q. q.0) s (λ i q. ended_as (ap lit.Int q.1)))))
literal_found (lit.Char b) ts rest s =
    by_rule (looked_at (one_head _ t.Character ts rest (λ i q. q.0) s) (takes _ ts rest s (λ i q. ended_as (ap lit.Char q.1))))
literal_found (lit.Text bytes) ts rest s =
    by_rule (looked_at (one_head _ t.StringText ts rest (λ i q. q.0) s) (takes _ ts rest s (λ i q. ended_as (ap lit.Text q.1))))
literal_found (lit.Bool true) ts rest s = by_rule (looked_at (head_the t.True ts rest s) (takes _ ts rest s (λ i q. ended)))
literal_found (lit.Bool false) ts rest s = by_rule (looked_at (head_the t.False ts rest s) (takes _ ts rest s (λ i q. ended)))

-- no literal begins with an identifier
literal_head : (x : Literal) (ts rest : List Token) → spelled.spells_literal x ts rest → head ts ≢ t.Identifier
literal_head (lit.Int z) ts rest (inl (mid, inl plus, s)) = let h = head_the t.Plus ts mid plus in λ e. cc
literal_head (lit.Int z) ts rest (inl (mid, inr (none, e'), s)) = let h = one_head _ t.Integer mid rest (λ i q. q.0) s in let f = ap head e' in λ e. cc
literal_head (lit.Int z) ts rest (inr (mid, minus, s)) = let h = head_the t.Minus ts mid minus in λ e. cc
literal_head (lit.Char b) ts rest s = let h = one_head _ t.Character ts rest (λ i q. q.0) s in λ e. cc
literal_head (lit.Text bytes) ts rest s = let h = one_head _ t.StringText ts rest (λ i q. q.0) s in λ e. cc
literal_head (lit.Bool true) ts rest s = let h = head_the t.True ts rest s in λ e. cc
literal_head (lit.Bool false) ts rest s = let h = head_the t.False ts rest s in λ e. cc

pub note_item_found : (ts rest : List Token) → spelled.note_item ts rest → Calls (class_goal Goals.note_item) ts (got tt rest)
note_item_found ts rest (inl s) = by_rule (on_the t.Identifier ts rest s (λ n. ended))
note_item_found ts rest (inr (x, s)) = by_rule (on_other (literal_head x ts rest s) (called (literal_found x ts rest s) ended))

pub more_note_items_found : (n : ℕ) (ts rest : List Token) → spelled.more_note_items n ts rest → Calls (class_goal Goals.more_note_items) ts (got tt rest)
more_note_items_found zero ts rest (none, e) = by_rule (on_other none (ended_at e))
more_note_items_found (suc n) ts rest (m1, comma, (m2, item, s)) =
    by_rule (on_the t.Comma ts m1 comma (λ c. called (note_item_found m1 m2 item) (last (more_note_items_found n m2 rest s))))

pub obsolete_found : (ts rest : List Token) → spelled.obsolete ts rest → Calls (class_goal Goals.obsolete) ts (got tt rest)
obsolete_found ts rest (inl (mid, word, s)) = by_rule (on_the t.Obsolete ts mid word (λ n. expect_the mid rest s ended))
obsolete_found ts rest (inr (none, e)) = by_rule (on_other none (ended_at e))

module _ (found : PartsFound) where
  pub note_entries_found : (ns : List ℕ) (ts rest : List Token) → spelled.note_entries ns ts rest → Calls (class_goal Goals.note_entries) ts (got tt rest)
  note_entries_found [] ts rest (none, e) = by_rule (on_other none (ended_at e))
  note_entries_found (n ∷ ns) ts rest (m1, name, (m2, colon, (m3, item, (m4, items, (m5, semis, s))))) =
      by_rule (on_the t.Identifier ts m1 name (λ c. expect_the m1 m2 colon (called (note_item_found m2 m3 item) (called (more_note_items_found n m3 m4 items)
      (called (found.semis_found m4 m5 semis) (last (note_entries_found ns m5 rest s)))))))

  pub notes_found : (ts rest : List Token) → spelled.notes ts rest → Calls (class_goal Goals.notes) ts (got tt rest)
  notes_found ts rest (inl (mid, word, (ns, s))) = by_rule (on_the t.Note ts mid word (λ n. last (note_entries_found ns mid rest s)))
  notes_found ts rest (inr (none, e)) = by_rule (on_other none (ended_at e))
