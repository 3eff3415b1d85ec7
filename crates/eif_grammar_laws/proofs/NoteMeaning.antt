-- What is read of notes and literals is spelled.
use Rattle.std.proofs.Common.{◌≡◌, ◌≢◌, zero, suc, List, [], ◌∷◌, refl, ap, sym, ◌∙◌, ◌⊎◌, inl, inr}
use Rattle.eif_tree.specs.declared.Literal.{Literal}
use Rattle.eif_grammar.specs.declared.terminal.Terminal.{Terminal}
use Rattle.eif_grammar.specs.declared.terminal.Terminal.TheVariants as t
use Rattle.eif_grammar.specs.Tokens.{Token}
use Rattle.eif_grammar.specs.Spelling.{head}
use Rattle.eif_grammar.specs.SpelledClasses.{spells_literal}
use Rattle.eif_grammar.specs.ClassRules.{LiteralStart, plus, minus, integer, character, string, truth, falsehood, no_literal, literal_start, literal_by, class_rule}
use Rattle.eif_grammar.specs.Goals
use Rattle.eif_grammar_laws.proofs.Readers.{Meanings, Means}
use Rattle.eif_grammar_laws.proofs.Terminals.{one_here}
use Rattle.eif_grammar_laws.proofs.ClassMeanings.{ClassMeans}
use Rattle.eif_grammar_laws.proofs.Meant.{seen, the_here, not_there, took}
use Rattle.eif_grammar_laws.proofs.ClassLeads.{Leads}

-- ---- how a literal begins

abbrev pub start_terminal : LiteralStart → Terminal
start_terminal plus = t.Plus
start_terminal minus = t.Minus
start_terminal integer = t.Integer
start_terminal character = t.Character
start_terminal string = t.StringText
start_terminal truth = t.True
start_terminal falsehood = t.False
start_terminal no_literal = t.EndOfText

-- no literal begins so, or it is that terminal
start_or_none : (x : Terminal) → (literal_start x ≡ no_literal) ⊎ (x ≡ start_terminal (literal_start x))
start_or_none t.Plus = inr refl
start_or_none t.Minus = inr refl
start_or_none t.Integer = inr refl
start_or_none t.Character = inr refl
start_or_none t.StringText = inr refl
start_or_none t.True = inr refl
start_or_none t.False = inr refl
start_or_none _ = inl refl

pub starts_with : {x : Terminal} {s : LiteralStart} → literal_start x ≡ s → s ≢ no_literal → x ≡ start_terminal s
starts_with {x} {s} e some = by_cases (start_or_none x)
  where
    by_cases : (literal_start x ≡ no_literal) ⊎ (x ≡ start_terminal (literal_start x)) → x ≡ start_terminal s
    by_cases (inl none) = absurd (some (sym e ∙ none))
    by_cases (inr same) = same ∙ ap start_terminal e

module _ (M : Meanings) (lead : Leads M) where
  literal_from : (s : LiteralStart) (x : Literal) (ts rest : List Token) → literal_start (head ts) ≡ s → Means M (literal_by s) x ts rest → spells_literal x ts rest
  literal_from plus x ts rest e (n, more, eq, (i, mid, mi, (it, end))) =
      let found = lead.tokens mi in
      rw (← it, ← end) (inl (more, inl (the_here (seen (starts_with e (λ q. cc)) eq)), one_here _ found.1 (found.0, refl)))
  literal_from minus x ts rest e (n, more, eq, (i, mid, mi, (it, end))) =
      let found = lead.tokens mi in
      rw (← it, ← end) (inr (more, the_here (seen (starts_with e (λ q. cc)) eq), one_here _ found.1 (found.0, refl)))
  literal_from integer x ts rest e (n, more, eq, (it, end)) =
      let here : head ts ≡ t.Integer = starts_with e (λ q. cc) in
      rw (← it, ← end) (inl (ts, inr (λ q. cc, refl), one_here _ eq ((seen here eq).0, refl)))
  literal_from character x ts rest e (n, more, eq, (it, end)) =
      rw (← it, ← end) (one_here _ eq ((seen (starts_with e (λ q. cc)) eq).0, refl))
  literal_from string x ts rest e (n, more, eq, (it, end)) =
      rw (← it, ← end) (one_here _ eq ((seen (starts_with e (λ q. cc)) eq).0, refl))
  literal_from truth x ts rest e (n, more, eq, (it, end)) =
      rw (← it, ← end) (the_here (seen (starts_with e (λ q. cc)) eq))
  literal_from falsehood x ts rest e (n, more, eq, (it, end)) =
      rw (← it, ← end) (the_here (seen (starts_with e (λ q. cc)) eq))
  literal_from no_literal x ts rest e m = absurd m

  pub form_literal : (x : Literal) (ts rest : List Token) → Means M (class_rule Goals.literal) x ts rest → ClassMeans Goals.literal x ts rest
  form_literal x ts rest (y, found, m) = literal_from (literal_start y) x ts rest (ap literal_start found) m

  pub form_notes : (u : Unit {0}) (ts rest : List Token) → Means M (class_rule Goals.notes) u ts rest → ClassMeans Goals.notes u ts rest
  form_notes u ts rest (y, found, inl (same, (n, more, eq, (a, mid, m, (it, end))))) = inl (more, took t.Note found same eq, rw (← end) (lead.classes m))
  form_notes u ts rest (y, found, inr (other, (it, end))) = inr (not_there t.Note found other, end)

  pub form_note_entries : (u : Unit {0}) (ts rest : List Token) → Means M (class_rule Goals.note_entries) u ts rest → ClassMeans Goals.note_entries u ts rest
  form_note_entries u ts rest (y, found, inl (same, (n, more, eq, (c, m1, mc, (i, m2, mi, (items', m3, ms, (s, m4, mz, (e, m5, me, (it, end))))))))) =
      let items = lead.classes ms in
      let entries = lead.classes me in (
        items.0 ∷ entries.0,
        rw (← end) (more, took t.Identifier found same eq, (m1, the_here (lead.tokens mc), (m2, lead.classes mi, (m3, items.1, (m4, lead.instructions mz, entries.1))))),
      )
  form_note_entries u ts rest (y, found, inr (other, (it, end))) = ([], (not_there t.Identifier found other, end))

  pub form_note_item : (u : Unit {0}) (ts rest : List Token) → Means M (class_rule Goals.note_item) u ts rest → ClassMeans Goals.note_item u ts rest
  form_note_item u ts rest (y, found, inl (same, (n, more, eq, (it, end)))) = inl (rw (← end) (took t.Identifier found same eq))
  form_note_item u ts rest (y, found, inr (other, (x, mid, m, (it, end)))) = inr (x, rw (← end) (lead.classes m))

  pub form_more_note_items : (u : Unit {0}) (ts rest : List Token) → Means M (class_rule Goals.more_note_items) u ts rest → ClassMeans Goals.more_note_items u ts rest
  form_more_note_items u ts rest (y, found, inl (same, (n, more, eq, (i, m1, mi, (items', m2, ms, (it, end)))))) =
      let items = lead.classes ms in
      (suc items.0, rw (← end) (more, took t.Comma found same eq, (m1, lead.classes mi, items.1)))
  form_more_note_items u ts rest (y, found, inr (other, (it, end))) = (zero, (not_there t.Comma found other, end))

  pub form_obsolete : (u : Unit {0}) (ts rest : List Token) → Means M (class_rule Goals.obsolete) u ts rest → ClassMeans Goals.obsolete u ts rest
  form_obsolete u ts rest (y, found, inl (same, (n, more, eq, (s, mid, ms, (it, end))))) = inl (more, took t.Obsolete found same eq, rw (← end) (the_here (lead.tokens ms)))
  form_obsolete u ts rest (y, found, inr (other, (it, end))) = inr (not_there t.Obsolete found other, end)
