-- What is read of names, clients, renames and exports is spelled.
use Rattle.std.proofs.Common.{◌≡◌, List, [], ◌∷◌, refl, inl, inr}
use Rattle.eif_tree.specs.declared.NameAt.{NameAt}
use Rattle.eif_tree.specs.declared.RenamePair.{RenamePair}
use Rattle.eif_tree.specs.Tree.{ClientsT, ExportT}
use Rattle.eif_grammar.specs.declared.terminal.Terminal.TheVariants as t
use Rattle.eif_grammar.specs.Tokens.{Token}
use Rattle.eif_grammar.specs.Spelling
use Rattle.eif_grammar.specs.Spelling.{head, the}
use Rattle.eif_grammar.specs.SpelledClasses as spelled
use Rattle.eif_grammar.specs.ClassRules.{class_rule}
use Rattle.eif_grammar.specs.Goals
use Rattle.eif_grammar_laws.proofs.Readers.{Meanings, Means}
use Rattle.eif_grammar_laws.proofs.Terminals.{one_here}
use Rattle.eif_grammar_laws.proofs.ClassMeanings.{ClassMeans}
use Rattle.eif_grammar_laws.proofs.Meant.{seen, the_here, name_here, tested_is, not_there, took}
use Rattle.eif_grammar_laws.proofs.ClassLeads.{Leads}

-- ---- one name or more are a first and more

names_behind_comma : (ns : List NameAt) (ts mid rest : List Token) → the t.Comma ts mid → Spelling.names ns mid rest → Spelling.more_names ns ts rest
names_behind_comma [] ts mid rest c s = absurd s
names_behind_comma (n ∷ ns) ts mid rest c s = (mid, c, s)

renames_behind_comma : (rs : List RenamePair) (ts mid rest : List Token) → the t.Comma ts mid → spelled.spells_renames rs mid rest → spelled.more_renames rs ts rest
renames_behind_comma [] ts mid rest c s = absurd s
renames_behind_comma (r ∷ rs) ts mid rest c s = (mid, c, s)

maybe_from : (ns : List NameAt) (ts rest : List Token) → Spelling.names ns ts rest → spelled.maybe_names ns ts rest
maybe_from [] ts rest s = absurd s
maybe_from (n ∷ ns) ts rest s = s

pub exports_are_more : (xs : List ExportT) (ts rest : List Token) → spelled.spells_exports xs ts rest → spelled.more_exports xs ts rest
exports_are_more [] ts rest s = absurd s
exports_are_more (x ∷ xs) ts rest s = s

module _ (M : Meanings) (lead : Leads M) where
  pub form_names : (ns : List NameAt) (ts rest : List Token) → Means M (class_rule Goals.names) ns ts rest → ClassMeans Goals.names ns ts rest
  form_names ns ts rest (n, m1, mn, (more, m2, mm, (it, end))) = rw (← it, ← end) (m1, name_here (lead.tokens mn), lead.classes mm)

  pub form_more_names : (ns : List NameAt) (ts rest : List Token) → Means M (class_rule Goals.more_names) ns ts rest → ClassMeans Goals.more_names ns ts rest
  form_more_names ns ts rest (y, found, inl (same, (n, more, eq, (names', m1, mn, (it, end))))) =
      rw (← it, ← end) (names_behind_comma names' ts more m1 (took t.Comma found same eq) (lead.classes mn))
  form_more_names ns ts rest (y, found, inr (other, (it, end))) = rw (← it, ← end) (not_there t.Comma found other, refl)

  pub form_colon_names : (ns : List NameAt) (ts rest : List Token) → Means M (class_rule Goals.colon_names) ns ts rest → ClassMeans Goals.colon_names ns ts rest
  form_colon_names ns ts rest (y, found, inl (same, (c, more, eq, (n, m1, mn, (names', m2, mm, (it, end)))))) =
      let behind = lead.classes mm in
      rw (← it, ← end) (behind.0, (more, took t.Comma found same eq, (m1, name_here (lead.tokens mn), behind.1)), behind.2)
  form_colon_names ns ts rest (y, found, inr (other, (c, m1, mc, (it, end)))) =
      rw (← it, ← end) (ts, (not_there t.Comma found other, refl), the_here (lead.tokens mc))

  pub form_clients : (c : ClientsT) (ts rest : List Token) → Means M (class_rule Goals.clients) c ts rest → ClassMeans Goals.clients c ts rest
  form_clients c ts rest (o, m1, mo, (y, found, inl (same, (b, more, eq, (it, end))))) =
      let close = took t.CloseBrace found same eq in
      let here : head m1 ≡ t.CloseBrace = tested_is m1 t.CloseBrace y found same in
      rw (← it, ← end) (ts, (refl, refl), (m1, the_here (lead.tokens mo), (m1, (λ q. cc, refl), close)))
  form_clients c ts rest (o, m1, mo, (y, found, inr (other, (ns, m2, mn, (b, m3, mb, (it, end)))))) =
      rw (← it, ← end) (ts, (refl, refl), (m1, the_here (lead.tokens mo), (m2, maybe_from ns m1 m2 (lead.classes mn), the_here (lead.tokens mb))))

  pub form_rename : (r : RenamePair) (ts rest : List Token) → Means M (class_rule Goals.rename) r ts rest → ClassMeans Goals.rename r ts rest
  form_rename r ts rest (old, m1, mo, (a, m2, ma, (new, m3, mn, (it, end)))) =
      rw (← it, ← end) (m1, name_here (lead.tokens mo), (m2, the_here (lead.tokens ma), name_here (lead.tokens mn)))

  pub form_renames : (rs : List RenamePair) (ts rest : List Token) → Means M (class_rule Goals.renames) rs ts rest → ClassMeans Goals.renames rs ts rest
  form_renames rs ts rest (r, m1, mr, (more, m2, mm, (it, end))) = rw (← it, ← end) (m1, lead.classes mr, lead.classes mm)

  pub form_more_renames : (rs : List RenamePair) (ts rest : List Token) → Means M (class_rule Goals.more_renames) rs ts rest → ClassMeans Goals.more_renames rs ts rest
  form_more_renames rs ts rest (y, found, inl (same, (c, more, eq, (rs', m1, mr, (it, end))))) =
      rw (← it, ← end) (renames_behind_comma rs' ts more m1 (took t.Comma found same eq) (lead.classes mr))
  form_more_renames rs ts rest (y, found, inr (other, (it, end))) = rw (← it, ← end) (not_there t.Comma found other, refl)

  pub form_export : (x : ExportT) (ts rest : List Token) → Means M (class_rule Goals.export) x ts rest → ClassMeans Goals.export x ts rest
  form_export x ts rest (c, m1, mc, (y, found, inl (same, (a, more, eq, (it, end))))) =
      rw (← it, ← end) (m1, lead.classes mc, (more, one_here _ eq ((seen (tested_is m1 t.All y found same) eq).0, refl), (refl, refl)))
  form_export x ts rest (c, m1, mc, (y, found, inr (other, (ns, m2, mn, (it, end))))) = rw (← it, ← end) (m1, lead.classes mc, lead.classes mn)

  pub form_exports : (xs : List ExportT) (ts rest : List Token) → Means M (class_rule Goals.exports) xs ts rest → ClassMeans Goals.exports xs ts rest
  form_exports xs ts rest (x, m1, mx, (s, m2, ms, (more, m3, mm, (it, end)))) = rw (← it, ← end) (m1, lead.classes mx, (m2, lead.instructions ms, lead.classes mm))

  pub form_more_exports : (xs : List ExportT) (ts rest : List Token) → Means M (class_rule Goals.more_exports) xs ts rest → ClassMeans Goals.more_exports xs ts rest
  form_more_exports xs ts rest (y, found, inl (same, (xs', m1, mx, (it, end)))) = rw (← it, ← end) (exports_are_more xs' ts m1 (lead.classes mx))
  form_more_exports xs ts rest (y, found, inr (other, (it, end))) = rw (← it, ← end) (not_there t.OpenBrace found other, refl)
