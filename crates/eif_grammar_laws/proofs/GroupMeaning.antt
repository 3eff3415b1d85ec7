-- What is read of formals, creators, groups and result types is spelled.
use Rattle.std.proofs.Common.{◌≢◌, List, [], ◌∷◌, Option, refl, arith, inl, inr}
use Rattle.eif_tree.specs.Tree.{TypeT, GroupT, FormalT, CreatorsT}
use Rattle.eif_tree.specs.Height.{highest, group_height}
use Rattle.eif_grammar.specs.declared.terminal.Terminal.TheVariants as t
use Rattle.eif_grammar.specs.Tokens.{Token}
use Rattle.eif_grammar.specs.Spelling.{head, the}
use Rattle.eif_grammar.specs.SpelledClasses as spelled
use Rattle.eif_grammar.specs.Goals
use Rattle.eif_grammar.specs.ClassRules.{groups_from, class_rule}
use Rattle.eif_grammar_laws.proofs.Readers.{Meanings, Means}
use Rattle.eif_grammar_laws.proofs.ClassMeanings.{low, spells_groups_behind, ClassMeans}
use Rattle.eif_grammar_laws.proofs.Meant.{the_here, name_here, not_there, took}
use Rattle.eif_grammar_laws.proofs.AssertionMeaning.{one_semicolon, no_semicolon}
use Rattle.eif_grammar_laws.proofs.ClassLeads.{Leads, both_low}

-- ---- groups

with_semicolon : (gs : List GroupT) (ts mid rest : List Token) → the t.Semicolon ts mid → spells_groups_behind gs mid rest → spells_groups_behind gs ts rest
with_semicolon [] ts mid rest c s = absurd s
with_semicolon (g ∷ gs) ts mid rest c (m, semis, s) = (m, one_semicolon ts mid m c semis, s)

groups_are_more : (gs : List GroupT) (ts rest : List Token) → spells_groups_behind gs ts rest → spelled.more_groups gs ts rest
groups_are_more [] ts rest s = absurd s
groups_are_more (g ∷ gs) ts rest s = s

module _ (M : Meanings) (lead : Leads M) where
  pub form_formal : (f : FormalT) (ts rest : List Token) → Means M (class_rule Goals.formal) f ts rest → ClassMeans Goals.formal f ts rest
  form_formal f ts rest (n, m1, mn, (y, found, inl (same, (a, more, eq, (ty, m2, mt, (it, end)))))) =
      let typed = lead.types mt (omega arith) in
      rw (← it, ← end) ((m1, name_here (lead.tokens mn), (more, took t.Arrow found same eq, typed.0)), typed.1)
  form_formal f ts rest (n, m1, mn, (y, found, inr (other, (it, end)))) =
      rw (← it, ← end) ((m1, name_here (lead.tokens mn), (not_there t.Arrow found other, refl)), omega arith)

  pub form_more_formals : (fs : List FormalT) (ts rest : List Token) → Means M (class_rule Goals.more_formals) fs ts rest → ClassMeans Goals.more_formals fs ts rest
  form_more_formals fs ts rest (y, found, inl (same, (c, more, eq, (f, m1, mf, (fs', m2, mm, (it, end)))))) =
      let first = lead.classes mf in
      let others = lead.classes mm in
      rw (← it, ← end) ((more, took t.Comma found same eq, (m1, first.0, others.0)), both_low first.1 others.1)
  form_more_formals fs ts rest (y, found, inr (other, (it, end))) = rw (← it, ← end) ((not_there t.Comma found other, refl), omega arith)

  pub form_formals : (fs : List FormalT) (ts rest : List Token) → Means M (class_rule Goals.formals) fs ts rest → ClassMeans Goals.formals fs ts rest
  form_formals fs ts rest (y, found, inl (same, (b, more, eq, (f, m1, mf, (fs', m2, mm, (c, m3, mc, (it, end))))))) =
      let first = lead.classes mf in
      let others = lead.classes mm in
      rw (← it, ← end) ((more, took t.OpenBracket found same eq, (m1, first.0, (m2, others.0, the_here (lead.tokens mc)))), both_low first.1 others.1)
  form_formals fs ts rest (y, found, inr (other, (it, end))) = rw (← it, ← end) ((not_there t.OpenBracket found other, refl), omega arith)

  pub form_creators : (cs : List CreatorsT) (ts rest : List Token) → Means M (class_rule Goals.creators) cs ts rest → ClassMeans Goals.creators cs ts rest
  form_creators cs ts rest (y, found, inl (same, (w, more, eq, (z, seen', inl (same', (c, m1, mc, (ns, m2, mn, (cs', m3, ms, (it, end))))))))) =
      rw (← it, ← end) (more, took t.Create found same eq, (m1, inl (lead.classes mc), (m2, lead.classes mn, lead.classes ms)))
  form_creators cs ts rest (y, found, inl (same, (w, more, eq, (z, seen', inr (other, (ns, m2, mn, (cs', m3, ms, (it, end)))))))) =
      rw (← it, ← end) (
        more,
        took t.Create found same eq,
        (more, inr (more, ((refl, refl), refl), (not_there t.OpenBrace seen' other, refl)), (m2, lead.classes mn, lead.classes ms)),
      )
  form_creators cs ts rest (y, found, inr (other, (it, end))) = rw (← it, ← end) (not_there t.Create found other, refl)

  pub form_group : (g : GroupT) (ts rest : List Token) → Means M (class_rule Goals.group) g ts rest → ClassMeans Goals.group g ts rest
  form_group g ts rest (n, m1, mn, (ns, m2, ms, (ty, m3, mt, (it, end)))) =
      let behind = lead.classes ms in
      let typed = lead.types mt (omega arith) in
      rw (← it, ← end) ((behind.0, (m1, name_here (lead.tokens mn), behind.1), (m2, behind.2, typed.0)), typed.1)

  from_groups : (gs : List GroupT) (ts rest : List Token) → head ts ≢ t.Semicolon → Means M groups_from gs ts rest → low (highest group_height gs) (spells_groups_behind gs) ts rest
  from_groups gs ts rest none (g, m1, mg, (gs', m2, ms, (it, end))) =
      let first = lead.classes mg in
      let others = lead.classes ms in
      rw (← it, ← end) ((ts, no_semicolon ts none, (m1, first.0, others.0)), both_low first.1 others.1)

  pub form_groups_behind : (gs : List GroupT) (ts rest : List Token) → Means M (class_rule Goals.groups_behind) gs ts rest → ClassMeans Goals.groups_behind gs ts rest
  form_groups_behind gs ts rest (y, found, inl (same, (c, more, eq, (gs', m1, mg, (it, end))))) =
      let all = lead.classes mg in
      rw (← it, ← end) (with_semicolon gs' ts more m1 (took t.Semicolon found same eq) all.0, all.1)
  form_groups_behind gs ts rest (y, found, inr (other, m)) = from_groups gs ts rest (not_there t.Semicolon found other) m

  pub form_more_groups : (gs : List GroupT) (ts rest : List Token) → Means M (class_rule Goals.more_groups) gs ts rest → ClassMeans Goals.more_groups gs ts rest
  form_more_groups gs ts rest (y, found, inl (same, (c, more, eq, (gs', m1, mg, (it, end))))) =
      let all = lead.classes mg in
      rw (← it, ← end) (groups_are_more gs' ts m1 (with_semicolon gs' ts more m1 (took t.Semicolon found same eq) all.0), all.1)
  form_more_groups gs ts rest (y, found, inr (other, (z, seen', inl (same, m)))) =
      let all = from_groups gs ts rest (not_there t.Semicolon found other) m in
      (groups_are_more gs ts rest all.0, all.1)
  form_more_groups gs ts rest (y, found, inr (other, (z, seen', inr (other', (it, end))))) = rw (← it, ← end) (refl, omega arith)

  pub form_formal_arguments : (gs : List GroupT) (ts rest : List Token) → Means M (class_rule Goals.formal_arguments) gs ts rest → ClassMeans Goals.formal_arguments gs ts rest
  form_formal_arguments gs ts rest (y, found, inl (same, (b, more, eq, (g, m1, mg, (gs', m2, ms, (c, m3, mc, (it, end))))))) =
      let first = lead.classes mg in
      let others = lead.classes ms in
      rw (← it, ← end) ((more, took t.OpenParenthesis found same eq, (m1, first.0, (m2, others.0, the_here (lead.tokens mc)))), both_low first.1 others.1)
  form_formal_arguments gs ts rest (y, found, inr (other, (it, end))) = rw (← it, ← end) ((not_there t.OpenParenthesis found other, refl), omega arith)

  pub form_local_groups : (gs : List GroupT) (ts rest : List Token) → Means M (class_rule Goals.local_groups) gs ts rest → ClassMeans Goals.local_groups gs ts rest
  form_local_groups gs ts rest (y, found, inl (same, (g, m1, mg, (s, m2, mz, (gs', m3, ms, (it, end)))))) =
      let first = lead.classes mg in
      let others = lead.classes ms in
      rw (← it, ← end) ((m1, first.0, (m2, lead.instructions mz, others.0)), both_low first.1 others.1)
  form_local_groups gs ts rest (y, found, inr (other, (it, end))) = rw (← it, ← end) ((not_there t.Identifier found other, refl), omega arith)

  pub form_locals : (gs : List GroupT) (ts rest : List Token) → Means M (class_rule Goals.locals) gs ts rest → ClassMeans Goals.locals gs ts rest
  form_locals gs ts rest (y, found, inl (same, (w, more, eq, (gs', m1, mg, (it, end))))) =
      let all = lead.classes mg in
      rw (← it, ← end) (inl (more, took t.Local found same eq, all.0), all.1)
  form_locals gs ts rest (y, found, inr (other, (it, end))) = rw (← it, ← end) (inr (ts, (refl, refl), (not_there t.Local found other, refl)), omega arith)

  pub form_result_type : (ty : Option TypeT) (ts rest : List Token) → Means M (class_rule Goals.result_type) ty ts rest → ClassMeans Goals.result_type ty ts rest
  form_result_type ty ts rest (y, found, inl (same, (c, more, eq, (ty', m1, mt, (it, end))))) =
      let typed = lead.types mt (omega arith) in
      rw (← it, ← end) ((more, took t.Colon found same eq, typed.0), typed.1)
  form_result_type ty ts rest (y, found, inr (other, (it, end))) = rw (← it, ← end) ((not_there t.Colon found other, refl), omega arith)
