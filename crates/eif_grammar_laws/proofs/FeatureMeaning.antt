-- What is read of features is spelled.
use Rattle.std.proofs.Common.{◌≡◌, List, [], Option, Some, refl, ap, sym, ◌∙◌, subst, arith, inl, inr}
use Rattle.eif_tree.specs.declared.NameAt.{NameAt}
use Rattle.eif_tree.specs.Tree.{TypeT, Exs, GroupT, KindT, attribute, constant, DeclT, FeaturesT}
use Rattle.eif_tree.specs.Height.{type_height, written_height, highest, group_height, kind_height, decl_height}
use Rattle.eif_grammar.specs.declared.terminal.Terminal.{Terminal}
use Rattle.eif_grammar.specs.declared.terminal.Terminal.TheVariants as t
use Rattle.eif_grammar.specs.Tokens.{Token}
use Rattle.eif_grammar.specs.Spelling
use Rattle.eif_grammar.specs.Spelling.{head, the, the_name}
use Rattle.eif_grammar.specs.SpelledTypes.{spells_type}
use Rattle.eif_grammar.specs.SpelledClasses as spelled
use Rattle.eif_grammar.specs.Forms.{begins_routine}
use Rattle.eif_grammar.specs.Goals
use Rattle.eif_grammar.specs.ClassRules.{attributes, value_of, class_rule}
use Rattle.eif_grammar_laws.proofs.Readers.{Meanings, Means}
use Rattle.eif_grammar_laws.proofs.ClassMeanings.{low, rest_height, spells_routine_rest, RoutineOf, ClassMeans}
use Rattle.eif_grammar_laws.proofs.Meant.{the_here, name_here, tested_is, not_there, took}
use Rattle.eif_grammar_laws.proofs.ClassLeads.{Leads, both_low}

-- ---- declarations of attributes and of routines

-- behind the type: a constant's value, or an attribute's end
record ValueRead (ns : List NameAt) (ty : TypeT) (d : DeclT) (ts rest : List Token) : Type 0 where
  kind : KindT
  declares : attributes ns ty kind ≡ d
  value : spelled.spells_value ns kind ts rest
  no_height : kind_height kind ≡ 0

attributes_low : (ns : List NameAt) (ty : TypeT) (d : DeclT) (ts m1 m2 m3 rest : List Token) → Spelling.names ns ts m1 → the t.Colon m1 m2
    → low (type_height ty) (spells_type ty) m2 m3 → ValueRead ns ty d m3 rest → low (decl_height d) (spelled.spells_declaration d) ts rest
attributes_low ns ty d ts m1 m2 m3 rest names colon typed v =
    subst (λ x. low (decl_height x) (spelled.spells_declaration x) ts rest) v.declares
    (inl (ts, ((refl, refl, refl), refl), (m1, names, (m2, colon, (m3, typed.0, v.value)))), omega (arith, typed.1, v.no_height))

routine_low : (n : NameAt) (args : List GroupT) (ty : Option TypeT) (d : DeclT) (ts m1 m2 m3 rest : List Token) → the_name n ts m1
    → low (highest group_height args) (spelled.spells_formal_arguments args) m1 m2 → low (written_height ty) (spelled.spells_result ty) m2 m3
    → RoutineOf n args ty d → low (rest_height d) (spells_routine_rest d) m3 rest → low (decl_height d) (spelled.spells_declaration d) ts rest
routine_low n args ty d ts m1 m2 m3 rest name arguments result of behind =
    let a = subst (λ x. low (highest group_height x) (spelled.spells_formal_arguments x) m1 m2) (sym of.formal_arguments) arguments in
    let r = subst (λ x. low (written_height x) (spelled.spells_result x) m2 m3) (sym of.result_type) result in
    (inr (subst (λ x. spelled.routine_of d x ts rest) (sym of.name) (m1, name, (m2, a.0, (m3, r.0, behind.0)))), both_low a.1 (both_low r.1 behind.1))

module _ (M : Meanings) (lead : Leads M) where
  pub form_conditions : (first second : Terminal) (es : Exs) (ts rest : List Token) → Means M (class_rule (Goals.conditions first second)) es ts rest
      → ClassMeans (Goals.conditions first second) es ts rest
  form_conditions first second es ts rest (y, found, inl (same, (w, more, eq, (z, seen', inl (same', (w', more', eq', (es', m1, me, (it, end)))))))) =
      let all = lead.instructions me in
      rw (← it, ← end) (inl (more, took first found same eq, (more', inl (took second seen' same' eq'), all.0)), all.1)
  form_conditions first second es ts rest (y, found, inl (same, (w, more, eq, (z, seen', inr (other, (es', m1, me, (it, end))))))) =
      let all = lead.instructions me in
      rw (← it, ← end) (inl (more, took first found same eq, (more, inr (not_there second seen' other, refl), all.0)), all.1)
  form_conditions first second es ts rest (y, found, inr (other, (it, end))) = rw (← it, ← end) (inr (ts, (refl, refl), (not_there first found other, refl)), omega arith)

  pub form_body : (k : KindT) (ts rest : List Token) → Means M (class_rule Goals.body) k ts rest → ClassMeans Goals.body k ts rest
  form_body k ts rest (y, found, inl (same, (w, more, eq, (it, end)))) = rw (← it, ← end) (took t.Deferred found same eq, omega arith)
  form_body k ts rest (y, found, inr (other, (ls, m1, ml, (w, m2, mw, (is', m3, mi, (it, end)))))) =
      let locals = lead.classes ml in
      let instructions = lead.instructions mi in
      rw (← it, ← end) ((m1, locals.0, (m2, the_here (lead.tokens mw), instructions.0)), both_low locals.1 instructions.1)

  pub form_routine_rest : (n : NameAt) (args : List GroupT) (ty : Option TypeT) (d : DeclT) (ts rest : List Token) → Means M (class_rule (Goals.routine_rest n args ty)) d ts rest
      → ClassMeans (Goals.routine_rest n args ty) d ts rest
  form_routine_rest n args ty d ts rest (o, m1, mo, (pre, m2, mp, (k, m3, mk, (post, m4, mq, (e, m5, me, (it, end)))))) =
      let before' = lead.classes mp in
      let kind = lead.classes mk in
      let after' = lead.classes mq in
      rw (← it, ← end) (
        record { name = refl; formal_arguments = refl; result_type = refl },
        ((m1, lead.classes mo, (m2, before'.0, (m3, kind.0, (m4, after'.0, the_here (lead.tokens me))))), both_low before'.1 (both_low kind.1 after'.1)),
      )

  value_read : (ns : List NameAt) (ty : TypeT) (d : DeclT) (ts rest : List Token) → spelled.no_routine ns ts ts → Means M (value_of ns ty) d ts rest → ValueRead ns ty d ts rest
  value_read ns ty d ts rest none (y, found, inl (same, (w, more, eq, (x, m1, mx, (it, end))))) =
      record { kind = constant x; declares = it; value = rw (← end) (more, took t.Equal found same eq, lead.classes mx); no_height = refl }
  value_read ns ty d ts rest none (y, found, inr (other, (it, end))) =
      record { kind = attribute; declares = it; value = subst (λ x. spelled.spells_value ns attribute ts x) end (ts, (not_there t.Equal found other, refl), none); no_height = refl }

  pub form_declaration : (d : DeclT) (ts rest : List Token) → Means M (class_rule Goals.declaration) d ts rest → ClassMeans Goals.declaration d ts rest
  form_declaration d ts rest (n, m1, mn, (y, found, inl (same, (c, more, eq, (m, m2, mm, (ms, m3, mms, (ty, m4, mt, mv))))))) =
      let behind = lead.classes mms in
      attributes_low _ ty d ts behind.0 m3 m4 rest
      (m1, name_here (lead.tokens mn), (more, took t.Comma found same eq, (m2, name_here (lead.tokens mm), behind.1))) behind.2 (lead.types mt (omega arith))
      (value_read _ ty d m4 rest refl mv)
  form_declaration d ts rest (n, m1, mn, (y, found, inr (other, (z, seen', inl (same, (c, more, eq, (ty, m2, mt, (x, looked, inl (begins, (d', m3, mr, (it, end))))))))))) =
      let behind = lead.classes mr in
      let typed = lead.types mt (omega arith) in
      let colon : head m1 ≡ t.Colon = tested_is m1 t.Colon z seen' same in
      rw (← it, ← end) (routine_low _ [] (Some ty) d' ts m1 m1 m2 m3 (name_here (lead.tokens mn)) ((λ q. cc, refl), omega arith)
      ((more, took t.Colon seen' same eq, typed.0), typed.1) behind.0 behind.1)
  form_declaration d ts rest (n, m1, mn, (y, found, inr (other, (z, seen', inl (same, (c, more, eq, (ty, m2, mt, (x, looked, inr (none, mv))))))))) =
      attributes_low _ ty d ts m1 more m2 rest (m1, name_here (lead.tokens mn), (not_there t.Comma found other, refl)) (took t.Colon seen' same eq) (lead.types mt (omega arith))
      (value_read _ ty d m2 rest (ap begins_routine looked ∙ none, refl) mv)
  form_declaration d ts rest (n, m1, mn, (y, found, inr (other, (z, seen', inr (other', (args, m2, ma, (ty, m3, mt, (d', m4, mr, (it, end))))))))) =
      let behind = lead.classes mr in
      rw (← it, ← end) (routine_low _ args ty d' ts m1 m2 m3 m4 (name_here (lead.tokens mn)) (lead.classes ma) (lead.classes mt) behind.0 behind.1)

  pub form_declarations : (ds : List DeclT) (ts rest : List Token) → Means M (class_rule Goals.declarations) ds ts rest → ClassMeans Goals.declarations ds ts rest
  form_declarations ds ts rest (y, found, inl (same, (d, m1, md, (s, m2, mz, (ds', m3, ms, (it, end)))))) =
      let first = lead.classes md in
      let others = lead.classes ms in
      rw (← it, ← end) ((m1, first.0, (m2, lead.instructions mz, others.0)), both_low first.1 others.1)
  form_declarations ds ts rest (y, found, inr (other, (it, end))) = rw (← it, ← end) ((not_there t.Identifier found other, refl), omega arith)

  pub form_features : (fs : List FeaturesT) (ts rest : List Token) → Means M (class_rule Goals.features) fs ts rest → ClassMeans Goals.features fs ts rest
  form_features fs ts rest (y, found, inl (same, (w, more, eq, (z, seen', inl (same', (c, m1, mc, (ds, m2, md, (fs', m3, ms, (it, end))))))))) =
      let first = lead.classes md in
      let others = lead.classes ms in
      rw (← it, ← end) ((more, took t.Feature found same eq, (m1, inl (lead.classes mc), (m2, first.0, others.0))), both_low first.1 others.1)
  form_features fs ts rest (y, found, inl (same, (w, more, eq, (z, seen', inr (other, (ds, m2, md, (fs', m3, ms, (it, end)))))))) =
      let first = lead.classes md in
      let others = lead.classes ms in
      rw (← it, ← end) (
        (
          more,
          took t.Feature found same eq,
          (more, inr (more, ((refl, refl), refl), (not_there t.OpenBrace seen' other, refl)), (m2, first.0, others.0)),
        ),
        both_low first.1 others.1,
      )
  form_features fs ts rest (y, found, inr (other, (it, end))) = rw (← it, ← end) ((not_there t.Feature found other, refl), omega arith)
