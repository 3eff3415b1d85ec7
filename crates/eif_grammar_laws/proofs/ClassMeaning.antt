-- What is read of a class text is spelled: no rule of its parts finds more than its goal means.
use Rattle.std.proofs.Common.{true, false, Bool, List, refl, inl, inr}
use Rattle.eif_tree.specs.Tree.{ClassT}
use Rattle.eif_grammar.specs.declared.terminal.Terminal.TheVariants as t
use Rattle.eif_grammar.specs.Tokens.{Token}
use Rattle.eif_grammar.specs.SpelledClasses as spelled
use Rattle.eif_grammar.specs.Goals
use Rattle.eif_grammar.specs.ClassRules.{class_from, class_rule}
use Rattle.eif_grammar_laws.proofs.Readers.{Meanings, Means}
use Rattle.eif_grammar_laws.proofs.ClassMeanings.{ClassMeans}
use Rattle.eif_grammar_laws.proofs.Meant.{the_here, name_here, not_there, took}
use Rattle.eif_grammar_laws.proofs.ClassLeads.{Leads, both_low}
use Rattle.eif_grammar_laws.proofs.NoteMeaning.{form_notes, form_note_entries, form_note_item, form_more_note_items, form_literal, form_obsolete}
use Rattle.eif_grammar_laws.proofs.NameMeaning.{form_names, form_more_names, form_colon_names, form_clients, form_rename, form_renames, form_more_renames, form_export, form_exports, form_more_exports}
use Rattle.eif_grammar_laws.proofs.ParentMeaning.{form_clauses, form_more_clauses, form_parent, form_parents, form_more_parents}
use Rattle.eif_grammar_laws.proofs.GroupMeaning.{form_formals, form_formal, form_more_formals, form_creators, form_group, form_more_groups, form_groups_behind, form_formal_arguments, form_local_groups, form_locals, form_result_type}
use Rattle.eif_grammar_laws.proofs.FeatureMeaning.{form_conditions, form_body, form_routine_rest, form_declaration, form_declarations, form_features}

module _ (M : Meanings) (lead : Leads M) where
  class_low : (b : Bool) (c : ClassT) (ts m1 m2 rest : List Token) → spelled.notes ts m1 → spelled.spells_deferred b m1 m2 → Means M (class_from b) c m2 rest
      → ClassMeans Goals.class_text c ts rest
  class_low b c ts m1 m2 rest notes mark (w, m3, mw, (n, m4, mn, (fs, m5, mf, (o, m6, mo, (ps, m7, mp, (cs, m8, mc, (ds, m9, md, (es, m10, mi, (z, m11, mz, (e, m12, me, (it, end))))))))))) =
      let formals = lead.classes mf in
      let parents = lead.classes mp in
      let features = lead.classes md in
      let invariants = lead.instructions mi in
      rw (← it, ← end) (
        (
          m1,
          notes,
          (
            m2,
            mark,
            (
              m3,
              the_here (lead.tokens mw),
              (
                m4,
                name_here (lead.tokens mn),
                (
                  m5,
                  formals.0,
                  (
                    m6,
                    lead.classes mo,
                    (
                      m7,
                      parents.0,
                      (m8, lead.classes mc, (m9, features.0, (m10, invariants.0, (m11, lead.classes mz, the_here (lead.tokens me))))),
                    ),
                  ),
                ),
              ),
            ),
          ),
        ),
        both_low formals.1 (both_low parents.1 (both_low features.1 invariants.1)),
      )

  form_class_text : (c : ClassT) (ts rest : List Token) → Means M (class_rule Goals.class_text) c ts rest → ClassMeans Goals.class_text c ts rest
  form_class_text c ts rest (z, m1, mz, (y, found, inl (same, (w, more, eq, m)))) = class_low true c ts m1 more rest (lead.classes mz) (took t.Deferred found same eq) m
  form_class_text c ts rest (z, m1, mz, (y, found, inr (other, m))) = class_low false c ts m1 m1 rest (lead.classes mz) (not_there t.Deferred found other, refl) m

  pub class_forms : (g : Goals.ClassGoal) (a : Goals.ClassFound g) (ts rest : List Token) → Means M (class_rule g) a ts rest → ClassMeans g a ts rest
  class_forms Goals.notes = form_notes M lead
  class_forms Goals.note_entries = form_note_entries M lead
  class_forms Goals.note_item = form_note_item M lead
  class_forms Goals.more_note_items = form_more_note_items M lead
  class_forms Goals.literal = form_literal M lead
  class_forms Goals.obsolete = form_obsolete M lead
  class_forms Goals.formals = form_formals M lead
  class_forms Goals.formal = form_formal M lead
  class_forms Goals.more_formals = form_more_formals M lead
  class_forms Goals.names = form_names M lead
  class_forms Goals.more_names = form_more_names M lead
  class_forms Goals.colon_names = form_colon_names M lead
  class_forms Goals.clients = form_clients M lead
  class_forms Goals.rename = form_rename M lead
  class_forms Goals.renames = form_renames M lead
  class_forms Goals.more_renames = form_more_renames M lead
  class_forms Goals.export = form_export M lead
  class_forms Goals.exports = form_exports M lead
  class_forms Goals.more_exports = form_more_exports M lead
  class_forms (Goals.clauses p) = form_clauses M lead p
  class_forms (Goals.more_clauses p) = form_more_clauses M lead p
  class_forms Goals.parent = form_parent M lead
  class_forms Goals.parents = form_parents M lead
  class_forms Goals.more_parents = form_more_parents M lead
  class_forms Goals.creators = form_creators M lead
  class_forms Goals.group = form_group M lead
  class_forms Goals.more_groups = form_more_groups M lead
  class_forms Goals.groups_behind = form_groups_behind M lead
  class_forms Goals.formal_arguments = form_formal_arguments M lead
  class_forms Goals.local_groups = form_local_groups M lead
  class_forms Goals.locals = form_locals M lead
  class_forms Goals.result_type = form_result_type M lead
  class_forms (Goals.conditions first second) = form_conditions M lead first second
  class_forms Goals.body = form_body M lead
  class_forms (Goals.routine_rest n args ty) = form_routine_rest M lead n args ty
  class_forms Goals.declaration = form_declaration M lead
  class_forms Goals.declarations = form_declarations M lead
  class_forms Goals.features = form_features M lead
  class_forms Goals.class_text = form_class_text
