use Rattle.std.proofs.Common.{◌≡◌, List, ◌++◌, Some, sym, ap, subst, ◌∙◌}
use Rattle.std.proofs.lemmas.Option.{same_Some}
use Rattle.std.proofs.lemmas.Result.{on_ok_weaker}
use Rattle.eif_classes.specs.Entries.{entry}
use Rattle.eif_classes.specs.Names.{final_name}
use Rattle.eif_classes.specs.Resolution.{clause_actuals}
use Rattle.eif_classes.specs.Signatures.{SignedEntry, signed}
use Rattle.eif_redecl.proofs.GroupLaws.{entry_added, one_signed}
use Rattle.eif_redecl.proofs.HeirLaws.{their_signature}
use Rattle.eif_redecl.specs.SeenClauses.{AreGroups}
use Rattle.eif_signatures.specs.DerivedSystems.{classes_in}
use Rattle.eif_system.specs.Lineage.{line_of}
use Rattle.eif_tables.proofs.Held.{name_at}
use Rattle.eif_tree.specs.View.{class_view, parent_view}
use Rattle.eif_redecl.proofs.entry.Heir.add_entry.Goals as goal

pub returns : goal.returns
returns c = λ x es at are.
    let h = c.args.self.now in
    let is = c.requires.heir in
    let u = classes_in h.system in
    let d = h.class_id.0 in
    let class = class_view h.class.now in
    let p = parent_view c.args.clause.now.tree.now in
    let l = line_of u c.args.parent.0 in
    let t = their_signature h is p c.args.parent c.requires.clause c.args.feat.0 x at in
    let s = signed (clause_actuals u class p) (entry p x) t.0 in
    let named = same_Some c.name.result.now x.name
    (sym (c.name.ensures u is.system.tables_are) ∙ name_at l c.args.feat.0 x at) in
    let final = c.final_name-name.ensures ∙ ap (final_name p) named in
    let number = c.in-Some.ensures.found u is.system.tables_are ∙ ap Some final in
    on_ok_weaker c.add.result
    (λ added. subst (λ (ss : List SignedEntry). AreGroups u d c.add.new.self.groups.items (es ++ ss))
    (one_signed u class p l x t.0 t.1)
    (entry_added u d s c.in_ok-entry.entry c.in-Some.number number (c.in_ok-entry.ensures x t.0 at t.1 final)
    c.args.groups.now.groups.items c.add.new.self.groups.items es added are))
    c.add.ensures
