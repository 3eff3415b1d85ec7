use Rattle.std.proofs.Common.{◌≡◌, List, ◌++◌, ◌<◌, sym, ap, subst, ◌∙◌, arith}
use Rattle.std.specs.Prelude.{flat_map}
use Rattle.std.proofs.lemmas.List.{length-map}
use Rattle.eif_adapt.proofs.OneOn.{at_end}
use Rattle.eif_base.specs.declared.fault.Fault.{Fault}
use Rattle.eif_classes.specs.Entries.{Feature}
use Rattle.eif_classes.specs.Features.{features}
use Rattle.eif_classes.specs.Signatures.{signed_entries_in}
use Rattle.eif_redecl.proofs.HeirLaws.{line_is, number_has, within}
use Rattle.eif_redecl.proofs.NameLaws.{joins_are, judged_in, one_name_more}
use Rattle.eif_redecl.specs.EntryViews.{AreSeen}
use Rattle.eif_redecl.specs.declared.entry.SeenEntry.{SeenEntry}
use Rattle.eif_signatures.proofs.Derived.{feature_at}
use Rattle.eif_signatures.specs.DerivedSystems.{classes_in}
use Rattle.eif_system.specs.Lineage.{line_of}
use Rattle.eif_tables.proofs.Held.{name_at}
use Rattle.eif_tree.specs.View.{class_view}
use Rattle.eif_redecl.proofs.entry.Heir.push_names.Goals as goal

pub push_name_faults-requires-clause-feature : goal.push_name_faults-requires-clause-feature
push_name_faults-requires-clause-feature c =
    let h = c.args.self.now in
    let is = c.requires.heir in
    number_has h is h.class_id _ (within h is)
    (subst (λ n. c.names.number < n) (c.count-number-end.ensures (classes_in h.system) is.system.tables_are)
    c.names-test.true)

pub names-preserved : goal.names-preserved
names-preserved c = λ are.
    let h = c.args.self.now in
    let is = c.requires.heir in
    let u = classes_in h.system in
    let d = h.class_id.0 in
    let l = line_of u d in
    let i = c.names.number in
    let below = subst (λ n. i < n) (c.count-number-end.ensures u is.system.tables_are) c.names-test.true in
    let has = number_has h is h.class_id (record { 0 = i }) (within h is) below in
    let x = feature_at u h.system.tables.now h.system.types.now is.system h.class_id (record { 0 = i }) has in
    let seen = subst (λ (es : List SeenEntry). AreSeen es (signed_entries_in u l x.0.name)) (sym c.in-Some.ensures)
    (are (record { 0 = i }) x.0.name (name_at l i x.0 x.1)) in
    one_name_more u d (class_view h.class.now) l c.args.out.now c.names.out c.push_name_faults.new.out i x.0 x.1
    (c.in_ok-push_name_faults.ensures x.0 x.1 seen) (c.names.invariant are)

pub returns : goal.returns
returns c = λ are.
    let h = c.args.self.now in
    let is = c.requires.heir in
    let u = classes_in h.system in
    let d = h.class_id.0 in
    let l = line_of u d in
    let judged = judged_in u d (class_view h.class.now) l in
    let count = c.count-number-end.ensures u is.system.tables_are in
    let long = length-map (features l) (λ (f : Feature). f.name) in
    at_end (λ (fs : List Feature). c.names.out ≡ c.args.out.now ++ flat_map judged fs) (features l) c.names.number
    (omega arith) (c.names.invariant are)
    ∙ ap (λ (fs : List Fault). c.args.out.now ++ fs) (joins_are u d (class_view h.class.now) l (line_is h is))
