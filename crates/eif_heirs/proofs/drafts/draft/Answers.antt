use Rattle.std.proofs.Common.{subst, arith}
use Rattle.std.proofs.lemmas.Option.{slice_get_within}
use Rattle.std.proofs.lemmas.Result.{IfOk-weaker}
use Rattle.eif_heirs.specs.DraftForms.{IsByEntries}
use Rattle.eif_heirs.specs.Heirs.{AreSources}
use Rattle.eif_heirs.proofs.Drafted.{by_declared, by_entries}
use Rattle.eif_rows.proofs.Matches.{length-Match}
use Rattle.eif_tree.specs.View.{class_view}
use Rattle.eif_universe.specs.Universes.{classes_of}
use Rattle.eif_heirs.proofs.drafts.draft.Goals as goal

pub overflow_cast-name : goal.overflow_cast-name
overflow_cast-name c =
    let h = c.args.heir.now in
    let within = slice_get_within h.sources.items c.args.name c.args.sources.now c.requires.sources in
    let long = length-Match (AreSources (classes_of c.args.u.now) (class_view h.tree.now)) h.sources.items h.names.items
    c.requires.heir.sources_are in
    let few = c.requires.heir.few in
    record { fits = omega arith }

pub returns-in-Some : goal.returns-in-Some
returns-in-Some c = IfOk-weaker c.draft_by_declared.result _ _
    (λ r by. λ n at. by_declared (classes_of c.args.u.now) c.args.heir.now c.requires.heir c.args.name n at
    c.args.sources.now c.requires.sources c.in-Some.first c.in-Some.is r by) c.draft_by_declared.ensures

pub returns-in-None : goal.returns-in-None
returns-in-None c = IfOk-weaker c.draft_by_entries.result _ _
    (λ r by. λ n at. by_entries (classes_of c.args.u.now) c.args.heir.now c.requires.heir c.args.name n at
    c.args.sources.now c.requires.sources c.in-None.is r
    (subst (λ ids. IsByEntries
    (classes_of c.args.u.now) c.args.heir.now ids r) c.deref.ensures.value by)) c.draft_by_entries.ensures
