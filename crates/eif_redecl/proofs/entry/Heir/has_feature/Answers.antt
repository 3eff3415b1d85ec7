use Rattle.std.proofs.Common.{sym}
use Rattle.eif_classes.specs.Features.{names}
use Rattle.eif_rows.proofs.NameSets.{is_among-from_place}
use Rattle.eif_signatures.specs.DerivedSystems.{classes_in}
use Rattle.eif_system.specs.Lineage.{line_of}
use Rattle.eif_redecl.proofs.entry.Heir.has_feature.Goals as goal

pub returns-in-Some : goal.returns-in-Some
returns-in-Some c =
    let h = c.args.self.now in
    let u = classes_in h.system in
    sym (is_among-from_place (names (line_of u h.class_id.0)) c.in-Some.field-0.0 c.args.name.now
    (c.in-Some.ensures.found u c.requires.heir.system.tables_are))
