use Rattle.std.proofs.Common.{List, sym, ap, ◌∙◌, arith}
use Rattle.eif_redecl.proofs.HeirLaws.{bound_to, class_has, named_has, within}
use Rattle.eif_rows.proofs.NameSets.{is_among-from_place}
use Rattle.eif_classes.specs.Features.{names}
use Rattle.eif_signatures.specs.DerivedSystems.{classes_in}
use Rattle.eif_system.specs.Lineage.{line_of}
use Rattle.eif_redecl.proofs.entry.Heir.default_creator.Goals as goal

pub bind-requires-clause-class : goal.bind-requires-clause-class
bind-requires-clause-class c =
    let h = c.args.self.now in
    let is = c.requires.heir in
    class_has h is h.class_id (within h is)

pub bind-requires-clause-feature : goal.bind-requires-clause-feature
bind-requires-clause-feature c =
    let h = c.args.self.now in
    let is = c.requires.heir in
    let inside = within h is in
    named_has h is _ c.in-Some.feat _ (omega arith)
    (c.in-Some.ensures.found (classes_in h.system) is.system.tables_are)

pub name-requires : goal.name-requires
name-requires c =
    let h = c.args.self.now in
    let is = c.requires.heir in
    let u = classes_in h.system in
    let named = c.in-Some.ensures.found u is.system.tables_are in
    let has = is_among-from_place (names (line_of u 0)) c.in-Some.feat.0 _ named in
    let b = bound_to h is 0 _ (c.in-Some-bind.ensures.some u is.system.tables_are) has in
    named_has h is h.class_id c.in-Some-bind.name b.0 (within h is)
    (c.in-Some-bind.ensures.bound u _ is.system.tables_are named ∙ b.1)
