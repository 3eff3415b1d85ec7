use Rattle.std.proofs.Common.{false, length, sym, ap}
use Rattle.std.specs.Option.{option_map_or}
use Rattle.std.specs.Prelude.{◌==◌, not}
use Rattle.eif_redecl.proofs.HeirLaws.{named_has, unsigned, within}
use Rattle.eif_signatures.specs.DerivedSystems.{classes_in}
use Rattle.eif_redecl.proofs.entry.Heir.has_arguments.Goals as goal

pub signature-requires-clause-feature : goal.signature-requires-clause-feature
signature-requires-clause-feature c =
    let h = c.args.self.now in
    let is = c.requires.heir in
    named_has h is h.class_id c.in-Some.feat c.args.name.now (within h is)
    (c.in-Some.ensures.found (classes_in h.system) is.system.tables_are)

pub returns-in-None : goal.returns-in-None
returns-in-None c =
    let h = c.args.self.now in
    let is = c.requires.heir in
    sym (ap (λ o. option_map_or (λ s. not (length s.arguments == 0)) o false)
    (unsigned h is c.args.name.now (c.in-None.ensures.none (classes_in h.system) is.system.tables_are)))
