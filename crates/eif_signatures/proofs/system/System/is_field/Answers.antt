use Rattle.eif_signatures.proofs.Derived.{origin_has}
use Rattle.eif_signatures.specs.DerivedSystems.{classes_in}
use Rattle.eif_signatures.proofs.system.System.is_field.Goals as goal

pub declaration-requires-clause-feature : goal.declaration-requires-clause-feature
declaration-requires-clause-feature c =
    let s = c.args.self.now in
    let u = classes_in s in
    let is = c.requires.system in
    origin_has u s.tables.now s.types.now is c.args.class c.args.feat c.requires.feature c.in-Declared.class_id
    c.in-Declared.feat (λ x at. c.in-Declared.ensures u x is.tables_are at)
