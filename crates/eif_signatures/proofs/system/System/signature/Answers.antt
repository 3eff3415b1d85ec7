use Rattle.eif_signatures.proofs.Derived.{class_there, seen_signature, source_has}
use Rattle.eif_signatures.specs.DerivedSystems.{classes_in}
use Rattle.eif_signatures.proofs.system.System.signature.Goals as goal

pub signature_above-requires-clause-feature : goal.signature_above-requires-clause-feature
signature_above-requires-clause-feature c =
    let s = c.args.self.now in
    let u = classes_in s in
    let is = c.requires.system in
    source_has u s.tables.now s.types.now is c.args.class c.args.feat c.requires.feature c.signature_source.result.0
    c.signature_source.result.1 (λ x at. c.signature_source.ensures u x is.tables_are at)

pub returns : goal.returns
returns c = λ n named.
    let s = c.args.self.now in
    let u = classes_in s in
    let is = c.requires.system in
    seen_signature u s.tables.now s.types.now is c.args.class.0 c.args.feat n c.signature_source.result.0
    c.signature_source.result.1 c.signature_above.result
    (class_there u s.tables.now s.types.now is c.args.class c.args.feat c.requires.feature) named
    (λ x at. c.signature_source.ensures u x is.tables_are at) c.signature_above.ensures
