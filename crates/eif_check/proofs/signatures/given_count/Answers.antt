use Rattle.std.proofs.Common.{arith}
use Rattle.eif_universe.specs.Universes.{classes_of}
use Rattle.eif_check.proofs.GivenInTurn.{given_long}
use Rattle.eif_check.proofs.signatures.given_count.Goals as goal

pub overflow_sub-result : goal.overflow_sub-result
overflow_sub-result c =
    let long = given_long (classes_of c.args.u.now) c.requires in
    let count = c.class_count.ensures in
    omega arith

pub returns : goal.returns
returns c =
    let long = given_long (classes_of c.args.u.now) c.requires in
    let count = c.class_count.ensures in
    omega arith
