use Rattle.eif_valid_bodies.proofs.TestsFree.{tests_free, tests_free_in, told_is_own}
use Rattle.eif_valid_bodies.proofs.tests_are_free.Goals as goal

pub returns : goal.returns
returns c = record { free = record { expression = tests_free; arguments = tests_free_in }; own = told_is_own }
