use Rattle.eif_run_laws.proofs.Operands.{integer_is, boolean_is, character_is, string_is}
use Rattle.eif_run_laws.proofs.basic_values.Goals as goal

pub returns : goal.returns
returns c = record { integers = integer_is; booleans = boolean_is; characters = character_is; strings = string_is }
