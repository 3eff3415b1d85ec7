use Rattle.eif_table_laws.proofs.Wholeness.{given_fault, fault_of_given}
use Rattle.eif_table_laws.proofs.faults_are_those_of_given.Goals as goal

pub returns : goal.returns
returns c = λ given root sound order is f.
    (given_fault given root sound order is f, fault_of_given given root sound order is f)
