use Rattle.eif_valid_bodies.proofs.Nodes.{literal_is, void_is, current_is, result_is, paren_is, valid_unary, valid_binary, valid_test, valid_creation}
use Rattle.eif_valid_bodies.proofs.valid_nodes.Goals as goal

pub returns : goal.returns
returns c = record {
  leaves = record { value = literal_is; void = void_is; current = current_is; result = result_is };
  nodes =
      record {
        creation_of = valid_creation;
        test_of = valid_test;
        within = paren_is;
        of_one = valid_unary;
        of_two = valid_binary;
      };
}
