use Rattle.std.proofs.Common.{refl}
use Rattle.eif_system.specs.Kernel.{kernel}
use Rattle.eif_system.specs.Lineage.{line_of}
use Rattle.eif_flow_rules_laws.proofs.creator_examples.Goals as goal

pub returns-clause-branches : goal.returns-clause-branches
unfolding kernel line_of
returns-clause-branches c = record {
  in_one_branch = refl;
  in_both = refl;
  in_two_of_three = refl;
  in_none = refl;
  by_default = refl;
  values_from_the_start = refl;
}

pub returns-clause-current : goal.returns-clause-current
unfolding kernel line_of
returns-clause-current c = record {
  before = refl;
  behind = refl;
}

pub returns-clause-loops : goal.returns-clause-loops
unfolding kernel line_of
returns-clause-loops c = record {
  set_at_start = refl;
  set_in_body = refl;
  set_by_exit = refl;
}

pub returns-clause-several : goal.returns-clause-several
unfolding kernel line_of
returns-clause-several c = record {
  each_alone = refl;
  default_by_its_name = refl;
}

pub returns-clause-inherited : goal.returns-clause-inherited
unfolding kernel line_of
returns-clause-inherited c = record {
  new_field = refl;
  of_the_parent = refl;
  replicated = refl;
}

pub returns-clause-generic : goal.returns-clause-generic
unfolding kernel line_of
returns-clause-generic c = record {
  of_a_formal = refl;
  of_a_detachable_formal = refl;
  of_an_integer = refl;
  of_a_string = refl;
}
