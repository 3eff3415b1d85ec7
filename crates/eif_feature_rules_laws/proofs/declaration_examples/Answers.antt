use Rattle.std.proofs.Common.{refl}
use Rattle.eif_system.specs.Kernel.{kernel}
use Rattle.eif_system.specs.Lineage.{line_of}
use Rattle.eif_feature_rules_laws.proofs.declaration_examples.Goals as goal

pub returns-clause-declarations : goal.returns-clause-declarations
unfolding kernel line_of
returns-clause-declarations c = record {
  repeated_declaration = refl;
  two_declarations = refl;
  repeated_beside_entry = refl;
  declared_over = refl;
  redeclared = refl;
  undefined_and_declared = refl;
  made_effective = refl;
  undeclared_redefinition = refl;
  deferred_again = refl;
  deferred_redefinition = refl;
  undefined_and_deferred = refl;
  undeclared_twice = refl;
}

pub returns-clause-constants : goal.returns-clause-constants
unfolding kernel line_of
returns-clause-constants c = record {
  wrong_constant = refl;
  detachable_constant = refl;
  each_constant = refl;
  repeated_constant = refl;
  right_constant = refl;
  attached_constant = refl;
}

pub returns-clause-origins : goal.returns-clause-origins
unfolding kernel line_of
returns-clause-origins c = record {
  clashing_name = refl;
  one_undefined = refl;
  shared_name = refl;
  joined_with_deferred = refl;
  deferred_name = refl;
  inherited_deferred = refl;
  undefined_in_all = refl;
  deferred_class_marked = refl;
}

pub returns-clause-limits : goal.returns-clause-limits
unfolding kernel line_of
returns-clause-limits c = record {
  too_many = refl;
  most = refl;
  too_many_above = refl;
  most_above = refl;
  counted = refl;
}

pub returns-clause-judged : goal.returns-clause-judged
unfolding kernel line_of
returns-clause-judged c = record {
  ancestor_broken = refl;
  ancestor_alone = refl;
  clean_parent = refl;
}
