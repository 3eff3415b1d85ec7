use Rattle.std.proofs.Common.{[], ◌∷◌, refl, arith, ⊎_elim}
use Rattle.eif_system.specs.Kernel.{kernel}
use Rattle.eif_system.specs.Universe.{universe}
use Rattle.eif_system.specs.Inheritance.{graph_of}
use Rattle.eif_rules_laws.specs.UniverseExamples.{class_d, class_b_below_d}
use Rattle.eif_rules_laws.proofs.BelowAny.{up_from_number, one_ancestor, one_alone}
use Rattle.eif_rules_laws.proofs.universe_examples.Goals as goal

pub returns-clause-types : goal.returns-clause-types
unfolding kernel
returns-clause-types c = record {
  unknown_class = refl;
  known_class = refl;
  no_actual = refl;
  one_actual = refl;
  unknown_actual = refl;
  marked_integer = refl;
  marked_string = refl;
  long_type = refl;
  longest_type = refl;
  two_names = refl;
  in_body = refl;
  in_invariant = refl;
}

pub returns-clause-formals : goal.returns-clause-formals
unfolding kernel
returns-clause-formals c = record {
  names_class = refl;
  names_none = refl;
  repeated = refl;
  distinct = refl;
  formal_constraint = refl;
  class_constraint = refl;
  unknown_constraint = refl;
  many = refl;
  most = refl;
  hidden_integer = refl;
}

pub returns-clause-parents : goal.returns-clause-parents
unfolding kernel
returns-clause-parents c = record {
  formal_parent = refl;
  class_parent = refl;
  kernel_parent = refl;
  any_parent = refl;
  hidden_class = refl;
  hidden_generic = refl;
  own_parent = λ f. (λ h. h.3, λ e. (6, refl, ([], refl), e));
  own_ancestor = λ f. (λ h. h.3, λ e. (7, refl, (6 ∷ [], (refl, refl)), e));
  no_own_ancestor = λ f h.
      ⊎_elim (λ e. absurd (omega arith)) (λ e. absurd (omega arith))
      (up_from_number (graph_of (universe (class_b_below_d ∷ class_d ∷ []))) 7 refl refl h.0 6 h.1 h.2);
  many = refl;
  most = refl;
  one_ancestor = one_ancestor _ 6 refl refl (omega arith);
  more_than_none = (0 ∷ [], one_ancestor _ 6 refl refl (omega arith), omega arith);
  not_more_than_one = one_alone _ 6 refl refl;
}

pub returns-clause-classes : goal.returns-clause-classes
unfolding kernel
returns-clause-classes c = record {
  repeated = refl;
  repeated_fault = λ f. (λ h. h, λ h. h);
  first = refl;
  kernel_name = refl;
  kernel_name_fault = refl;
  distinct = refl;
}

pub returns-clause-roots : goal.returns-clause-roots
unfolding kernel
returns-clause-roots c = record {
  given = refl;
  not_given = refl;
  kernel_class = refl;
  is_deferred = refl;
  is_generic = refl;
  is_both = refl;
}
