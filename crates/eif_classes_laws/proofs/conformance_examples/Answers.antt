use Rattle.std.proofs.Common.{refl}
use Rattle.eif_system.specs.Kernel.{kernel}
use Rattle.eif_system.specs.Lineage.{line_of}
use Rattle.eif_classes_laws.proofs.conformance_examples.Goals as goal

pub returns-clause-classes : goal.returns-clause-classes
unfolding kernel line_of
returns-clause-classes c = record {
  heir = refl;
  parent = refl;
  void_heir = refl;
  heir_or_void = refl;
  void_heir_or_void = refl;
  itself = refl;
  to_any = refl;
  basic_to_any = refl;
  basic_to_basic = refl;
  none = refl;
  none_or_void = refl;
  none_to_none = refl;
  to_none = refl;
  same_actuals = refl;
  marked_actual = refl;
  heir_as_actual = refl;
  generic_to_any = refl;
  derived = refl;
  derived_or_void = refl;
  derived_other = refl;
  undefined = refl;
  undefined_to_any = refl;
  closed = refl;
  closed_void = refl;
  no_formal = refl;
}

pub returns-clause-formals : goal.returns-clause-formals
unfolding kernel line_of
returns-clause-formals c = record {
  plain_to_plain = refl;
  plain_to_attached = refl;
  plain_to_detachable = refl;
  attached_to_plain = refl;
  attached_to_attached = refl;
  attached_to_detachable = refl;
  detachable_to_plain = refl;
  detachable_to_attached = refl;
  detachable_to_detachable = refl;
  other_formal = refl;
  past_the_end = refl;
  unconstrained_to_any = refl;
  unconstrained_or_void = refl;
  attached_to_any = refl;
  to_constraint = refl;
  above_constraint = refl;
  void_to_constraint = refl;
  void_or_constraint = refl;
  to_void_constraint = refl;
  attached_to_constraint = refl;
  constraint_to_formal = refl;
  none_to_plain = refl;
  none_to_detachable = refl;
  none_past_the_end = refl;
  to_none = refl;
  formal_actual = refl;
  marked_formal_actual = refl;
}
