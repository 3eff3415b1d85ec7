use Rattle.std.proofs.Common.{refl}
use Rattle.eif_system.specs.Kernel.{kernel}
use Rattle.eif_system.specs.Lineage.{line_of}
use Rattle.eif_classes_laws.proofs.type_examples.Goals as goal

pub returns-clause-written : goal.returns-clause-written
unfolding kernel line_of
returns-clause-written c = record {
  unmarked = refl;
  with_attached = refl;
  with_detachable = refl;
  attached_integer = refl;
  first_formal = refl;
  marked_formals = refl;
  nested = refl;
  hidden = refl;
  unknown = refl;
  own = refl;
}

pub returns-clause-formals : goal.returns-clause-formals
unfolding kernel line_of
returns-clause-formals c = record {
  unconstrained = refl;
  constrained = refl;
  no_formal = refl;
  no_class = refl;
  base_of_class = refl;
  base_of_unconstrained = refl;
  base_of_constrained = refl;
  base_of_none = refl;
  class_attached = refl;
  class_detachable = refl;
  formal_plain = refl;
  formal_attached = refl;
  formal_detachable = refl;
  constraint_attached = refl;
  constraint_detachable = refl;
  none_attached = refl;
}

pub returns-clause-forms : goal.returns-clause-forms
unfolding kernel line_of
returns-clause-forms c = record {
  count = refl;
  attach = refl;
  detach = refl;
  none_attach = refl;
  plain_actual = refl;
  detachable_actual = refl;
  attached_actual = refl;
  formal_actual = refl;
  inside = refl;
  no_formal = refl;
  past_the_end = refl;
  basic = refl;
  reference = refl;
  with_void = refl;
  formal_with_void = refl;
  formal = refl;
  none = refl;
}
