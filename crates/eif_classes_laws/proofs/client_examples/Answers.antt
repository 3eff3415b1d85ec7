use Rattle.std.proofs.Common.{refl}
use Rattle.eif_system.specs.Kernel.{kernel}
use Rattle.eif_system.specs.Lineage.{line_of}
use Rattle.eif_classes_laws.proofs.client_examples.Goals as goal

pub returns-clause-clients : goal.returns-clause-clients
unfolding kernel line_of
returns-clause-clients c = record {
  listed = refl;
  missing_list = refl;
  empty_list = refl;
  none = refl;
  inherited = refl;
  inherited_from_any = refl;
  named = refl;
  all_others = refl;
  all_of_any = refl;
  first_item = refl;
  later_item = refl;
  no_item = refl;
  final = refl;
  no_final = refl;
  both = refl;
  redeclared = refl;
  absent = refl;
}

pub returns-clause-availability : goal.returns-clause-availability
unfolding kernel line_of
returns-clause-availability c = record {
  to_listed = refl;
  to_heir = refl;
  to_itself = refl;
  to_all = refl;
  to_nobody = refl;
  to_none = refl;
  narrowed_to = refl;
  narrowed_from = refl;
}

pub returns-clause-creators : goal.returns-clause-creators
unfolding kernel line_of
returns-clause-creators c = record {
  parts = refl;
  by_default = refl;
  default_renamed = refl;
  default_selected = refl;
  default_unselected = refl;
  boolean = refl;
  array = refl;
  for_listed = refl;
  for_other = refl;
}
