use Rattle.std.proofs.Common.{refl}
use Rattle.eif_system.specs.Kernel.{kernel}
use Rattle.eif_system.specs.Lineage.{line_of}
use Rattle.eif_classes_laws.proofs.binding_examples.Goals as goal

pub returns-clause-versions : goal.returns-clause-versions
unfolding kernel line_of
returns-clause-versions c = record {
  both_names = refl;
  both_origins = refl;
  both_creators = refl;
  unselected = refl;
  unselected_reach = refl;
  one_selected = refl;
  one_selected_reach = refl;
  through_c = refl;
  both_selected = refl;
  alone = refl;
  alone_reach = refl;
  alone_names = refl;
  no_fields = refl;
  shared = refl;
  renamed_twice = refl;
  renamed_and_selected = refl;
}

pub returns-clause-none : goal.returns-clause-none
unfolding kernel line_of
returns-clause-none c = record {
  own = refl;
  unnamed = refl;
  unnamed_reach = refl;
  own_unnamed = refl;
  no_heir = refl;
  no_heir_reach = refl;
}

pub returns-clause-fields : goal.returns-clause-fields
unfolding kernel line_of
returns-clause-fields c = record {
  replicated_names = refl;
  replicated_fields = refl;
  replicated_origin = refl;
  replicated_creators = refl;
  replicated_reach = refl;
  replicated = refl;
  creator = refl;
  renamed_creator = refl;
  renamed_reach = refl;
  renamed_creators = refl;
}
