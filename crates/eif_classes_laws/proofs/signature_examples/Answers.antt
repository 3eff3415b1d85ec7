use Rattle.std.proofs.Common.{refl}
use Rattle.eif_system.specs.Kernel.{kernel}
use Rattle.eif_system.specs.Lineage.{line_of}
use Rattle.eif_classes_laws.proofs.signature_examples.Goals as goal

pub returns-clause-generic : goal.returns-clause-generic
unfolding kernel line_of
returns-clause-generic c = record {
  attribute = refl;
  creator = refl;
  command = refl;
  renamed = refl;
  no_more = refl;
  inherited = refl;
  one_step = refl;
  two_steps = refl;
  two_steps_inside = refl;
  groups = refl;
  no_arguments = refl;
  of_any = refl;
  absent = refl;
}

pub returns-clause-marks : goal.returns-clause-marks
unfolding kernel line_of
returns-clause-marks c = record {
  attached = refl;
  constant = refl;
  same = refl;
  sure = refl;
  maybe = refl;
}

pub returns-clause-sources : goal.returns-clause-sources
unfolding kernel line_of
returns-clause-sources c = record {
  effective = refl;
  first = refl;
  first_undefined = refl;
  declared = refl;
  of_entries = refl;
  precursor = refl;
  named_precursor = refl;
  no_precursor = refl;
  two_precursors = refl;
}
