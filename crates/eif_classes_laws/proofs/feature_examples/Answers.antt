use Rattle.std.proofs.Common.{refl}
use Rattle.eif_system.specs.Kernel.{kernel}
use Rattle.eif_system.specs.Lineage.{line_of}
use Rattle.eif_classes_laws.proofs.feature_examples.Goals as goal

pub returns-clause-renamed : goal.returns-clause-renamed
unfolding kernel line_of
returns-clause-renamed c = record {
  all_names = refl;
  all_fields = refl;
  finals = refl;
  renamed = refl;
  own = refl;
  absent = refl;
  of_any = refl;
}

pub returns-clause-joined : goal.returns-clause-joined
unfolding kernel line_of
returns-clause-joined c = record {
  deferred_alone = refl;
  deferred_source = refl;
  effective = refl;
  effective_source = refl;
  undefined = refl;
  undefined_source = refl;
  other = refl;
  clash = refl;
  apart = refl;
  shared = refl;
  shared_names = refl;
  undefined_attribute = refl;
  first_renaming = refl;
}

pub returns-clause-declared : goal.returns-clause-declared
unfolding kernel line_of
returns-clause-declared c = record {
  redefined = refl;
  made_deferred = refl;
  deferred_source = refl;
  first = refl;
  first_no_field = refl;
  first_field = refl;
  constant = refl;
  constant_no_field = refl;
  bytes = refl;
}
