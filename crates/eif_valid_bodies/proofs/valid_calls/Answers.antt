use Rattle.eif_valid_bodies.proofs.Calls.{none_given, more_given, none_whole_given, more_whole_given, used_name, used_precursor, used_call}
use Rattle.eif_valid_bodies.proofs.valid_calls.Goals as goal

pub returns : goal.returns
returns c = record {
  arguments =
      record { none = none_given; more = more_given; none_whole = none_whole_given; more_whole = more_whole_given };
  calls = record { name = used_name; version = used_precursor; on_target = used_call };
}
