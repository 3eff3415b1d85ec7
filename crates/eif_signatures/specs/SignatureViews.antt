-- Signatures as plain data.
use Rattle.std.specs.Prelude.{nat_lt, Bool, map}
use Rattle.std.specs.Option.{option_map}
use Rattle.eif_base.specs.declared.limits.TheConstants.{MOST_TYPE_NAMES}
use Rattle.eif_classes.specs.Signatures as the
use Rattle.eif_classes.specs.Types.{TyT, name_count}
use Rattle.eif_signatures.specs.declared.signature.Signature.{Signature}
use Rattle.eif_type_forms.specs.View.{ty_view}

abbrev pub signature_view : Signature → the.Signature
signature_view s = record { arguments = map ty_view s.arguments.items; result = option_map ty_view s.result }

-- the type has too many names
abbrev pub is_large : TyT → Bool
is_large t = nat_lt MOST_TYPE_NAMES (name_count t)
