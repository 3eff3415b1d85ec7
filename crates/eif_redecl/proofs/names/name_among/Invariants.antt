use Rattle.std.proofs.Common.{◌≡◌, drop}
use Rattle.std.specs.Prelude.{find}
use Rattle.std.specs.Str.{bytes_eq}
use Rattle.eif_redecl.proofs.names.name_among.Given as goal

abbrev pub invariant-names : goal.invariant-names
invariant-names l =
    find (λ n. bytes_eq n.name l.name) (drop l.one-index l.names) ≡ find (λ n. bytes_eq n.name l.name) l.names
