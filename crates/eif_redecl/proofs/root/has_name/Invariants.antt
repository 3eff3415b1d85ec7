use Rattle.std.proofs.Common.{◌≡◌, map, drop}
use Rattle.std.specs.List.{list_any}
use Rattle.std.specs.Str.{bytes_eq}
use Rattle.eif_redecl.proofs.root.has_name.Given as goal

abbrev pub invariant-names : goal.invariant-names
invariant-names l =
    list_any (λ n. bytes_eq n.name l.name) (map (λ n. n.now) (drop l.one-index l.names))
    ≡ list_any (λ n. bytes_eq n.name l.name) (map (λ n. n.now) l.names)
