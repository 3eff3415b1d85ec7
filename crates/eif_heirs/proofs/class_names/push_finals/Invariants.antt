use Rattle.std.proofs.Common.{◌≡◌, ◌++◌, map, drop}
use Rattle.eif_heirs.proofs.class_names.push_finals.Given as goal

abbrev pub invariant-entries : goal.invariant-entries
invariant-entries l =
    map (λ n. n.now) l.out.items ++ map (λ a. a.final_name) (drop l.entry-index l.entries)
    ≡ map (λ n. n.now) l.initial.out.items ++ map (λ a. a.final_name) l.entries
