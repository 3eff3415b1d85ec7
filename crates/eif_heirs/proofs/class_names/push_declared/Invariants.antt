use Rattle.std.proofs.Common.{◌≡◌, ◌++◌, map, drop}
use Rattle.eif_heirs.specs.Numbered.{declared_texts}
use Rattle.eif_heirs.proofs.class_names.push_declared.Given as goal

abbrev pub invariant-names : goal.invariant-names
invariant-names l =
    map (λ n. n.now) l.out.items ++ declared_texts (drop l.one-index l.declared)
    ≡ map (λ n. n.now) l.initial.out.items ++ declared_texts l.declared
