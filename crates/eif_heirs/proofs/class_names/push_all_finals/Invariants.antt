use Rattle.std.proofs.Common.{◌≡◌, ◌++◌, map, drop}
use Rattle.eif_heirs.specs.Numbered.{final_texts}
use Rattle.eif_heirs.proofs.class_names.push_all_finals.Given as goal

abbrev pub invariant-clauses : goal.invariant-clauses
invariant-clauses l =
    map (λ n. n.now) l.out.items ++ final_texts (drop l.clause-index l.clauses)
    ≡ map (λ n. n.now) l.initial.out.items ++ final_texts l.clauses
