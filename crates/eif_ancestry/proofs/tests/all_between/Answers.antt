use Rattle.std.proofs.Common.{◌≡◌, ℕ, ◌<◌, ◌≤◌, true, List, length, get_or, subst, arith}
use Rattle.std.proofs.lemmas.Option.{slice_get_within, get_or_from_slice_get}
use Rattle.eif_system.specs.Graph.{is_member}
use Rattle.eif_ancestry.proofs.Members.{place_of}
use Rattle.eif_ancestry.proofs.tests.all_between.Goals as goal

each_between : (ns : List ℕ) (low high i : ℕ) → length ns ≤ i
    → ((k : ℕ) → k < i → (low ≤ get_or ns k 0) × (get_or ns k 0 < high))
    → (p : ℕ) → is_member p ns ≡ true → (low ≤ p) × (p < high)
each_between ns low high i end each p m =
    let k = place_of ns p m in
    let l = slice_get_within ns k.0 p k.1 in
    subst (λ n. (low ≤ n) × (n < high)) (get_or_from_slice_get ns k.0 p 0 k.1) (each k.0 (omega arith))

pub returns : goal.returns
returns c = λ _.
    each_between c.args.numbers.now c.args.low c.args.high c.loop-n.n-index (omega arith) c.loop-n.invariant
