-- How many proper ancestors a class has.
use Rattle.std.proofs.Common.{◌≡◌, ℕ, ◌<◌, ◌≤◌, eqb, List, length, get_or, Some, ap, ◌∙◌, arith}
use Rattle.std.specs.List.{IsDistinct}
use Rattle.std.proofs.lemmas.Bool.{eqb-true}
use Rattle.std.proofs.lemmas.Map.Keys.{IsDistinct-from_apart}
use Rattle.std.proofs.lemmas.Option.{slice_get-get_or}
use Rattle.eif_ancestry.proofs.Members.{is_false, member_at, place_of, no_more}
use Rattle.eif_system.specs.Graph.{IsListOf}

distinct : (P : ℕ → Type 0) (xs : List ℕ) → IsListOf P xs → IsDistinct eqb xs
distinct P xs l = IsDistinct-from_apart eqb xs (λ i j d h k. is_false _ (λ t.
    let e : get_or xs i d ≡ get_or xs j d = eqb-true (get_or xs i d) (get_or xs j d) t in
    let w : i < length xs = omega arith in
    let p : i ≡ j = l.once i j (get_or xs j d) (slice_get-get_or xs i d w ∙ ap Some e) (slice_get-get_or xs j d k) in
    absurd (omega arith)))

no_longer : (P : ℕ → Type 0) (xs ys : List ℕ) → IsListOf P xs → IsListOf P ys → length xs ≤ length ys
no_longer P xs ys l m = no_more xs ys (distinct P xs l) (λ a t.
    let i = place_of xs a t in
    let j = m.each a (l.only i.0 a i.1) in
    member_at ys j.0 a j.1)

-- two lists of the same numbers, each once, are as long
pub as_long : (P : ℕ → Type 0) (xs ys : List ℕ) → IsListOf P xs → IsListOf P ys → length xs ≡ length ys
as_long P xs ys l m =
    let p = no_longer P xs ys l m in
    let q = no_longer P ys xs m l in
    omega arith
