-- Each item belongs to one piece.
use Rattle.std.proofs.Common.{◌≡◌, ℕ, zero, suc, ◌+◌, ◌*◌, ◌/◌, ◌<◌, ◌≤◌, ⊎_elim, add-one, arith}
use Rattle.std.proofs.Math.Nat.{div-mul-le_self, mul-div_cancel_left, zero-div}
use Rattle.std.proofs.lemmas.Nat.{le-div, mul-le}
use Rattle.std.proofs.lemmas.Bool.{cases_order, cases_lt}
use Rattle.eif_par.specs.Pieces.{piece_start, IsInPiece, PiecesCover}

-- a later piece begins no earlier
pub starts_rise : (count pieces j k : ℕ) → 0 < pieces → j ≤ k →
    piece_start count pieces j ≤ piece_start count pieces k
starts_rise count pieces j k some le =
    let m = mul-le j count k count le (omega arith) in
    let d = div-mul-le_self (j * count) pieces in
    le-div (j * count / pieces) (k * count) pieces some (omega arith)

-- the end of the last piece is the end of the items
pub last_end : (count pieces : ℕ) → 0 < pieces → piece_start count pieces pieces ≡ count
last_end count pieces some = mul-div_cancel_left count some

-- the piece of an item that stands before where piece n begins
piece_before : (count pieces item n : ℕ) → item < piece_start count pieces n →
    (k : ℕ) × (k < n) × IsInPiece count pieces k item
piece_before count pieces item zero h = absurd (omega (arith, zero-div pieces))
piece_before count pieces item (suc n) h =
    ⊎_elim
    (λ l. let w = piece_before count pieces item n l in (w.0, omega (arith, w.1), w.2))
    (λ l. (n, omega arith, (l, rw add-one h)))
    (cases_lt item (piece_start count pieces n))

-- no item belongs to a piece and to a later one
apart : (count pieces item j k : ℕ) → 0 < pieces → j < k →
    IsInPiece count pieces j item → IsInPiece count pieces k item → ⊥
apart count pieces item j k some less a b =
    let rise = starts_rise count pieces (j + 1) k some (omega arith) in omega (arith, a.1, b.0)

-- an item belongs to one piece alone
one_piece : (count pieces item j k : ℕ) → 0 < pieces →
    IsInPiece count pieces j item → IsInPiece count pieces k item → j ≡ k
one_piece count pieces item j k some a b =
    ⊎_elim (λ same. same)
    (⊎_elim
    (λ less. absurd (apart count pieces item j k some less a b))
    (λ more. absurd (apart count pieces item k j some more b a)))
    (cases_order j k)

pub covers : PiecesCover
covers count pieces item some few within =
    let e = last_end count pieces some in
    let w = piece_before count pieces item pieces (omega arith) in
    (w.0, w.1, w.2, λ j _ h. one_piece count pieces item j w.0 some h w.2)
