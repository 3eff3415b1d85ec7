-- How work is divided.
use Rattle.std.specs.Prelude.{◌≡◌, ℕ, ◌+◌, ◌*◌, ◌/◌, ◌<◌, ◌≤◌, List, map, length, min, Some, slice_get, slice_range}
use Rattle.std.specs.List.{flat_map}

-- where a piece begins, of so many items and so many pieces
abbrev pub piece_start : ℕ → ℕ → ℕ → ℕ
piece_start count pieces piece = piece * count / pieces

-- what is true of the result of a piece
abbrev pub GivesPiece : {X : Type 0} → (ℕ → ℕ → X → Type 0) → ℕ → ℕ → ℕ → X → Type 0
GivesPiece gives count pieces k = gives (piece_start count pieces k) (piece_start count pieces (k + 1))

-- one result for each piece, in order
pub record ArePieces {X : Type 0} (gives : ℕ → ℕ → X → Type 0) (count pieces : ℕ) (outs : List X) : Type 0 where
  pub count_is : length outs ≡ pieces
  pub each : (k : ℕ) → k < pieces → (out : X) × (slice_get outs k ≡ Some out) × GivesPiece gives count pieces k out

-- an item belongs to a piece
abbrev pub IsInPiece : ℕ → ℕ → ℕ → ℕ → Type 0
IsInPiece count pieces k item = (piece_start count pieces k ≤ item) × (item < piece_start count pieces (k + 1))

-- one of the pieces is the only one that an item belongs to
abbrev pub HasOnePiece : ℕ → ℕ → ℕ → Type 0
HasOnePiece count pieces item =
    (k : ℕ) × (k < pieces) × IsInPiece count pieces k item ×
    ((j : ℕ) → j < pieces → IsInPiece count pieces j item → j ≡ k)

-- each item belongs to exactly one piece
abbrev pub PiecesCover : Type 0
PiecesCover = (count pieces item : ℕ) → 1 ≤ pieces → pieces ≤ count → item < count → HasOnePiece count pieces item

-- a result is shown as the values of the items from the first to before the last
abbrev pub GivesValues : {X I A : Type 0} → (X → List A) → (I → A) → List I → ℕ → ℕ → X → Type 0
GivesValues view f items first past out = view out ≡ map f (slice_range items first past)

-- if each piece's result is shown as its values, all of them one after another are all values
abbrev pub PiecesJoin : Type 0 → Type 0 → Type 0 → Type 0
PiecesJoin X I A =
    (view : X → List A) (f : I → A) (items : List I) (workers : ℕ) (outs : List X) →
    1 ≤ workers → ArePieces (GivesValues view f items) (length items) (min workers (length items)) outs →
    flat_map view outs ≡ map f items
