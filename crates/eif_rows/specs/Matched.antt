-- Two lists that go together, item by item.
use Rattle.std.specs.Prelude.{List, [], ◌∷◌}

-- they are equally long, and each item of the first stands so to the item of the second at its place
abbrev pub Match : {A B : Type 0} → (A → B → Type 0) → List A → List B → Type 0
Match Goes [] [] = Unit {0}
Match Goes (x ∷ xs) (y ∷ ys) = Goes x y × Match Goes xs ys
Match Goes [] (y ∷ ys) = ⊥
Match Goes (x ∷ xs) [] = ⊥
