-- Sets as lists: the members in rising order, each once. The order is a comparison.
use Rattle.std.specs.Prelude.{List, [], ◌∷◌}
use Rattle.std.specs.declared.cmp.Ordering.{Ordering}
use Rattle.std.specs.declared.cmp.Ordering.TheVariants.{Less, Equal, Greater}

-- y ∷ ys with x as a member, where x compares so to y; rest is ys with x as a member
abbrev pub placed : {A : Type 0} → Ordering → A → A → List A → List A → List A
placed Less x y ys rest = x ∷ y ∷ ys
placed Equal x y ys rest = y ∷ ys
placed Greater x y ys rest = y ∷ rest

-- one member more
abbrev pub put : {A : Type 0} → (A → A → Ordering) → A → List A → List A
put cmp x [] = x ∷ []
put cmp x (y ∷ ys) = placed (cmp x y) x y ys (put cmp x ys)

-- the members of any list
abbrev pub in_order : {A : Type 0} → (A → A → Ordering) → List A → List A
in_order cmp [] = []
in_order cmp (x ∷ xs) = put cmp x (in_order cmp xs)
