-- First places, and what stands there.
use Rattle.std.proofs.Common.{◌≡◌, ◌≤◌, ℕ, zero, suc, Bool, true, false, cond, List, [], ◌∷◌, ◌++◌, length}
use Rattle.std.proofs.Common.{Option, Some, None, refl, sym, ap, ◌∙◌, Vec, Global, arith}
use denote.Ref.{Bor}
use Rattle.std.specs.Prelude.{◌||◌, slice_get, if◌then◌else◌, option_and_then}
use Rattle.std.specs.List.{find}
use Rattle.std.specs.Map.{lookup}
use Rattle.std.specs.Option.{option_map, option_map_or}
use Rattle.std.specs.Slice.{IsItemAt}
use Rattle.std.specs.Str.{bytes_eq}
use Rattle.std.proofs.lemmas.Option.{slice_get-get_or}
use Rattle.indexmap.specs.IndexMap.{insert_entry}
use Rattle.eif_tree.specs.declared.tree.RenamePair.{RenamePair}
use Rattle.eif_classes.specs.Names.{renamed}
use Rattle.eif_adapt.specs.FirstPlaces.{or_place, first_place}
use Rattle.eif_adapt.specs.NamedItems.{has_old_name}

abbrev pub Text : Type 0
Text = Vec ℕ Global

abbrev pub place_in : List (Text × ℕ) → List ℕ → Option ℕ
place_in es n = lookup (λ (k : Text). bytes_eq n k.items) es

abbrev with_entry : List (Text × ℕ) → Text → ℕ → List (Text × ℕ)
with_entry es k v = insert_entry (λ (x : Text) (y : Text). bytes_eq x.items y.items) es k v

-- an entry more, of a name that had none
module _ (k : Text) (v : ℕ) (name : List ℕ) (is : k.items ≡ name) (n : List ℕ) where
  -- of this name there is one entry more
  abbrev pub IsAdded : List (Text × ℕ) → Type 0
  IsAdded es = place_in (with_entry es k v) n ≡ or_place (place_in es n) (bytes_eq n name) v

  other_key : (p : Text × ℕ) (es : List (Text × ℕ)) (b : Bool) → IsAdded es
      → cond b (Some p.1) (place_in (with_entry es k v) n)
      ≡ or_place (cond b (Some p.1) (place_in es n)) (bytes_eq n name) v
  other_key p es true h = refl
  other_key p es false h = h

  behind_entry : (p : Text × ℕ) (es : List (Text × ℕ)) (b : Bool) → bytes_eq name p.0.items ≡ b
      → cond b (Some p.1) (place_in es name) ≡ None → (place_in es name ≡ None → IsAdded es) → IsAdded (p ∷ es)
  behind_entry p es true t absent h = cc
  behind_entry p es false t absent h =
      let apart : bytes_eq k.items p.0.items ≡ false = ap (λ x. bytes_eq x p.0.items) is ∙ t in
      ap (λ b. place_in (if b then (p.0, v) ∷ es else p ∷ with_entry es k v) n) apart
      ∙ other_key p es (bytes_eq n p.0.items) (h absent)

  pub inserted : (es : List (Text × ℕ)) → place_in es name ≡ None → IsAdded es
  inserted [] absent = ap (λ x. cond (bytes_eq n x) (Some v) None) is
  inserted (p ∷ es) absent = behind_entry p es (bytes_eq name p.0.items) refl absent (λ a. inserted es a)

-- one condition after another
pub or_place_twice : (o : Option ℕ) (a b : Bool) (i : ℕ) → or_place (or_place o a i) b i ≡ or_place o (b || a) i
or_place_twice (Some j) a b i = refl
or_place_twice None true true i = refl
or_place_twice None true false i = refl
or_place_twice None false true i = refl
or_place_twice None false false i = refl

one_later : (o : Option ℕ) (b : Bool) (i : ℕ) → option_map suc (or_place o b i) ≡ or_place (option_map suc o) b (suc i)
one_later (Some j) b i = refl
one_later None true i = refl
one_later None false i = refl

pub or_place-false : (o : Option ℕ) (i : ℕ) → o ≡ or_place o false i
or_place-false (Some j) i = refl
or_place-false None i = refl

module _ {A : Type 0} (passes : A → Bool) where
  -- an item more
  pub first_place-push : (xs : List A) (x : A) (i : ℕ) → length xs ≡ i
      → or_place (first_place passes xs) (passes x) i ≡ first_place passes (xs ++ x ∷ [])
  first_place-push xs x i long = ap (λ i. or_place (first_place passes xs) (passes x) i) (sym long) ∙ sym (push xs)
    where
      push : (xs : List A)
          → first_place passes (xs ++ x ∷ []) ≡ or_place (first_place passes xs) (passes x) (length xs)
      push [] = refl
      push (y ∷ xs) = go (passes y) (push xs)
        where
          go : (b : Bool)
              → first_place passes (xs ++ x ∷ []) ≡ or_place (first_place passes xs) (passes x) (length xs)
              → (if b then Some 0 else option_map suc (first_place passes (xs ++ x ∷ [])))
              ≡ or_place (if b then Some 0 else option_map suc (first_place passes xs)) (passes x) (suc (length xs))
          go true h = refl
          go false h = ap (option_map suc) h ∙ one_later (first_place passes xs) (passes x) (length xs)

  behind_one : (x : A) (xs : List A) (o : Option ℕ)
      → option_and_then (slice_get (x ∷ xs)) (option_map suc o) ≡ option_and_then (slice_get xs) o
  behind_one x xs (Some i) = refl
  behind_one x xs None = refl

  -- the first item that passes stands at its place
  pub at_first_place : (xs : List A) → option_and_then (slice_get xs) (first_place passes xs) ≡ find passes xs
  at_first_place [] = refl
  at_first_place (x ∷ xs) = go (passes x) (at_first_place xs)
    where
      go : (b : Bool) → option_and_then (slice_get xs) (first_place passes xs) ≡ find passes xs
          → option_and_then (slice_get (x ∷ xs)) (if b then Some 0 else option_map suc (first_place passes xs))
          ≡ cond b (Some x) (find passes xs)
      go true h = refl
      go false h = behind_one x xs (first_place passes xs) ∙ h

-- ---- what is lent by its place

past : {A : Type 0} (xs : List A) (i : ℕ) → length xs ≤ i → None ≡ slice_get xs i
past [] i far = refl
past (x ∷ xs) zero far = absurd (omega arith)
past (x ∷ xs) (suc i) far = past xs i (omega arith)

pub lent_at : {A B : Type 0} (v : A → B) (xs : List A) (i : ℕ) (r : Option (Bor A)) → IsItemAt xs i r
    → option_map (λ x. v x.now) r ≡ option_map v (slice_get xs i)
lent_at v xs i None h = ap (option_map v) (past xs i h.3)
lent_at v xs i (Some x) h =
    ap Some (ap v h.1) ∙ sym (ap (option_map v) (slice_get-get_or xs i x.now h.3.0))

-- the item at the first place is the first item that passes
pub item_at : {A : Type 0} (passes : A → Bool) (xs : List A) (o : Option ℕ) → o ≡ first_place passes xs
    → option_and_then (slice_get xs) o ≡ find passes xs
item_at passes xs o e = ap (option_and_then (slice_get xs)) e ∙ at_first_place passes xs

-- the name by the first renaming that is found
pub renamed_by : (n : List ℕ) (rs : List RenamePair)
    → option_map_or (λ r. r.new_name.name) (find (has_old_name n) rs) n ≡ renamed rs n
renamed_by n [] = refl
renamed_by n (r ∷ rs) = go (bytes_eq r.old_name.name n) (renamed_by n rs)
  where
    go : (b : Bool) → option_map_or (λ r. r.new_name.name) (find (has_old_name n) rs) n ≡ renamed rs n
        → option_map_or (λ r. r.new_name.name) (cond b (Some r) (find (has_old_name n) rs)) n
        ≡ (if b then r.new_name.name else renamed rs n)
    go true h = refl
    go false h = h
