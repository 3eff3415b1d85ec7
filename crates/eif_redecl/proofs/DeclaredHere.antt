-- The first declaration of a name, and the name in it.
use Rattle.std.proofs.Common.{◌≡◌, ℕ, Bool, true, false, List, [], ◌∷◌, ◌++◌, map, Option, Some, None, refl, sym, ap, ◌∙◌}
use Rattle.std.specs.Prelude.{cond, find, ◌||◌}
use Rattle.std.specs.List.{flat_map}
use Rattle.std.specs.Option.{option_and_then, option_map, option_or}
use Rattle.std.specs.Str.{bytes_eq}
use Rattle.eif_classes.specs.Features.{declaration_of}
use Rattle.eif_feature_rules.specs.JoinRules.{declaration_here}
use Rattle.eif_feature_rules.specs.RuleForms.{DeclaredName, names_of_declaration}
use Rattle.eif_tree.specs.Members.{declarations, has_name}
use Rattle.eif_tree.specs.Tree.{DeclT, ClassT}
use Rattle.eif_tree.specs.declared.tree.NameAt.{NameAt}

module _ (n : List ℕ) where
  -- where the names have that one first
  abbrev pub first_named : List NameAt → Option NameAt
  first_named ms = find (λ m. bytes_eq m.name n) ms

  abbrev is_here : DeclaredName → Bool
  is_here x = bytes_eq x.name.name n

  -- the name as one that the declaration declares
  abbrev pub declared_by : DeclT → NameAt → DeclaredName
  declared_by x m = record { name = m; tree = x }

  pub has_first : (ms : List NameAt) → has_name ms n ≡ true → (m : NameAt) × (first_named ms ≡ Some m)
  has_first [] h = cc
  has_first (m ∷ ms) h = go (bytes_eq m.name n) refl h (has_first ms)
    where
      go : (b : Bool) → bytes_eq m.name n ≡ b → (b || has_name ms n) ≡ true →
          (has_name ms n ≡ true → (m : NameAt) × (first_named ms ≡ Some m)) →
          (x : NameAt) × (cond b (Some m) (first_named ms) ≡ Some x)
      go true e h later = (m, refl)
      go false e h later = later h

  no_first : (ms : List NameAt) → has_name ms n ≡ false → first_named ms ≡ None
  no_first [] h = refl
  no_first (m ∷ ms) h = go (bytes_eq m.name n) h (no_first ms)
    where
      go : (b : Bool) → (b || has_name ms n) ≡ false → (has_name ms n ≡ false → first_named ms ≡ None) →
          cond b (Some m) (first_named ms) ≡ None
      go true h later = cc
      go false h later = later h

  names_first : (x : DeclT) (ms : List NameAt) (rest : List DeclaredName) →
      find is_here (map (declared_by x) ms ++ rest)
      ≡ option_or (option_map (declared_by x) (first_named ms)) (find is_here rest)
  names_first x [] rest = refl
  names_first x (m ∷ ms) rest = go (bytes_eq m.name n) (names_first x ms rest)
    where
      go : (b : Bool) → find is_here (map (declared_by x) ms ++ rest)
          ≡ option_or (option_map (declared_by x) (first_named ms)) (find is_here rest) →
          cond b (Some (declared_by x m)) (find is_here (map (declared_by x) ms ++ rest))
          ≡ option_or (option_map (declared_by x) (cond b (Some m) (first_named ms))) (find is_here rest)
      go true h = refl
      go false h = h

  declared_first : (ds : List DeclT) → find is_here (flat_map names_of_declaration ds)
      ≡ option_and_then (λ x. option_map (declared_by x) (first_named x.names)) (find (λ x. has_name x.names n) ds)
  declared_first [] = refl
  declared_first (x ∷ ds) =
      names_first x x.names (flat_map names_of_declaration ds) ∙ go (has_name x.names n) refl (declared_first ds)
    where
      go : (b : Bool) → has_name x.names n ≡ b → find is_here (flat_map names_of_declaration ds)
          ≡ option_and_then (λ x. option_map (declared_by x) (first_named x.names)) (find (λ x. has_name x.names n) ds) →
          option_or (option_map (declared_by x) (first_named x.names)) (find is_here (flat_map names_of_declaration ds))
          ≡ option_and_then (λ x. option_map (declared_by x) (first_named x.names))
          (cond b (Some x) (find (λ x. has_name x.names n) ds))
      go true e h =
          let m = has_first x.names e in
          ap (λ o. option_or (option_map (declared_by x) o) (find is_here (flat_map names_of_declaration ds))) m.1
          ∙ sym (ap (option_map (declared_by x)) m.1)
      go false e h =
          ap (λ o. option_or (option_map (declared_by x) o) (find is_here (flat_map names_of_declaration ds)))
          (no_first x.names e) ∙ h

  pub here_is : (c : ClassT) → declaration_here c n
      ≡ option_and_then (λ x. option_map (declared_by x) (first_named x.names)) (declaration_of c n)
  here_is c = declared_first (declarations c)
