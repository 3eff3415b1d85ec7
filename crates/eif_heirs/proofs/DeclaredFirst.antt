-- The first declaration of a name, and the part that it stands in.
use Rattle.std.proofs.Common.{◌≡◌, ℕ, suc, ◌+◌, Bool, true, false, cond, List, [], ◌∷◌, ◌++◌, map, Option, Some, None, refl, sym, ap, ap₂, subst, ◌∙◌, arith}
use Rattle.std.specs.Prelude.{◌||◌, flat_map, slice_get}
use Rattle.std.specs.List.{find, list_any, position_from}
use Rattle.std.specs.Option.{option_map, option_or}
use Rattle.std.specs.Str.{bytes_eq}
use Rattle.std.proofs.lemmas.List.{map-append}
use Rattle.std.proofs.lemmas.List.Concat.{flat_map-append}
use Rattle.std.proofs.lemmas.List.Folds.{find-append}
use Rattle.std.proofs.lemmas.Option.{same_Some, slice_get-map}
use Rattle.eif_classes.specs.Clients.{declaring_part}
use Rattle.eif_classes.specs.Features.{declaration_of}
use Rattle.eif_feature_rules.specs.RuleForms.{DeclaredName, declared_here, names_of_declaration}
use Rattle.eif_heirs.specs.DraftParts.{part_of_each, parts_of}
use Rattle.eif_heirs.specs.Heirs.{first_declared}
use Rattle.eif_tree.specs.Members.{declarations, has_name}
use Rattle.eif_tree.specs.Tree.{ClassT, DeclT, FeaturesT}
use Rattle.eif_tree.specs.declared.tree.NameAt.{NameAt}

-- ---- the place of the first that passes, and that item

-- what stands at the place that a search found
pub record FoundAt {A : Type 0} (test : A → Bool) (xs : List A) (place : ℕ) : Type 0 where
  pub item : A
  pub at : slice_get xs place ≡ Some item
  pub first : find test xs ≡ Some item

module _ {A : Type 0} (test : A → Bool) where
  -- places that are counted from i
  counted : (i : ℕ) (xs : List A) (k : ℕ) → position_from test i xs ≡ Some k
      → (j : ℕ) × (k ≡ i + j) × FoundAt test xs j
  counted i [] k e = absurd (cc)
  counted i (x ∷ xs) k e = go (test x) refl (λ e. counted (i + 1) xs k e) e
    where
      go : (b : Bool) → test x ≡ b
          → (position_from test (i + 1) xs ≡ Some k → (j : ℕ) × (k ≡ (i + 1) + j) × FoundAt test xs j)
          → cond b (Some i) (position_from test (i + 1) xs) ≡ Some k
          → (j : ℕ) × (k ≡ i + j) × FoundAt test (x ∷ xs) j
      go true t rest e =
          let same = same_Some i k e in
          (0, omega arith, record { item = x; at = refl; first = ap (λ b. cond b (Some x) (find test xs)) t })
      go false t rest e =
          let r = rest e in
          let far = r.1 in (
            suc r.0,
            omega arith,
            record { item = r.2.item; at = r.2.at; first = ap (λ b. cond b (Some x) (find test xs)) t ∙ r.2.first },
          )

  pub found_at : (xs : List A) (k : ℕ) → position_from test 0 xs ≡ Some k → FoundAt test xs k
  found_at xs k e =
      let r = counted 0 xs k e in
      subst (FoundAt test xs) (let same : r.0 ≡ k = let far = r.1 in omega arith in same) r.2

  pub none_found : (i : ℕ) (xs : List A) → position_from test i xs ≡ None → find test xs ≡ None
  none_found i [] e = refl
  none_found i (x ∷ xs) e = go (test x) (λ e. none_found (i + 1) xs e) e
    where
      go : (b : Bool) → (position_from test (i + 1) xs ≡ None → find test xs ≡ None)
          → cond b (Some i) (position_from test (i + 1) xs) ≡ None → cond b (Some x) (find test xs) ≡ None
      go true rest e = absurd (cc)
      go false rest e = rest e

  pub position_from-map : {B : Type 0} (f : B → A) (i : ℕ) (xs : List B)
      → position_from test i (map f xs) ≡ position_from (λ x. test (f x)) i xs
  position_from-map f i [] = refl
  position_from-map f i (x ∷ xs) = ap (λ o. cond (test (f x)) (Some i) o) (position_from-map f (i + 1) xs)

  find-map : {B : Type 0} (f : B → A) (xs : List B) → find test (map f xs) ≡ option_map f (find (λ x. test (f x)) xs)
  find-map f [] = refl
  find-map f (x ∷ xs) = go (test (f x)) (find-map f xs)
    where
      go : (b : Bool) → find test (map f xs) ≡ option_map f (find (λ x. test (f x)) xs)
          → cond b (Some (f x)) (find test (map f xs)) ≡ option_map f (cond b (Some x) (find (λ x. test (f x)) xs))
      go true e = refl
      go false e = e

option_map-or : {A B : Type 0} (f : A → B) (o p : Option A)
    → option_map f (option_or o p) ≡ option_or (option_map f o) (option_map f p)
option_map-or f None p = refl
option_map-or f (Some x) p = refl

-- ---- declarations

-- a declared name with its part
abbrev part_in : FeaturesT × DeclaredName → FeaturesT
part_in z = z.0

abbrev name_in : FeaturesT × DeclaredName → DeclaredName
name_in z = z.1

abbrev beside : FeaturesT → DeclaredName → FeaturesT × DeclaredName
beside part y = (part, y)

module _ (n : List ℕ) where
  abbrev pub is_of : DeclaredName → Bool
  is_of y = bytes_eq y.name.name n

  abbrev is_of_in : FeaturesT × DeclaredName → Bool
  is_of_in z = is_of z.1

  one_declaration : (x : DeclT) (ns : List NameAt)
      → option_map (λ y. y.tree) (find is_of (map (λ m. record { name = m; tree = x }) ns))
      ≡ cond (has_name ns n) (Some x) None
  one_declaration x [] = refl
  one_declaration x (m ∷ ns) = go (bytes_eq m.name n) (one_declaration x ns)
    where
      go : (b : Bool)
          → option_map (λ y. y.tree) (find is_of (map (λ m. record { name = m; tree = x }) ns))
          ≡ cond (has_name ns n) (Some x) None
          → option_map (λ y. y.tree)
          (cond b (Some (record { name = m; tree = x })) (find is_of (map (λ m. record { name = m; tree = x }) ns)))
          ≡ cond (b || has_name ns n) (Some x) None
      go true e = refl
      go false e = e

  or_cond : {A : Type 0} (b : Bool) (x : A) (o : Option A) → option_or (cond b (Some x) None) o ≡ cond b (Some x) o
  or_cond true x o = refl
  or_cond false x o = refl

  first_tree : (ds : List DeclT)
      → option_map (λ y. y.tree) (find is_of (flat_map names_of_declaration ds)) ≡ find (λ x. has_name x.names n) ds
  first_tree [] = refl
  first_tree (d ∷ ds) =
      ap (option_map (λ y. y.tree)) (find-append is_of (names_of_declaration d) (flat_map names_of_declaration ds))
      ∙ (option_map-or (λ y. y.tree) (find is_of (names_of_declaration d)) (find is_of
      (flat_map names_of_declaration ds))
      ∙ (ap₂ option_or (one_declaration d d.names) (first_tree ds)
      ∙ or_cond (has_name d.names n) d (find (λ x. has_name x.names n) ds)))

  -- the first declaration of the name is that of the first declared name
  pub declaration_found : (c : ClassT)
      → declaration_of c n ≡ option_map (λ y. y.tree) (find is_of (declared_here c))
  declaration_found c = sym (first_tree (declarations c))

  -- ---- parts

  -- each declared name with its part
  abbrev named_in : FeaturesT → List (FeaturesT × DeclaredName)
  named_in part = map (beside part) (flat_map names_of_declaration part.decls)

  abbrev named_parts : List FeaturesT → List (FeaturesT × DeclaredName)
  named_parts parts = flat_map named_in parts

  map_first : (part : FeaturesT) (ys : List DeclaredName) → map name_in (map (beside part) ys) ≡ ys
  map_first part [] = refl
  map_first part (y ∷ ys) = ap (λ zs. y ∷ zs) (map_first part ys)

  flat_flat : (parts : List FeaturesT)
      → flat_map names_of_declaration (flat_map (λ part. part.decls) parts)
      ≡ flat_map (λ part. flat_map names_of_declaration part.decls) parts
  flat_flat [] = refl
  flat_flat (part ∷ parts) =
      flat_map-append names_of_declaration part.decls (flat_map (λ part. part.decls) parts)
      ∙ ap (λ zs. flat_map names_of_declaration part.decls ++ zs) (flat_flat parts)

  names_in_parts : (parts : List FeaturesT)
      → map name_in (named_parts parts) ≡ flat_map (λ part. flat_map names_of_declaration part.decls) parts
  names_in_parts [] = refl
  names_in_parts (part ∷ parts) =
      map-append name_in (named_in part) (named_parts parts)
      ∙ ap₂ ◌++◌ (map_first part (flat_map names_of_declaration part.decls)) (names_in_parts parts)

  parts_of_names : (part : FeaturesT) (x : DeclT) (ns : List NameAt)
      → map part_in (map (beside part) (map (λ m. record { name = m; tree = x }) ns)) ≡ map (λ m. part) ns
  parts_of_names part x [] = refl
  parts_of_names part x (m ∷ ns) = ap (λ zs. part ∷ zs) (parts_of_names part x ns)

  parts_of_declarations : (part : FeaturesT) (ds : List DeclT)
      → map part_in (map (beside part) (flat_map names_of_declaration ds)) ≡ flat_map (part_of_each part) ds
  parts_of_declarations part [] = refl
  parts_of_declarations part (d ∷ ds) =
      ap (map part_in) (map-append (beside part) (names_of_declaration d) (flat_map names_of_declaration ds))
      ∙ (map-append part_in (map (beside part) (names_of_declaration d))
      (map (beside part) (flat_map names_of_declaration ds))
      ∙ ap₂ ◌++◌ (parts_of_names part d d.names) (parts_of_declarations part ds))

  parts_named : (parts : List FeaturesT) → map part_in (named_parts parts) ≡ parts_of parts
  parts_named [] = refl
  parts_named (part ∷ parts) =
      map-append part_in (named_in part) (named_parts parts)
      ∙ ap₂ ◌++◌ (parts_of_declarations part part.decls) (parts_named parts)

  any_found : (part : FeaturesT) (ds : List DeclT)
      → option_map (λ x. part) (find (λ x. has_name x.names n) ds)
      ≡ cond (list_any (λ x. has_name x.names n) ds) (Some part) None
  any_found part [] = refl
  any_found part (d ∷ ds) = go (has_name d.names n) (any_found part ds)
    where
      go : (b : Bool) → option_map (λ x. part) (find (λ x. has_name x.names n) ds)
          ≡ cond (list_any (λ x. has_name x.names n) ds) (Some part) None
          → option_map (λ x. part) (cond b (Some d) (find (λ x. has_name x.names n) ds))
          ≡ cond (b || list_any (λ x. has_name x.names n) ds) (Some part) None
      go true e = refl
      go false e = e

  in_part : (part : FeaturesT) (ds : List DeclT)
      → option_map part_in (find is_of_in (map (beside part) (flat_map names_of_declaration ds)))
      ≡ cond (list_any (λ x. has_name x.names n) ds) (Some part) None
  in_part part ds =
      ap (option_map part_in) (find-map is_of_in (beside part) (flat_map names_of_declaration ds))
      ∙ (twice (find is_of (flat_map names_of_declaration ds))
      ∙ (same (find is_of (flat_map names_of_declaration ds)) (find (λ x. has_name x.names n) ds) (first_tree ds)
      ∙ any_found part ds))
    where
      twice : (o : Option DeclaredName) → option_map part_in (option_map (beside part) o) ≡ option_map (λ y. part) o
      twice None = refl
      twice (Some y) = refl

      same : (o : Option DeclaredName) (q : Option DeclT) → option_map (λ y. y.tree) o ≡ q
          → option_map (λ y. part) o ≡ option_map (λ x. part) q
      same None None e = refl
      same (Some y) (Some x) e = refl
      same None (Some x) e = absurd (cc)
      same (Some y) None e = absurd (cc)

  first_part : (parts : List FeaturesT)
      → option_map part_in (find is_of_in (named_parts parts))
      ≡ find (λ part. list_any (λ x. has_name x.names n) part.decls) parts
  first_part [] = refl
  first_part (part ∷ parts) =
      ap (option_map part_in) (find-append is_of_in (named_in part) (named_parts parts))
      ∙ (option_map-or part_in (find is_of_in (named_in part)) (find is_of_in (named_parts parts))
      ∙ (ap₂ option_or (in_part part part.decls) (first_part parts)
      ∙ or_cond (list_any (λ x. has_name x.names n) part.decls) part
      (find (λ part. list_any (λ x. has_name x.names n) part.decls) parts)))

  -- ---- by the number of the first declared name

  first_by_parts : (c : ClassT) → first_declared c n ≡ position_from is_of_in 0 (named_parts c.features)
  first_by_parts c =
      ap (position_from is_of 0) (flat_flat c.features ∙ sym (names_in_parts c.features))
      ∙ position_from-map is_of name_in 0 (named_parts c.features)

  pub part_found : (c : ClassT) (k : ℕ) (part : FeaturesT) → first_declared c n ≡ Some k
      → slice_get (parts_of c.features) k ≡ Some part → declaring_part c n ≡ Some part
  part_found c k part e at =
      let f = found_at is_of_in (named_parts c.features) k (sym (first_by_parts c) ∙ e) in
      let same : Some f.item.0 ≡ Some part =
      sym (slice_get-map part_in (named_parts c.features) k
      ∙ ap (option_map part_in) f.at)
      ∙ (ap (λ zs. slice_get zs k) (parts_named c.features) ∙ at) in
      sym (first_part c.features) ∙ (ap (option_map part_in) f.first ∙ same)

  -- a name that is not declared has no part
  pub no_part : (c : ClassT) → first_declared c n ≡ None → declaring_part c n ≡ None
  no_part c e =
      sym (first_part c.features)
      ∙ ap (option_map part_in)
      (none_found is_of_in 0 (named_parts c.features) (sym (first_by_parts c) ∙ e))
