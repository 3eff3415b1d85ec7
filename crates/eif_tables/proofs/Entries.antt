-- The entries of a class by their places.
use Rattle.std.proofs.Common.{◌≡◌, ℕ, ◌+◌, ◌<◌, List, [], ◌∷◌, ◌++◌, get_or, length, map, take, Some, refl, sym, ap}
use Rattle.std.proofs.Common.{ap₂, subst, ◌∙◌, arith}
use Rattle.std.specs.Prelude.{slice_get}
use Rattle.std.specs.Cmp.{nat_cmp_is}
use Rattle.std.specs.List.Sorted.{IsStrictlyIncreasing, IsStrictlySortedBy}
use Rattle.std.specs.declared.cmp.Ordering.TheVariants.{Less}
use Rattle.std.proofs.lemmas.Cmp.{nat_list_cmp_total, ranked}
use Rattle.std.proofs.lemmas.List.{map-append, take_more}
use Rattle.std.proofs.lemmas.Option.{slice_get-get_or}
use Rattle.eif_base.specs.Numbering.{IsNumbering}
use Rattle.eif_classes.specs.Names.{name_cmp, name_set}
use Rattle.eif_rows.specs.Matched.{Match}
use Rattle.eif_rows.proofs.Matches.{Match-at, Match-at_second, Match-from_map, Match-push}
use Rattle.eif_rows.proofs.NameSets.{rising-name_set}
use Rattle.eif_rows.proofs.RisingLists.{cmp-places, one_place}
use Rattle.eif_tables.specs.Numbered.{AreEntries, NameEntries}
use Rattle.eif_tables.specs.declared.row_entry.RowEntry.{RowEntry}

-- rising names are numbered by their places
pub numbered_once : (ns : List (List ℕ)) → IsStrictlySortedBy name_cmp ns → IsNumbering ns
numbered_once ns up i j n e f = one_place nat_list_cmp_total ns up i j n e f

pub name_set-numbered : (ns : List (List ℕ)) → IsNumbering (name_set ns)
name_set-numbered ns = numbered_once (name_set ns) (rising-name_set ns)

-- what goes with the keys of items
Match-keys : {A B C : Type 0} (R : C → B → Type 0) (key : A → C) (xs : List A) (ys : List B)
    → Match (λ x y. R (key x) y) xs ys → Match R (map key xs) ys
Match-keys R key [] [] h = tt
Match-keys R key [] (y ∷ ys) h = absurd h
Match-keys R key (x ∷ xs) [] h = absurd h
Match-keys R key (x ∷ xs) (y ∷ ys) h = (h.0, Match-keys R key xs ys h.1)

-- the same is made of both lists with one item more
pub map_more : {A B C : Type 0} (f : A → C) (g : B → C) (xs more : List A) (x : A) (ys : List B) (i : ℕ) (d : B)
    → more ≡ xs ++ x ∷ [] → i < length ys → map f xs ≡ map g (take i ys) → f x ≡ g (get_or ys i d)
    → map f more ≡ map g (take (i + 1) ys)
map_more f g xs more x ys i d e within same one =
    ap (map f) e
    ∙ (map-append f xs (x ∷ [])
    ∙ (ap₂ ◌++◌ same (ap (λ z. z ∷ []) one)
    ∙ sym (ap (map g) (take_more ys i d within) ∙ map-append g (take i ys) (get_or ys i d ∷ []))))

-- and lists that go together still do
pub Match-more : {A B : Type 0} (R : A → B → Type 0) (xs more : List A) (x : A) (ys zs : List B) (y : B)
    → more ≡ xs ++ x ∷ [] → zs ≡ ys ++ y ∷ [] → Match R xs ys → R x y → Match R more zs
Match-more R xs more x ys zs y e f match r =
    subst (λ more. Match R more zs) (sym e)
    (subst (Match R (xs ++ x ∷ [])) (sym f) (Match-push R xs ys x y match r))

module _ (numbering names : List (List ℕ)) where
  abbrev HasNumber : ℕ → List ℕ → Type 0
  HasNumber i n = slice_get numbering i ≡ Some n

  -- numbers of rising names rise
  rising_numbers : (ids : List ℕ) → IsStrictlySortedBy name_cmp numbering → IsStrictlySortedBy name_cmp names
      → Match HasNumber ids names → IsStrictlyIncreasing ids
  rising_numbers ids up rise numbers k lt =
      let one = Match-at HasNumber ids names numbers k _ (slice_get-get_or ids k 0 (omega arith)) in
      let two = Match-at HasNumber ids names numbers (k + 1) _ (slice_get-get_or ids (k + 1) 0 lt) in
      let after : k < k + 1 = omega arith in
      ranked _ _ Less (nat_cmp_is k (k + 1) Less after
      ∙ (cmp-places nat_list_cmp_total names rise k (k + 1) one.0 two.0 one.1 two.1
      ∙ sym (cmp-places nat_list_cmp_total numbering up _ _ one.0 two.0 one.2 two.2)))

  module _ (entries : List RowEntry) where
    numbers_match : map (λ e. slice_get numbering e.name_id.0) entries ≡ map Some names
        → Match (λ e n. HasNumber e.name_id.0 n) entries names
    numbers_match h = Match-from_map (λ (e : RowEntry). slice_get numbering e.name_id.0) Some entries names h

    -- of sets of names they rise
    pub entries_rise : IsStrictlySortedBy name_cmp numbering → IsStrictlySortedBy name_cmp names
        → NameEntries numbering names entries → AreEntries numbering names entries
    entries_rise up rise is = record {
      rising = rising_numbers (map (λ e. e.name_id.0) entries) up rise
          (Match-keys HasNumber (λ (e : RowEntry). e.name_id.0) entries names (numbers_match is.name_ids));
      name_ids = is.name_ids;
      feats = is.feats;
    }

    module _ (are : AreEntries numbering names entries) where
      -- the entry at the place of a name
      pub entry_of : (i : ℕ) (n : List ℕ) → slice_get names i ≡ Some n
          → (e : RowEntry) × (slice_get entries i ≡ Some e) × (slice_get numbering e.name_id.0 ≡ Some n)
      entry_of i n at =
          Match-at_second (λ e n. HasNumber e.name_id.0 n) entries names (numbers_match are.name_ids) i n at

      -- an entry's number in the class is that of the name with its number among all names
      pub same_name : (i : ℕ) (e : RowEntry) → slice_get entries i ≡ Some e
          → slice_get names e.feat.0 ≡ slice_get numbering e.name_id.0
      same_name i e at =
          let one = Match-at (λ e n. HasNumber e.name_id.0 n) entries names (numbers_match are.name_ids) i e at in
          let two = Match-at (λ (e : RowEntry) n. slice_get names e.feat.0 ≡ Some n) entries names
          (Match-from_map (λ (e : RowEntry). slice_get names e.feat.0) Some entries names are.feats) i e at in
          two.2 ∙ (sym two.1 ∙ (one.1 ∙ sym one.2))
