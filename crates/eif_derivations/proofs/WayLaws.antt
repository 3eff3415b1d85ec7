-- What the ways to an ancestor give it together, and the faults of that.
use Rattle.std.proofs.Common.{◌≡◌, ℕ, Bool, true, false, List, [], ◌∷◌, ◌++◌, cond, Option, Some, None, refl, sym, ap, ap₂, ◌∙◌}
use Rattle.std.specs.Prelude.{◌&&◌, ◌||◌, if◌then◌else◌, is_none, is_some, not}
use Rattle.std.specs.List.{find, list_all, list_any}
use Rattle.std.specs.Option.{option_and_then, option_map, option_map_or, option_to_list}
use Rattle.std.proofs.lemmas.Option.{same_Some}
use Rattle.eif_base.specs.declared.code.Code.TheVariants as code
use Rattle.eif_base.specs.declared.fault.Fault.{Fault}
use Rattle.eif_base.specs.declared.place.Place.{Place}
use Rattle.eif_classes.specs.Ancestry.{Way, are_alike, common, if_small, is_small}
use Rattle.eif_classes.specs.Types.{Actuals}
use Rattle.eif_feature_rules.specs.DerivationRules.{ancestor_faults, are_defined, differing, fault_at_way, is_large}
use Rattle.eif_rules.specs.FaultForms.{fault_at}
use Rattle.eif_system.specs.WrittenTypes.{type_place}
use Rattle.eif_tree.specs.Tree.{ClassT}
use Rattle.eif_type_laws.proofs.Ways.{AllGive, common_gives}

-- a test that no item fails, or that some item passes, by the first such item
all_by_find : {A : Type 0} (p : A → Bool) (xs : List A) → list_all p xs ≡ is_none (find (λ x. not (p x)) xs)
all_by_find p [] = refl
all_by_find p (x ∷ xs) = go (p x) (all_by_find p xs)
  where
    go : (b : Bool) → list_all p xs ≡ is_none (find (λ x. not (p x)) xs)
        → (b && list_all p xs) ≡ is_none (cond (not b) (Some x) (find (λ x. not (p x)) xs))
    go true e = e
    go false e = refl

any_by_find : {A : Type 0} (p : A → Bool) (xs : List A) → list_any p xs ≡ is_some (find p xs)
any_by_find p [] = refl
any_by_find p (x ∷ xs) = go (p x) (any_by_find p xs)
  where
    go : (b : Bool) → list_any p xs ≡ is_some (find p xs)
        → (b || list_any p xs) ≡ is_some (cond b (Some x) (find p xs))
    go true e = refl
    go false e = e

-- ---- the one list

given_is_small : (ws : List Way) (xs : Actuals) → common ws ≡ Some xs → is_small xs ≡ true
given_is_small [] xs e = absurd (cc)
given_is_small (w ∷ ws) xs e = go (list_all (λ v. are_alike w.actuals v.actuals) ws) w.actuals e
  where
    small : (ys : Actuals) (b : Bool) → is_small ys ≡ b → (if b then Some ys else None) ≡ Some xs → is_small xs ≡ true
    small ys true is e = sym (ap is_small (same_Some ys xs e)) ∙ is
    small ys false is e = absurd (cc)

    go : (b : Bool) (o : Option Actuals) → (if b then option_and_then if_small o else None) ≡ Some xs
        → is_small xs ≡ true
    go true (Some ys) e = small ys (is_small ys) refl e
    go true None e = absurd (cc)
    go false o e = absurd (cc)

all_defined : (xs : Actuals) (ws : List Way) → AllGive xs ws → are_defined ws ≡ true
all_defined xs [] h = refl
all_defined xs (w ∷ ws) h = ap₂ ◌&&◌ (ap is_some h.0) (all_defined xs ws h.1)

none_large : (xs : Actuals) → is_small xs ≡ true → (ws : List Way) → AllGive xs ws → find is_large ws ≡ None
none_large xs small [] h = refl
none_large xs small (w ∷ ws) h =
    ap₂ (λ b r. cond b (Some w) r)
    (ap (λ o. option_map_or (λ xs. not (is_small xs)) o false) h.0 ∙ ap not small)
    (none_large xs small ws h.1)

no_common : (ws : List Way) → ((xs : Actuals) → common ws ≡ Some xs → ⊥) → None ≡ common ws
no_common ws none = go (common ws) refl
  where
    go : (o : Option Actuals) → common ws ≡ o → None ≡ o
    go None e = refl
    go (Some xs) e = absurd (none xs e)

-- none where a way gives no list
pub undefined_common : (ws : List Way) → are_defined ws ≡ false → None ≡ common ws
undefined_common ws e = no_common ws (λ xs is.
    let z : true ≡ false = sym (all_defined xs ws (common_gives ws xs is)) ∙ e in cc)

-- the place of a clause's parent type
abbrev pub place_of : Way → Place
place_of w = type_place w.clause.parent

found_at : (o : Option Way) (place : Place) → Some place ≡ option_map place_of o
    → (w : Way) × (o ≡ Some w) × (place_of w ≡ place)
found_at None place e = absurd (cc)
found_at (Some w) place e = (w, refl, sym (same_Some place (place_of w) e))

-- none where one is too large
pub large_common : (ws : List Way) (place : Place) → Some place ≡ option_map place_of (find is_large ws)
    → None ≡ common ws
large_common ws place e = no_common ws (λ xs is.
    let found = found_at (find is_large ws) place e in
    let none = none_large xs (given_is_small ws xs is) ws (common_gives ws xs is) in
    let z : None ≡ Some found.0 = sym none ∙ found.1 in
    cc)

-- of ways the first of which gives the list xs
module _ (all : List Way) (w : Way) (ws : List Way) (whole : all ≡ w ∷ ws) (xs : Actuals)
    (is : w.actuals ≡ Some xs) where
  -- the first of the others that does not give it
  abbrev pub differing_from : Option Way
  differing_from = find (λ v. not (are_alike (Some xs) v.actuals)) ws

  pub differing_is : differing all ≡ differing_from
  differing_is = ap differing whole ∙ ap (λ o. find (λ v. not (are_alike o v.actuals)) ws) is

  common_by : (o : Option Way) → differing_from ≡ o → common all ≡ (if is_none o then if_small xs else None)
  common_by o e =
      ap common whole
      ∙ (ap (λ p. if list_all (λ v. are_alike p v.actuals) ws then option_and_then if_small p else None) is
      ∙ ap (λ b. if b then if_small xs else None) (all_by_find (λ v. are_alike (Some xs) v.actuals) ws ∙ ap is_none e))

  -- there is none where one differs from the first
  pub differing_common : (place : Place) → Some place ≡ option_map place_of differing_from → None ≡ common all
  differing_common place e = let found = found_at differing_from place e in sym (common_by (Some found.0) found.1)

  -- and the first where none differs from it and none is too large
  pub given_common : find is_large all ≡ None → None ≡ option_map place_of differing_from → Some xs ≡ common all
  given_common small none =
      sym (common_by None (no_way differing_from none) ∙ fits (is_small xs) refl)
    where
      no_way : (o : Option Way) → None ≡ option_map place_of o → o ≡ None
      no_way None e = refl
      no_way (Some v) e = absurd (cc)

      fits : (b : Bool) → is_small xs ≡ b → (if b then Some xs else None) ≡ Some xs
      fits true e = refl
      fits false e =
          let large : is_large w ≡ true = ap (λ o. option_map_or (λ xs. not (is_small xs)) o false) is ∙ ap not e in
          let z : Some w ≡ None =
          sym (ap (λ b. cond b (Some w) (find is_large ws)) large) ∙ (sym (ap (find is_large) whole) ∙ small) in
          absurd (cc)

-- ---- the faults

module _ (c : ClassT) (name : List ℕ) where
  abbrev too_large : Way → Fault
  too_large = fault_at_way c code.Xlim 6 name

  abbrev differs : Way → Fault
  differs = fault_at_way c code.Xanc 1 name

  -- of ways that all give a list, by the first that gives too large a one
  faults_by : (ws : List Way) → are_defined ws ≡ true → (o : Option Way) → find is_large ws ≡ o
      → ancestor_faults c name ws
      ≡ option_to_list (option_map too_large o)
      ++ (if not (is_some o) then option_to_list (option_map differs (differing ws)) else [])
  faults_by ws defined o e =
      ap₂ (λ b (p : Option Way). (if b then option_to_list (option_map too_large p) else [])
      ++ (if b && not (list_any is_large ws) then option_to_list (option_map differs (differing ws)) else [])) defined e
      ∙ ap (λ b. option_to_list (option_map too_large o)
      ++ (if not b then option_to_list (option_map differs (differing ws)) else []))
      (any_by_find is_large ws ∙ ap is_some e)

  pub large_faults : (ws : List Way) (place : Place) → are_defined ws ≡ true
      → Some place ≡ option_map place_of (find is_large ws)
      → fault_at c code.Xlim 6 place name ∷ [] ≡ ancestor_faults c name ws
  large_faults ws place defined e =
      let found = found_at (find is_large ws) place e in
      ap (λ at. fault_at c code.Xlim 6 at name ∷ []) (sym found.2) ∙ sym (faults_by ws defined (Some found.0) found.1)

  pub differing_faults : (ws : List Way) (o : Option Way) (place : Place) → are_defined ws ≡ true
      → find is_large ws ≡ None → differing ws ≡ o → Some place ≡ option_map place_of o
      → fault_at c code.Xanc 1 place name ∷ [] ≡ ancestor_faults c name ws
  differing_faults ws o place defined small first e =
      let found = found_at o place e in
      ap (λ at. fault_at c code.Xanc 1 at name ∷ []) (sym found.2)
      ∙ sym (faults_by ws defined None small ∙ ap (λ o. option_to_list (option_map differs o)) (first ∙ found.1))
