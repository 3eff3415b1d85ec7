-- The leading one of several entries, and what is joined of their origins.
use Rattle.std.proofs.Common.{◌≡◌, Bool, true, false, List, [], ◌∷◌, map, Option, Some, None, refl, sym, ap, subst, ◌∙◌}
use Rattle.std.proofs.lemmas.Option.{same_Some}
use Rattle.std.specs.List.{filter, list_all}
use Rattle.std.specs.Option.{option_map, option_or}
use Rattle.std.specs.Prelude.{cond, find, slice_get, if◌then◌else◌}
use Rattle.eif_classes.specs.Entries.{Declaration, Origin, clashing, Entry, same_origin, lasts, joined, leading}
use Rattle.eif_lineage_laws.proofs.EachItem.{AllOf}
use Rattle.eif_binding_laws.specs.Signatures.{IsVersion}
use Rattle.eif_binding_laws.proofs.Searches.{found_has}

module _ {A : Type 0} (entry_of : A → Entry) where
  find_map : (xs : List A) → option_map entry_of (find (λ x. lasts (entry_of x)) xs) ≡ find lasts (map entry_of xs)
  find_map [] = refl
  find_map (x ∷ xs) = go (lasts (entry_of x)) (find_map xs)
    where
      go : (b : Bool) → option_map entry_of (find (λ x. lasts (entry_of x)) xs) ≡ find lasts (map entry_of xs) →
          option_map entry_of (cond b (Some x) (find (λ x. lasts (entry_of x)) xs))
          ≡ cond b (Some (entry_of x)) (find lasts (map entry_of xs))
      go true e = refl
      go false e = e

  first_map : (xs : List A) → option_map entry_of (slice_get xs 0) ≡ slice_get (map entry_of xs) 0
  first_map [] = refl
  first_map (x ∷ xs) = refl

  or_map : (a b : Option A) →
      option_map entry_of (option_or a b) ≡ option_or (option_map entry_of a) (option_map entry_of b)
  or_map None b = refl
  or_map (Some x) b = refl

  -- the entry of the leading item leads the entries
  pub leading_map : (xs : List A) → option_map entry_of (leading entry_of xs) ≡ leading (λ e. e) (map entry_of xs)
  leading_map xs =
      or_map (find (λ x. lasts (entry_of x)) xs) (slice_get xs 0)
      ∙ (ap (λ o. option_or o (option_map entry_of (slice_get xs 0))) (find_map xs)
      ∙ ap (option_or (find lasts (map entry_of xs))) (first_map xs))

  -- the leading item has what all have
  pub leading_has : (P : A → Type 0) (xs : List A) (x : A) → AllOf P xs → leading entry_of xs ≡ Some x → P x
  leading_has P xs x all h = go (find (λ x. lasts (entry_of x)) xs) refl h
    where
      first : (xs : List A) → AllOf P xs → slice_get xs 0 ≡ Some x → P x
      first [] all e = cc
      first (y ∷ ys) all e = subst P (same_Some y x e) all.0

      go : (o : Option A) → find (λ x. lasts (entry_of x)) xs ≡ o → option_or o (slice_get xs 0) ≡ Some x → P x
      go None e h = first xs all h
      go (Some y) e h = found_has P (λ x. lasts (entry_of x)) xs x all (e ∙ h)

  -- and there is one, where there are any
  pub leading_some : (xs : List A) (x : A) → slice_get xs 0 ≡ Some x → (y : A) × (leading entry_of xs ≡ Some y)
  leading_some xs x h = go (find (λ x. lasts (entry_of x)) xs)
    where
      go : (o : Option A) → (y : A) × (option_or o (slice_get xs 0) ≡ Some y)
      go None = (x, h)
      go (Some y) = (y, refl)

-- ---- entries

-- the origins of the entries that last
abbrev pub lasting : List Entry → List Origin
lasting es = map (λ e. e.feature.origin) (filter lasts es)

pub none_lasting : (es : List Entry) → find lasts es ≡ None → lasting es ≡ []
none_lasting [] h = refl
none_lasting (e ∷ es) h = go (lasts e) h (none_lasting es)
  where
    go : (b : Bool) → cond b (Some e) (find lasts es) ≡ None → (find lasts es ≡ None → lasting es ≡ []) →
        map (λ e. e.feature.origin) (cond b (e ∷ filter lasts es) (filter lasts es)) ≡ []
    go true h later = cc
    go false h later = later h

pub first_lasting : (es : List Entry) (x : Entry) → find lasts es ≡ Some x →
    (os : List Origin) × (lasting es ≡ x.feature.origin ∷ os)
first_lasting [] x h = cc
first_lasting (e ∷ es) x h = go (lasts e) h (first_lasting es x)
  where
    go : (b : Bool) → cond b (Some e) (find lasts es) ≡ Some x →
        (find lasts es ≡ Some x → (os : List Origin) × (lasting es ≡ x.feature.origin ∷ os)) →
        (os : List Origin)
        × (map (λ e. e.feature.origin) (cond b (e ∷ filter lasts es) (filter lasts es)) ≡ x.feature.origin ∷ os)
    go true h later = (lasting es, ap (λ (e : Entry). e.feature.origin ∷ lasting es) (same_Some e x h))
    go false h later = later h

-- what is joined is the origin of the leading entry, where the origins don't clash
pub joined_version : (es : List Entry) (e : Entry) (x : Declaration) → leading (λ e. e) es ≡ Some e →
    IsVersion e.feature.origin x → (joined (lasting es) ≡ clashing → ⊥) → IsVersion (joined (lasting es)) x
joined_version es e x h is apart = go (find lasts es) refl h
  where
    one : (os : List Origin) (b : Bool) → list_all (same_origin e.feature.origin) os ≡ b →
        ((if b then e.feature.origin else clashing) ≡ clashing → ⊥) →
        IsVersion (if b then e.feature.origin else clashing) x
    one os true t distinct = is
    one os false t distinct = absurd (distinct refl)

    go : (o : Option Entry) → find lasts es ≡ o → option_or o (slice_get es 0) ≡ Some e →
        IsVersion (joined (lasting es)) x
    go None f h = subst (λ os. IsVersion (joined os) x) (sym (none_lasting es f)) tt
    go (Some y) f h =
        let l = first_lasting es e (f ∙ h) in
        subst (λ os. IsVersion (joined os) x) (sym l.1)
        (one l.0 (list_all (same_origin e.feature.origin) l.0) refl
        (subst (λ os. joined os ≡ clashing → ⊥) l.1 apart))
