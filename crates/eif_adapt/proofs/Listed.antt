-- Names of lists and of features, one more.
use Rattle.std.proofs.Common.{◌≡◌, ℕ, Bool, true, false, List, [], ◌∷◌, ◌++◌, refl, sym, ap, ◌∙◌}
use Rattle.std.specs.Prelude.{◌||◌, ◌&&◌, map}
use Rattle.std.specs.List.{list_any}
use Rattle.std.specs.Str.{bytes_eq}
use Rattle.std.proofs.lemmas.Cmp.{nat_list_eq_equiv}
use Rattle.std.proofs.lemmas.List.{map-append}
use Rattle.eif_base.specs.Numbering.{is_among}
use Rattle.eif_tree.specs.declared.tree.NameAt.{NameAt}
use Rattle.eif_tree.specs.Members.{has_name}
use Rattle.eif_tree.specs.Tree.{ParentT}
use Rattle.eif_classes.specs.Names.{final_name}
use Rattle.eif_feature_rules.specs.ParentFeatures.{ParentFeature, ParentState, has_entry}
use Rattle.eif_adapt.specs.NamedItems.{IsNameSet}

swap : (a b c : Bool) → (a || (b || c)) ≡ (b || (a || c))
swap true true c = refl
swap true false c = refl
swap false b c = refl

list_any-push : {A : Type 0} (p : A → Bool) (xs : List A) (x : A) → list_any p (xs ++ x ∷ []) ≡ (p x || list_any p xs)
list_any-push p [] x = refl
list_any-push p (y ∷ xs) x = ap (λ b. p y || b) (list_any-push p xs x) ∙ swap (p y) (p x) (list_any p xs)

-- the set has one name more
abbrev pub HasMore : List (List ℕ) → List (List ℕ) → List ℕ → Type 0
HasMore old new name = (n : List ℕ) → is_among new n ≡ (bytes_eq n name || is_among old n)

pub has_name-push : (names : List NameAt) (x : NameAt) (n : List ℕ)
    → has_name (names ++ x ∷ []) n ≡ (bytes_eq n x.name || has_name names n)
has_name-push names x n =
    list_any-push (λ x. bytes_eq x.name n) names x
    ∙ ap (λ b. b || has_name names n) (nat_list_eq_equiv.symm x.name n)

pub name_set_more : (old new : List (List ℕ)) (names : List NameAt) (x : NameAt) → HasMore old new x.name
    → IsNameSet old names → IsNameSet new (names ++ x ∷ [])
name_set_more old new names x more is n =
    more n ∙ ap (λ b. bytes_eq n x.name || b) (is n) ∙ sym (has_name-push names x n)

-- the set of what is told of items
pub among_more : {A : Type 0} (name : A → List ℕ) (old new : List (List ℕ)) (xs : List A) (x : A)
    → HasMore old new (name x) → ((n : List ℕ) → is_among old n ≡ is_among (map name xs) n)
    → (n : List ℕ) → is_among new n ≡ is_among (map name (xs ++ x ∷ [])) n
among_more name old new xs x more is n =
    more n ∙ ap (λ b. bytes_eq n (name x) || b) (is n)
    ∙ sym (ap (λ ns. is_among ns n) (map-append name xs (x ∷ []))
    ∙ list_any-push (bytes_eq n) (map name xs) (name x))

and_true : (a b : Bool) → b ≡ true → (a && b) ≡ a
and_true true b e = e
and_true false b e = refl

and_false : (a b : Bool) → b ≡ false → (a && b) ≡ false
and_false true b e = e
and_false false b e = refl

module _ (is_such : ParentState → Bool) (p : ParentT) (fs : List ParentFeature) (f : ParentFeature) where
  has_entry-push : (n : List ℕ)
      → has_entry is_such p (fs ++ f ∷ []) n
      ≡ ((bytes_eq (final_name p f.name) n && is_such f.state) || has_entry is_such p fs n)
  has_entry-push n = list_any-push (λ f. bytes_eq (final_name p f.name) n && is_such f.state) fs f

  abbrev pub IsEntrySet : List (List ℕ) → List ParentFeature → Type 0
  IsEntrySet set fs = (n : List ℕ) → is_among set n ≡ has_entry is_such p fs n

  pub entry_more : (old new : List (List ℕ)) → is_such f.state ≡ true → HasMore old new (final_name p f.name)
      → IsEntrySet old fs → IsEntrySet new (fs ++ f ∷ [])
  entry_more old new such more is n =
      let final = final_name p f.name in
      more n ∙ ap (λ b. bytes_eq n final || b) (is n)
      ∙ ap (λ b. b || has_entry is_such p fs n)
      (nat_list_eq_equiv.symm n final ∙ sym (and_true (bytes_eq final n) (is_such f.state) such))
      ∙ sym (has_entry-push n)

  pub entry_other : (set : List (List ℕ)) → is_such f.state ≡ false → IsEntrySet set fs → IsEntrySet set (fs ++ f ∷ [])
  entry_other set other is n =
      is n
      ∙ ap (λ b. b || has_entry is_such p fs n)
      (sym (and_false (bytes_eq (final_name p f.name) n) (is_such f.state) other))
      ∙ sym (has_entry-push n)
