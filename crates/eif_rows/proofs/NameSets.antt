-- Sets of names and of numbers as rising lists, and names by their places in such a set.
use Rattle.std.proofs.Common.{◌≡◌, ℕ, ◌<◌, Bool, true, List, [], ◌∷◌, map, Some, refl, sym, ap, ap₂, ◌∙◌, arith}
use Rattle.std.specs.Prelude.{◌||◌, ◌==◌, slice_get}
use Rattle.std.specs.List.{list_any}
use Rattle.std.specs.List.Sorted.{IsStrictlySortedBy}
use Rattle.std.specs.Ordering.{eq_by_cmp, is_eq, nat_cmp}
use Rattle.std.specs.Str.{bytes_eq}
use Rattle.std.specs.declared.cmp.Ordering.{Ordering}
use Rattle.std.specs.declared.cmp.Ordering.TheVariants.{Less, Equal, Greater}
use Rattle.std.proofs.lemmas.Bool.Decides.{nat_tests}
use Rattle.std.proofs.lemmas.Cmp.{nat_cmp_total, nat_eq_equiv, nat_list_cmp_total, ranked}
use Rattle.std.proofs.lemmas.Map.Text.{is_eq-slice_cmp}
use Rattle.eif_base.specs.Numbering.{is_among}
use Rattle.eif_base.specs.declared.class_id.ClassId.{ClassId}
use Rattle.eif_base.specs.declared.feat_id.FeatId.{FeatId}
use Rattle.eif_classes.specs.Names.{name_cmp, name_set}
use Rattle.eif_classes.specs.RisingLists.{in_order}
use Rattle.eif_rows.specs.Numbers.{class_numbers, feature_numbers, names_of}
use Rattle.eif_rows.proofs.Matches.{Match-from_map, map-from_Match}
use Rattle.eif_rows.proofs.RisingLists.{cmp-places, has_from_place, list_any-in_order, name_order, number_order, Match-in_order, place_from_has, rising-in_order, same_rising}
use Rattle.eif_system.specs.Graph.{is_member}

-- tests that agree find the same
any_agrees : {A : Type 0} (p q : A → Bool) → ((x : A) → p x ≡ q x) → (xs : List A) → list_any p xs ≡ list_any q xs
any_agrees p q e [] = refl
any_agrees p q e (x ∷ xs) = ap₂ ◌||◌ (e x) (any_agrees p q e xs)

-- ---- names

pub same_test : (n m : List ℕ) → eq_by_cmp name_cmp n m ≡ bytes_eq n m
same_test n m = is_eq-slice_cmp n m

has_name : (ns : List (List ℕ)) (n : List ℕ) → list_any (eq_by_cmp name_cmp n) ns ≡ is_among ns n
has_name ns n = any_agrees (eq_by_cmp name_cmp n) (bytes_eq n) (same_test n) ns

pub rising-name_set : (ns : List (List ℕ)) → IsStrictlySortedBy name_cmp (name_set ns)
rising-name_set ns = rising-in_order nat_list_cmp_total ns

-- a set has the names of which it is made, and no others
pub is_among-name_set : (ns : List (List ℕ)) (n : List ℕ) → is_among (name_set ns) n ≡ is_among ns n
is_among-name_set ns n = list_any-in_order name_order (bytes_eq n) ns

pub is_among-from_place : (ns : List (List ℕ)) (i : ℕ) (n : List ℕ) → slice_get ns i ≡ Some n → is_among ns n ≡ true
is_among-from_place ns i n e = sym (has_name ns n) ∙ has_from_place name_order ns i n e

pub place-from_is_among : (ns : List (List ℕ)) (n : List ℕ) → is_among ns n ≡ true → (i : ℕ) × (slice_get ns i ≡ Some n)
place-from_is_among ns n e = place_from_has name_order ns n (has_name ns n ∙ e)

-- rising names with the same members are the same
pub same_names : (ns ms : List (List ℕ)) → IsStrictlySortedBy name_cmp ns → IsStrictlySortedBy name_cmp ms
    → ((n : List ℕ) → is_among ns n ≡ is_among ms n) → ns ≡ ms
same_names ns ms h k same =
    same_rising name_order ns ms h k (λ n. has_name ns n ∙ (same n ∙ sym (has_name ms n)))

-- ---- numbers

has_number : (xs : List ℕ) (x : ℕ) → list_any (λ y. y == x) xs ≡ is_member x xs
has_number [] x = refl
has_number (y ∷ ys) x = ap (λ b. (y == x) || b) (has_number ys x)

pub rising-numbers : (xs : List ℕ) → IsStrictlySortedBy nat_cmp (in_order nat_cmp xs)
rising-numbers xs = rising-in_order nat_cmp_total xs

-- numbers put in order have the same members
pub is_member-in_order : (xs : List ℕ) (x : ℕ) → is_member x (in_order nat_cmp xs) ≡ is_member x xs
is_member-in_order xs x =
    sym (has_number (in_order nat_cmp xs) x) ∙ (list_any-in_order number_order (λ y. y == x) xs ∙ has_number xs x)

pub same_number_test : (x y : ℕ) → eq_by_cmp nat_cmp x y ≡ (x == y)
same_number_test x y = go (nat_cmp x y) refl
  where
    go : (r : Ordering) → r ≡ nat_cmp x y → is_eq r ≡ (x == y)
    go Less e = let h : x < y = ranked x y Less e in sym (grind (arith, nat_tests))
    go Equal e = let h : x ≡ y = ranked x y Equal e in sym (grind (arith, nat_tests))
    go Greater e = let h : y < x = ranked x y Greater e in sym (grind (arith, nat_tests))

tied_number : (xs : List ℕ) (x : ℕ) → list_any (eq_by_cmp nat_cmp x) xs ≡ is_member x xs
tied_number xs x =
    any_agrees (eq_by_cmp nat_cmp x) (λ y. y == x) (λ y. same_number_test x y ∙ nat_eq_equiv.symm x y) xs
    ∙ has_number xs x

-- rising numbers with the same members are the same
pub same_numbers : (xs ys : List ℕ) → IsStrictlySortedBy nat_cmp xs → IsStrictlySortedBy nat_cmp ys
    → ((x : ℕ) → is_member x xs ≡ is_member x ys) → xs ≡ ys
same_numbers xs ys h k same =
    same_rising number_order xs ys h k (λ x. tied_number xs x ∙ (same x ∙ sym (tied_number ys x)))

pub is_member-from_place : (xs : List ℕ) (i x : ℕ) → slice_get xs i ≡ Some x → is_member x xs ≡ true
is_member-from_place xs i x e = sym (tied_number xs x) ∙ has_from_place number_order xs i x e

pub place-from_is_member : (xs : List ℕ) (x : ℕ) → is_member x xs ≡ true → (i : ℕ) × (slice_get xs i ≡ Some x)
place-from_is_member xs x e = place_from_has number_order xs x (tied_number xs x ∙ e)

-- ---- names by numbers

-- where numbers of names in a rising list are put in order, their names are the set of the names
pub names-in_order : (ns : List (List ℕ)) → IsStrictlySortedBy name_cmp ns → (numbers : List ℕ) (ms : List (List ℕ))
    → map (slice_get ns) numbers ≡ map Some ms
    → map (slice_get ns) (in_order nat_cmp numbers) ≡ map Some (name_set ms)
names-in_order ns up numbers ms named =
    map-from_Match (slice_get ns) Some (in_order nat_cmp numbers) (name_set ms)
    (Match-in_order (λ i m. slice_get ns i ≡ Some m) (λ i j m n e f. cmp-places nat_list_cmp_total ns up i j m n e f)
    numbers ms (Match-from_map (slice_get ns) Some numbers ms named))

names_of-numbers : (ns : List (List ℕ)) (fs : List FeatId) → names_of ns fs ≡ map (slice_get ns) (feature_numbers fs)
names_of-numbers ns [] = refl
names_of-numbers ns (f ∷ fs) = ap (λ ms. slice_get ns f.0 ∷ ms) (names_of-numbers ns fs)

-- the same of features
pub names_of-in_order : (ns : List (List ℕ)) → IsStrictlySortedBy name_cmp ns → (ids ordered : List FeatId)
    (ms : List (List ℕ)) → names_of ns ids ≡ map Some ms
    → feature_numbers ordered ≡ in_order nat_cmp (feature_numbers ids) → names_of ns ordered ≡ map Some (name_set ms)
names_of-in_order ns up ids ordered ms named is =
    names_of-numbers ns ordered
    ∙ (ap (map (slice_get ns)) is
    ∙ names-in_order ns up (feature_numbers ids) ms (sym (names_of-numbers ns ids) ∙ named))

-- ---- features and classes by their numbers

pub features-from_numbers : (fs gs : List FeatId) → feature_numbers fs ≡ feature_numbers gs → fs ≡ gs
features-from_numbers [] [] e = refl
features-from_numbers [] (g ∷ gs) e = absurd (cc)
features-from_numbers (f ∷ fs) [] e = absurd (cc)
features-from_numbers (f ∷ fs) (g ∷ gs) e =
    let first : f.0 ≡ g.0 = cc in
    let rest : feature_numbers fs ≡ feature_numbers gs = cc in
    ap₂ ◌∷◌ (λ i. record { 0 = first i }) (features-from_numbers fs gs rest)

pub classes-from_numbers : (js ks : List ClassId) → class_numbers js ≡ class_numbers ks → js ≡ ks
classes-from_numbers [] [] e = refl
classes-from_numbers [] (k ∷ ks) e = absurd (cc)
classes-from_numbers (j ∷ js) [] e = absurd (cc)
classes-from_numbers (j ∷ js) (k ∷ ks) e =
    let first : j.0 ≡ k.0 = cc in
    let rest : class_numbers js ≡ class_numbers ks = cc in
    ap₂ ◌∷◌ (λ i. record { 0 = first i }) (classes-from_numbers js ks rest)
