-- What stands at a place of a list after a write or a push.
use Rattle.std.proofs.Common.{◌≡◌, ℕ, zero, suc, ◌+◌, ◌<◌, ◌⊎◌, Bool, true, false, cond, List, [], ◌∷◌, ◌++◌, length, set, take, get_or, Option, Some, None, refl, sym, ap, ap₂, subst, ◌∙◌, inl, inr, ⊎_elim, arith}
use Rattle.std.specs.Prelude.{◌==◌, slice_get, if◌then◌else◌}
use Rattle.std.specs.List.{position_from}
use Rattle.std.specs.Option.{option_map, option_map_or, option_or}
use Rattle.std.proofs.lemmas.Bool.{cases_eq, eq-eqb, ne_eqb}
use Rattle.std.proofs.lemmas.List.{append-nil, map-append, take_more}
use Rattle.std.proofs.lemmas.Option.{same_Some}
use Rattle.eif_base.specs.declared.feat_id.FeatId.{FeatId}
use Rattle.eif_heirs.specs.Numbered.{collected, declared_under, noted_at}
use Rattle.eif_heirs.specs.declared.heir.EntryId.{EntryId}
use Rattle.eif_heirs.specs.declared.heir.NameSources.{NameSources}
use Rattle.eif_rows.specs.Matched.{Match}
use Rattle.eif_rows.proofs.Matches.{Match-push}

module _ {A : Type 0} where
  pub get-set_same : (xs : List A) (i : ℕ) (x : A) → i < length xs → slice_get (set xs i x) i ≡ Some x
  get-set_same [] i x h = absurd (omega arith)
  get-set_same (y ∷ xs) zero x h = refl
  get-set_same (y ∷ xs) (suc i) x h = get-set_same xs i x (omega arith)

  pub get-set_other : (xs : List A) (i k : ℕ) (x : A) → (i ≡ k → ⊥) → slice_get (set xs i x) k ≡ slice_get xs k
  get-set_other [] i k x n = refl
  get-set_other (y ∷ xs) zero zero x n = absurd (n refl)
  get-set_other (y ∷ xs) zero (suc k) x n = refl
  get-set_other (y ∷ xs) (suc i) zero x n = refl
  get-set_other (y ∷ xs) (suc i) (suc k) x n = get-set_other xs i k x (λ e. n (ap suc e))

  -- an item of a list with one more at its end
  pub get-push : (xs : List A) (x : A) (k : ℕ) (y : A) → slice_get (xs ++ x ∷ []) k ≡ Some y
      → (slice_get xs k ≡ Some y) ⊎ ((k ≡ length xs) × (x ≡ y))
  get-push [] x zero y e = inr (refl, same_Some x y e)
  get-push [] x (suc k) y e = absurd (cc)
  get-push (z ∷ xs) x zero y e = inl e
  get-push (z ∷ xs) x (suc k) y e = ⊎_elim (λ (h : slice_get xs k ≡ Some y). inl h)
      (λ (h : (k ≡ length xs) × (x ≡ y)). inr (ap suc h.0, h.1)) (get-push xs x k y e)

-- lists that go together still do with one item more of each
pub Match-more : {A B : Type 0} (R : A → B → Type 0) (xs more : List A) (x : A) (ys : List B) (i : ℕ) (d : B)
    → more ≡ xs ++ x ∷ [] → i < length ys → Match R xs (take i ys) → R x (get_or ys i d)
    → Match R more (take (i + 1) ys)
Match-more R xs more x ys i d e h m r =
    subst (λ zs. Match R zs (take (i + 1) ys)) (sym e)
    (subst (Match R (xs ++ x ∷ [])) (sym (take_more ys i d h)) (Match-push R xs (take i ys) x (get_or ys i d) m r))

-- ---- the first place

pub position_from-push : {A : Type 0} (test : A → Bool) (i : ℕ) (xs : List A) (x : A)
    → position_from test i (xs ++ x ∷ [])
    ≡ (if test x then option_or (position_from test i xs) (Some (i + length xs)) else position_from test i xs)
position_from-push test i [] x = go (test x)
  where
    go : (b : Bool) → cond b (Some i) None ≡ (if b then Some (i + 0) else None)
    go true = ap Some (let e : i ≡ i + 0 = omega arith in e)
    go false = refl
position_from-push test i (y ∷ xs) x = go (test y) (test x) (position_from-push test (i + 1) xs x)
  where
    go : (b d : Bool) → position_from test (i + 1) (xs ++ x ∷ [])
        ≡ (if d then option_or (position_from test (i + 1) xs) (Some
        ((i + 1) + length xs)) else position_from test (i + 1) xs)
        → cond b (Some i) (position_from test (i + 1) (xs ++ x ∷ []))
        ≡ (if d then option_or (cond b (Some i) (position_from test (i + 1) xs)) (Some (i + length (y ∷ xs)))
        else cond b (Some i) (position_from test (i + 1) xs))
    go true true e = refl
    go true false e = refl
    go false true e =
        e ∙ ap (λ n. option_or (position_from test (i + 1) xs) (Some n))
        (let q : (i + 1) + length xs ≡ i + length (y ∷ xs) = omega arith in q)
    go false false e = e

-- one name more is noted
pub noted_more : (places new : List (Option ℕ)) (k : ℕ) (fs : List FeatId) (f : FeatId) (place : ℕ)
    → slice_get places k ≡ Some (position_from (λ f. f.0 == k) 0 fs) → place ≡ length fs
    → slice_get new k ≡ option_map (noted_at k f.0 place) (slice_get places k)
    → slice_get new k ≡ Some (position_from (λ f. f.0 == k) 0 (fs ++ f ∷ []))
noted_more places new k fs f place old long is =
    is
    ∙ (ap (option_map (noted_at k f.0 place)) old
    ∙ ap Some (ap (λ n. if f.0 == k then option_or (position_from (λ f. f.0 == k) 0 fs) (Some n)
    else position_from (λ f. f.0 == k) 0 fs) (let q : place ≡ 0 + length fs = omega arith in q)
    ∙ sym (position_from-push (λ f. f.0 == k) 0 fs f)))

-- ---- one entry more

abbrev items_of : Option NameSources → List EntryId
items_of o = option_map_or (λ s. s.entries.items) o []

pub collected-push : (sources : List NameSources) (i : ℕ) (s t : NameSources) (e : EntryId) (k : ℕ)
    → slice_get sources i ≡ Some s → i < length sources → t.entries.items ≡ s.entries.items ++ e ∷ []
    → collected (set sources i t) k ≡ collected sources k ++ (if i == k then e ∷ [] else [])
collected-push sources i s t e k at within pushed = ⊎_elim
    (λ (same : i ≡ k).
    subst (λ k. collected (set sources i t) k ≡ collected sources k ++ (if i == k then e ∷ [] else [])) same
    (ap items_of (get-set_same sources i t within)
    ∙ (pushed
    ∙ ap₂ (λ o b. items_of o ++ (if b then e ∷ [] else [])) (sym at) (sym (eq-eqb i i refl)))))
    (λ (apart : i ≡ k → ⊥).
    ap items_of (get-set_other sources i k t apart)
    ∙ (sym (append-nil (collected sources k))
    ∙ ap (λ b. collected sources k ++ (if b then e ∷ [] else [])) (sym (ne_eqb i k apart))))
    (cases_eq i k)

pub declared-set : (sources : List NameSources) (i : ℕ) (s t : NameSources) → slice_get sources i ≡ Some s
    → t.declared ≡ s.declared → declared_under (set sources i t) ≡ declared_under sources
declared-set [] i s t at same = refl
declared-set (x ∷ sources) zero s t at same =
    ap (λ o. o ∷ declared_under sources) (same ∙ ap (λ (s : NameSources). s.declared) (sym (same_Some x s at)))
declared-set (x ∷ sources) (suc i) s t at same = ap (λ os. x.declared ∷ os) (declared-set sources i s t at same)

pub declared-more : (sources more : List NameSources) (s : NameSources) (places : List (Option ℕ)) (i : ℕ)
    (d : Option ℕ)
    → more ≡ sources ++ s ∷ [] → i < length places → declared_under sources ≡ take i places
    → s.declared ≡ get_or places i d → declared_under more ≡ take (i + 1) places
declared-more sources more s places i d e h m same =
    ap declared_under e
    ∙ (map-append (λ (s : NameSources). s.declared) sources (s ∷ [])
    ∙ (ap₂ (λ os o. os ++ o ∷ []) m same ∙ sym (take_more places i d h)))

-- sources without entries have none under any number
pub none-more : (sources : List NameSources) (s : NameSources) → s.entries.items ≡ []
    → ((k : ℕ) → collected sources k ≡ []) → (k : ℕ) → collected (sources ++ s ∷ []) k ≡ []
none-more [] s e none zero = e
none-more [] s e none (suc k) = refl
none-more (x ∷ sources) s e none zero = none zero
none-more (x ∷ sources) s e none (suc k) = none-more sources s e (λ k. none (suc k)) k
