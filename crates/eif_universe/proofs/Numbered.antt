-- A class more has a number and a mark.
use Rattle.std.proofs.Common.{◌≡◌, ℕ, zero, suc, ◌+◌, ◌<◌, Bool, true, false, cond, ltb, List, [], ◌∷◌, ◌++◌, length}
use Rattle.std.proofs.Common.{take, Option, Some, None, refl, sym, ap, ◌∙◌, Vec, Global, arith}
use Rattle.std.specs.Prelude.{slice_get, if◌then◌else◌}
use Rattle.std.specs.Map.{lookup}
use Rattle.std.specs.Option.{option_map}
use Rattle.std.specs.Str.{bytes_eq}
use Rattle.std.proofs.lemmas.Cmp.{nat_list_eq_equiv}
use Rattle.std.proofs.lemmas.List.{length_push}
use Rattle.std.proofs.lemmas.Option.{slice_get_within}
use borrow.Author.Tests.{ltb-true, ltb-false}
use Rattle.indexmap.specs.IndexMap.{insert_entry}
use Rattle.eif_tree.specs.Tree.{ClassT}
use Rattle.eif_system.specs.Universe.{class_number}
use Rattle.eif_universe.specs.ClassNumbering.{or_number, is_taken, MarksRepeats}

abbrev pub Text : Type 0
Text = Vec ℕ Global

abbrev pub number : List (Text × ℕ) → List ℕ → Option ℕ
number es n = lookup (λ (k : Text). bytes_eq n k.items) es

abbrev with_entry : List (Text × ℕ) → Text → ℕ → List (Text × ℕ)
with_entry es k v = insert_entry (λ (x : Text) (y : Text). bytes_eq x.items y.items) es k v

-- an entry more, of a name that had none
module _ (k : Text) (v : ℕ) (name : List ℕ) (is : k.items ≡ name) (n : List ℕ) where
  -- of this name there is one entry more
  abbrev pub IsAdded : List (Text × ℕ) → Type 0
  IsAdded es = number (with_entry es k v) n ≡ or_number (number es n) name v n

  other_key : (p : Text × ℕ) (es : List (Text × ℕ)) (b : Bool) → IsAdded es
      → cond b (Some p.1) (number (with_entry es k v) n) ≡ or_number (cond b (Some p.1) (number es n)) name v n
  other_key p es true h = refl
  other_key p es false h = h

  behind_entry : (p : Text × ℕ) (es : List (Text × ℕ)) (b : Bool) → bytes_eq name p.0.items ≡ b
      → cond b (Some p.1) (number es name) ≡ None → (number es name ≡ None → IsAdded es) → IsAdded (p ∷ es)
  behind_entry p es true t absent h = cc
  behind_entry p es false t absent h =
      let apart : bytes_eq k.items p.0.items ≡ false = ap (λ x. bytes_eq x p.0.items) is ∙ t in
      ap (λ b. number (if b then (p.0, v) ∷ es else p ∷ with_entry es k v) n) apart
      ∙ other_key p es (bytes_eq n p.0.items) (h absent)

  pub inserted : (es : List (Text × ℕ)) → number es name ≡ None → IsAdded es
  inserted [] absent = ap (λ x. cond (bytes_eq n x) (Some v) None) is
  inserted (p ∷ es) absent = behind_entry p es (bytes_eq name p.0.items) refl absent (λ a. inserted es a)

-- a class more
module _ (c : ClassT) (n : List ℕ) where
  later : (b : Bool) (i : ℕ) → option_map suc (if b then Some i else None) ≡ (if b then Some (suc i) else None)
  later true i = refl
  later false i = refl

  one_later : (o : Option ℕ) (i : ℕ)
      → option_map suc (or_number o c.name i n) ≡ or_number (option_map suc o) c.name (suc i) n
  one_later (Some k) i = refl
  one_later None i = later (bytes_eq n c.name) i

  behind_class : (b : Bool) (i : ℕ) (more o : Option ℕ) → more ≡ or_number o c.name i n
      → (if b then Some 0 else option_map suc more)
      ≡ or_number (if b then Some 0 else option_map suc o) c.name (suc i) n
  behind_class true i more o h = refl
  behind_class false i more o h = ap (option_map suc) h ∙ one_later o i

  pub number_more : (u : List ClassT) (i : ℕ) → slice_get u i ≡ Some c
      → class_number (take (suc i) u) n ≡ or_number (class_number (take i u) n) c.name i n
  number_more [] i e = cc
  number_more (x ∷ u) zero e =
      let q : x ≡ c = cc in
      let turned = nat_list_eq_equiv.symm x.name n ∙ ap (λ (c : ClassT). bytes_eq n c.name) q in
      ap (λ b. if b then Some 0 else None) turned
  number_more (x ∷ u) (suc i) e =
      let before = class_number (take i u) n in
      behind_class (bytes_eq x.name n) i (class_number (take (suc i) u) n) before (number_more u i e)

get_left : (xs ys : List Bool) (i : ℕ) (x : Bool) → slice_get xs i ≡ Some x → slice_get (xs ++ ys) i ≡ Some x
get_left [] ys i x e = cc
get_left (z ∷ xs) ys zero x e = e
get_left (z ∷ xs) ys (suc i) x e = get_left xs ys i x e

get_last : (xs : List Bool) (x : Bool) → slice_get (xs ++ x ∷ []) (length xs) ≡ Some x
get_last [] x = refl
get_last (y ∷ xs) x = get_last xs x

-- the first i classes have their marks
pub record Marked (u : List ClassT) (i : ℕ) (marks : List Bool) : Type 0 where
  pub long : length marks ≡ i
  pub each : (d : ℕ) (c : ClassT) → d < i → slice_get u d ≡ Some c → slice_get marks d ≡ Some (is_taken u d c.name)

module _ (u : List ClassT) (i : ℕ) (marks : List Bool) where
  pub marks_all : length u ≡ i → Marked u i marks → MarksRepeats u marks
  marks_all h m = record {
    long = omega arith;
    each = λ d c e. m.each d c (omega (arith, slice_get_within u d c e)) e;
  }

  module _ (c : ClassT) (at : slice_get u i ≡ Some c) (mark : Bool) (is : mark ≡ is_taken u i c.name) where
    last : Marked u i marks → (d : ℕ) (x : ClassT) → d ≡ i → slice_get u d ≡ Some x
        → slice_get (marks ++ mark ∷ []) d ≡ Some (is_taken u d x.name)
    last m d x q e =
        let here : slice_get u d ≡ Some c = ap (slice_get u) q ∙ at in
        let same : c ≡ x = cc in
        let end : d ≡ length marks = omega arith in
        let there : mark ≡ is_taken u d x.name = is ∙ (ap (λ k. is_taken u k c.name) (sym q)
        ∙ ap (λ (c : ClassT). is_taken u d c.name) same) in
        ap (slice_get (marks ++ mark ∷ [])) end ∙ (get_last marks mark ∙ ap Some there)

    pub mark_more : Marked u i marks → Marked u (i + 1) (marks ++ mark ∷ [])
    mark_more m = record { long = omega (arith, length_push marks mark); each = each }
      where
        each : (d : ℕ) (x : ClassT) → d < i + 1 → slice_get u d ≡ Some x
            → slice_get (marks ++ mark ∷ []) d ≡ Some (is_taken u d x.name)
        each d x l e = go (ltb d i) refl
          where
            go : (b : Bool) → ltb d i ≡ b → slice_get (marks ++ mark ∷ []) d ≡ Some (is_taken u d x.name)
            go true t = get_left marks (mark ∷ []) d _ (m.each d x (ltb-true d i t) e)
            go false t = last m d x (omega (arith, ltb-false d i t)) e
