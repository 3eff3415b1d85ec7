-- Sets of names, and what a class has under each name of such a set.
use Rattle.std.proofs.Common.{◌≡◌, ℕ, Bool, true, false, List, [], ◌∷◌, map, Some, None, refl, sym, ap, ap₂, subst, ◌∙◌}
use Rattle.std.proofs.lemmas.Map.Text.{is_eq-slice_cmp}
use Rattle.std.specs.Ordering.{is_eq}
use Rattle.std.specs.Prelude.{cond, find, ◌||◌, if◌then◌else◌}
use Rattle.std.specs.Str.{bytes_eq}
use Rattle.std.specs.declared.cmp.Ordering.{Ordering}
use Rattle.std.specs.declared.cmp.Ordering.TheVariants.{Less, Equal, Greater}
use Rattle.eif_base.specs.Numbering.{is_among}
use Rattle.eif_classes.specs.Names.{name_cmp, name_set}
use Rattle.eif_classes.specs.RisingLists.{placed, put}
use Rattle.eif_binding_laws.proofs.Searches.{same_bytes, turned, apart}

-- names that compare as equal are the same
same_name : (m k : List ℕ) → name_cmp m k ≡ Equal → m ≡ k
same_name m k e = same_bytes m k (sym (is_eq-slice_cmp m k) ∙ ap is_eq e)

or_twice : (a b : Bool) → (a || b) ≡ (a || (a || b))
or_twice true b = refl
or_twice false b = refl

or_swapped : (a b c : Bool) → (a || (b || c)) ≡ (b || (a || c))
or_swapped true true c = refl
or_swapped true false c = refl
or_swapped false b c = refl

among_placed : (o : Ordering) (m k : List ℕ) (ns rest : List (List ℕ)) (n : List ℕ) → name_cmp m k ≡ o →
    is_among rest n ≡ (bytes_eq n m || is_among ns n) →
    is_among (placed o m k ns rest) n ≡ (bytes_eq n m || is_among (k ∷ ns) n)
among_placed Less m k ns rest n e later = refl
among_placed Equal m k ns rest n e later =
    subst (λ m. is_among (k ∷ ns) n ≡ (bytes_eq n m || is_among (k ∷ ns) n)) (sym (same_name m k e))
    (or_twice (bytes_eq n k) (is_among ns n))
among_placed Greater m k ns rest n e later =
    ap (λ b. bytes_eq n k || b) later ∙ or_swapped (bytes_eq n k) (bytes_eq n m) (is_among ns n)

among_put : (m : List ℕ) (ns : List (List ℕ)) (n : List ℕ) →
    is_among (put name_cmp m ns) n ≡ (bytes_eq n m || is_among ns n)
among_put m [] n = refl
among_put m (k ∷ ns) n = among_placed (name_cmp m k) m k ns (put name_cmp m ns) n refl (among_put m ns n)

-- a set has the names of which it is made, and no others
pub among_set : (ns : List (List ℕ)) (n : List ℕ) → is_among (name_set ns) n ≡ is_among ns n
among_set [] n = refl
among_set (m ∷ ns) n = among_put m (name_set ns) n ∙ ap (λ b. bytes_eq n m || b) (among_set ns n)

-- ---- what is made of each of some names

module _ {X : Type 0} (name_of : X → List ℕ) (make : List ℕ → X) (named : (n : List ℕ) → name_of (make n) ≡ n) where
  -- a search by a name finds what is made of it, where the name is one of them
  pub made_found : (ns : List (List ℕ)) (n : List ℕ) →
      find (λ x. bytes_eq (name_of x) n) (map make ns) ≡ (if is_among ns n then Some (make n) else None)
  made_found [] n = refl
  made_found (m ∷ ns) n =
      subst (λ y. cond (bytes_eq y n) (Some (make m)) (find (λ x. bytes_eq (name_of x) n) (map make ns))
      ≡ (if bytes_eq n m || is_among ns n then Some (make n) else None)) (sym (named m))
      (go (bytes_eq m n) (bytes_eq n m) refl refl (made_found ns n))
    where
      go : (a b : Bool) → bytes_eq m n ≡ a → bytes_eq n m ≡ b →
          find (λ x. bytes_eq (name_of x) n) (map make ns) ≡ (if is_among ns n then Some (make n) else None) →
          cond a (Some (make m)) (find (λ x. bytes_eq (name_of x) n) (map make ns))
          ≡ (if b || is_among ns n then Some (make n) else None)
      go true true e f later = ap (λ y. Some (make y)) (same_bytes m n e)
      go true false e f later = absurd (apart (bytes_eq n m) (turned n m e) f)
      go false true e f later = absurd (apart (bytes_eq m n) (turned m n f) e)
      go false false e f later = later

  -- the names are those of what is made
  pub made_named : (ns : List (List ℕ)) → map name_of (map make ns) ≡ ns
  made_named [] = refl
  made_named (n ∷ ns) = ap₂ ◌∷◌ (named n) (made_named ns)
