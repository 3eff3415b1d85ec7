-- What the number of a name says of the classes.
use Rattle.std.proofs.Common.{◌≡◌, ◌≢◌, ℕ, zero, suc, ◌+◌, ◌<◌, Bool, true, false, List, [], ◌∷◌, ◌++◌, length}
use Rattle.std.proofs.Common.{Option, Some, None, refl, ap, subst, ◌∙◌, arith}
use Rattle.std.specs.Prelude.{if◌then◌else◌, slice_get}
use Rattle.std.specs.Option.{option_map, option_or}
use Rattle.std.specs.Str.{bytes_eq}
use Rattle.std.proofs.lemmas.Option.{slice_get_within}
use Rattle.std.proofs.lemmas.Slice.Eq.{bytes_eq-Decides}
use Rattle.eif_tree.specs.Tree.{ClassT}
use Rattle.eif_system.specs.Universe.{class_number}

-- no class has the name
abbrev pub IsAbsent : List ClassT → List ℕ → Type 0
IsAbsent u n = (d : ℕ) (c : ClassT) → slice_get u d ≡ Some c → c.name ≢ n

-- the class d has the name, and no earlier one has it
pub record IsFirstNamed (u : List ClassT) (n : List ℕ) (d : ℕ) : Type 0 where
  pub class : ClassT
  pub at : slice_get u d ≡ Some class
  pub named : class.name ≡ n
  pub first : (e : ℕ) (c : ClassT) → e < d → slice_get u e ≡ Some c → c.name ≢ n

-- the number where the first class has the name or not, from that among the others
abbrev number_from : Bool → Option ℕ → Option ℕ
number_from b o = if b then Some 0 else option_map suc o

-- a class before has another name
other_name : (c x : ClassT) (n : List ℕ) → bytes_eq c.name n ≡ false → Some c ≡ Some x → x.name ≢ n
other_name c x n t e named =
    let q : c ≡ x = cc in
    let s : bytes_eq c.name n ≡ true = (bytes_eq-Decides c.name n).1 (ap (λ (c : ClassT). c.name) q ∙ named) in
    cc

module _ (c : ClassT) (u : List ClassT) (n : List ℕ) where
  absent_later : bytes_eq c.name n ≡ false → IsAbsent u n → IsAbsent (c ∷ u) n
  absent_later t h zero x e = other_name c x n t e
  absent_later t h (suc d) x e = h d x e

  first_now : bytes_eq c.name n ≡ true → IsFirstNamed (c ∷ u) n 0
  first_now t = record {
    class = c;
    at = refl;
    named = (bytes_eq-Decides c.name n).0 t;
    first = λ k x l h. absurd (omega arith);
  }

  first_later : (d : ℕ) → bytes_eq c.name n ≡ false → IsFirstNamed u n d → IsFirstNamed (c ∷ u) n (suc d)
  first_later d t h = record { class = h.class; at = h.at; named = h.named; first = earlier }
    where
      earlier : (e : ℕ) (x : ClassT) → e < suc d → slice_get (c ∷ u) e ≡ Some x → x.name ≢ n
      earlier zero x l e = other_name c x n t e
      earlier (suc k) x l e = h.first k x (omega arith) e

  found_from : (b : Bool) (o : Option ℕ) (d : ℕ) → bytes_eq c.name n ≡ b → number_from b o ≡ Some d
      → ((k : ℕ) → o ≡ Some k → IsFirstNamed u n k) → IsFirstNamed (c ∷ u) n d
  found_from true o d t e h = let q : 0 ≡ d = cc in subst (λ d. IsFirstNamed (c ∷ u) n d) q (first_now t)
  found_from false (Some k) d t e h =
      let q : suc k ≡ d = cc in
      subst (λ d. IsFirstNamed (c ∷ u) n d) q (first_later k t (h k refl))
  found_from false None d t e h = cc

  absent_from : (b : Bool) (o : Option ℕ) → bytes_eq c.name n ≡ b → number_from b o ≡ None
      → (o ≡ None → IsAbsent u n) → IsAbsent (c ∷ u) n
  absent_from true o t e h = cc
  absent_from false (Some k) t e h = cc
  absent_from false None t e h = absent_later t (h refl)

pub class_number-found : (u : List ClassT) (n : List ℕ) (d : ℕ) → class_number u n ≡ Some d → IsFirstNamed u n d
class_number-found [] n d e = cc
class_number-found (c ∷ u) n d e =
    found_from c u n (bytes_eq c.name n) (class_number u n) d refl e (λ k h. class_number-found u n k h)

pub class_number-none : (u : List ClassT) (n : List ℕ) → class_number u n ≡ None → IsAbsent u n
class_number-none [] n e = λ d c h. cc
class_number-none (c ∷ u) n e =
    absent_from c u n (bytes_eq c.name n) (class_number u n) refl e (λ h. class_number-none u n h)

pub class_number-within : (u : List ClassT) (n : List ℕ) (d : ℕ) → class_number u n ≡ Some d → d < length u
class_number-within u n d e = let f = class_number-found u n d e in slice_get_within u d f.class f.at

-- the first class of the name is the one that is found
pub class_number-first : (u : List ClassT) (n : List ℕ) (d : ℕ) → IsFirstNamed u n d → class_number u n ≡ Some d
class_number-first u n d f = go (class_number u n) refl
  where
    go : (o : Option ℕ) → class_number u n ≡ o → o ≡ Some d
    go None e = absurd (class_number-none u n e d f.class f.at f.named)
    go (Some k) e =
        let g = class_number-found u n k e in
        let low : (k < d) → ⊥ = λ l. f.first k g.class l g.at g.named in
        let high : (d < k) → ⊥ = λ l. g.first d f.class l f.at f.named in
        ap Some (omega (arith, low, high))

pub class_number-absent : (u : List ClassT) (n : List ℕ) → IsAbsent u n → class_number u n ≡ None
class_number-absent u n h = go (class_number u n) refl
  where
    go : (o : Option ℕ) → class_number u n ≡ o → o ≡ None
    go None e = refl
    go (Some k) e = let g = class_number-found u n k e in absurd (h k g.class g.at g.named)

-- a number among classes that stand behind n others
abbrev pub behind : ℕ → Option ℕ → Option ℕ
behind n o = option_map (λ d. n + d) o

behind_none : (o : Option ℕ) → o ≡ behind 0 o
behind_none (Some d) = ap Some (omega arith)
behind_none None = refl

one_more : (l : ℕ) (o w : Option ℕ)
    → option_map suc (option_or o (behind l w)) ≡ option_or (option_map suc o) (behind (suc l) w)
one_more l (Some k) w = refl
one_more l None (Some d) = ap Some (omega arith)
one_more l None None = refl

appended_from : (b : Bool) (l : ℕ) (all o w : Option ℕ) → all ≡ option_or o (behind l w)
    → number_from b all ≡ option_or (number_from b o) (behind (suc l) w)
appended_from true l all o w e = refl
appended_from false l all o w e = ap (option_map suc) e ∙ one_more l o w

-- classes more: the first number stays
pub class_number-append : (u v : List ClassT) (n : List ℕ)
    → class_number (u ++ v) n ≡ option_or (class_number u n) (behind (length u) (class_number v n))
class_number-append [] v n = behind_none (class_number v n)
class_number-append (c ∷ u) v n =
    let all = class_number (u ++ v) n in
    let rest = class_number-append u v n in
    appended_from (bytes_eq c.name n) (length u) all (class_number u n) (class_number v n) rest
