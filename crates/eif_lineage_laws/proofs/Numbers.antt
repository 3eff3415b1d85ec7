-- The numbers that names and parent clauses have.
use Rattle.std.proofs.Common.{◌≡◌, ℕ, zero, suc, ◌<◌, Bool, true, false, List, [], ◌∷◌, length, map, take, get_or, Option, Some, None, refl, sym, ap, subst, ⊎_elim, arith}
use Rattle.std.proofs.lemmas.Option.{same_Some}
use Rattle.std.proofs.lemmas.Slice.Eq.{bytes_eq-Decides}
use Rattle.std.specs.List.{filter_map}
use Rattle.std.specs.Option.{option_map}
use Rattle.std.specs.Prelude.{slice_get, if◌then◌else◌}
use Rattle.std.specs.Str.{bytes_eq}
use Rattle.eif_system.specs.Graph.{is_member, parents_of, IsClosed}
use Rattle.eif_system.specs.Inheritance.{clauses, parent_number, parent_numbers, graph_of}
use Rattle.eif_system.specs.Universe.{class_number, is_formal}
use Rattle.eif_system.specs.WrittenTypes.{type_name}
use Rattle.eif_tree.specs.Tree.{ParentT, ClassT}
use Rattle.eif_lineage_laws.proofs.Descending.{number_is}
use Rattle.eif_lineage_laws.proofs.Unfolding.{graph_length}

-- ---- names

-- the class of a name is one of the classes
pub class_number_within : (u : List ClassT) (n : List ℕ) (k : ℕ) → class_number u n ≡ Some k → k < length u
class_number_within [] n k e = cc
class_number_within (c ∷ u) n k e = go (bytes_eq c.name n) (class_number u n) e (λ j. class_number_within u n j)
  where
    go : (b : Bool) (o : Option ℕ) → (if b then Some 0 else option_map suc o) ≡ Some k →
        ((j : ℕ) → o ≡ Some j → j < length u) → k < suc (length u)
    go true o e rest = let q = same_Some 0 k e in omega arith
    go false (Some j) e rest = let q = same_Some (suc j) k e in let l = rest j refl in omega arith
    go false None e rest = cc

-- a class has the number of its name where no earlier one has the name
pub first_number_is : (u : List ClassT) (d : ℕ) (c : ClassT) → class_number (take d u) c.name ≡ None →
    slice_get u d ≡ Some c → class_number u c.name ≡ Some d
first_number_is [] d c none at = cc
first_number_is (x ∷ u) zero c none at =
    let q = same_Some x c at in
    let t : bytes_eq x.name c.name ≡ true = (bytes_eq-Decides x.name c.name).1 (ap (λ (c : ClassT). c.name) q) in
    ap (λ b. if b then Some 0 else option_map suc (class_number u c.name)) t
first_number_is (x ∷ u) (suc d) c none at =
    go (bytes_eq x.name c.name) (class_number (take d u) c.name) none (λ e. first_number_is u d c e at)
  where
    go : (b : Bool) (o : Option ℕ) → (if b then Some 0 else option_map suc o) ≡ None →
        (o ≡ None → class_number u c.name ≡ Some d) →
        (if b then Some 0 else option_map suc (class_number u c.name)) ≡ Some (suc d)
    go true o e rest = cc
    go false (Some k) e rest = cc
    go false None e rest = ap (option_map suc) (rest refl)

-- ---- parent clauses

pub parent_within : (u : List ClassT) (c : ClassT) (p : ParentT) (k : ℕ) → parent_number u c p ≡ Some k → k < length u
parent_within u c p k e = go (is_formal c (type_name p.parent)) e
  where
    go : (b : Bool) → (if b then None else class_number u (type_name p.parent)) ≡ Some k → k < length u
    go true e = cc
    go false e = class_number_within u (type_name p.parent) k e

-- p is the class of a parent clause of the class d
pub record IsParentBy (u : List ClassT) (d p : ℕ) : Type 0 where
  pub class : ClassT
  pub at : slice_get u d ≡ Some class
  pub place : ℕ
  pub clause : ParentT
  pub among : slice_get (clauses class) place ≡ Some clause
  pub names : parent_number u class clause ≡ Some p

class_by : (f : ClassT → List ℕ) (v : List ClassT) (d p : ℕ) → is_member p (get_or (map f v) d []) ≡ true →
    (c : ClassT) × (slice_get v d ≡ Some c) × (is_member p (f c) ≡ true)
class_by f [] d p h = cc
class_by f (c ∷ v) zero p h = (c, refl, h)
class_by f (c ∷ v) (suc d) p h = class_by f v d p h

clause_by : (f : ParentT → Option ℕ) (ps : List ParentT) (k : ℕ) → is_member k (filter_map f ps) ≡ true →
    (i : ℕ) × (p : ParentT) × (slice_get ps i ≡ Some p) × (f p ≡ Some k)
clause_by f [] k h = cc
clause_by f (p ∷ ps) k h = ⊎_elim
    (λ (e : f p ≡ Some k). (0, p, refl, e))
    (λ (m : is_member k (filter_map f ps) ≡ true). let r = clause_by f ps k m in (suc r.0, r.1, r.2, r.3))
    (number_is (f p) k (filter_map f ps) h)

pub parent_by : (u : List ClassT) (d p : ℕ) → is_member p (parents_of (graph_of u) d) ≡ true → IsParentBy u d p
parent_by u d p h =
    let c = class_by (parent_numbers u) u d p h in
    let i = clause_by (parent_number u c.0) (clauses c.0) p c.2 in
    record { class = c.0; at = c.1; place = i.0; clause = i.1; among = i.2; names = i.3 }

pub graph_closed : (u : List ClassT) → IsClosed (graph_of u)
graph_closed u d p h =
    let b = parent_by u d p h in
    subst (λ n. p < n) (sym (graph_length u)) (parent_within u b.class b.clause p b.names)
