-- The graph of a universe, back to its classes and their parent clauses.
use Rattle.std.proofs.Common.{◌≡◌, ℕ, zero, suc, ◌<◌, Bool, true, false, List, [], ◌∷◌, length, map, get_or, Option, Some, None, refl, subst, sym}
use Rattle.std.proofs.lemmas.List.{length-map}
use Rattle.std.specs.Prelude.{slice_get, if◌then◌else◌, ◌==◌}
use Rattle.std.specs.List.{filter_map, cons_option}
use Rattle.std.proofs.lemmas.Bool.{eqb-true}
use Rattle.eif_ancestry.proofs.Members.{or_cases}
use Rattle.eif_system.specs.Graph.{is_member, parents_of, IsClosed}
use Rattle.eif_system.specs.Inheritance.{clauses, parent_number, parent_numbers, graph_of}
use Rattle.eif_system.specs.Universe.{class_number, class_denoted, is_formal}
use Rattle.eif_system.specs.WrittenTypes.{type_name}
use Rattle.eif_tree.specs.Tree.{ParentT, ClassT}
use Rattle.eif_universe.proofs.FirstNamed.{class_number-within}

-- what a name denotes is a class
pub class_denoted-within : (u : List ClassT) (c : ClassT) (n : List ℕ) (k : ℕ) →
    class_denoted u c n ≡ Some k → k < length u
class_denoted-within u c n k e = go (is_formal c n) e
  where
    go : (b : Bool) → (if b then None else class_number u n) ≡ Some k → k < length u
    go true e = cc
    go false e = class_number-within u n k e

class_at : (u v : List ClassT) (d p : ℕ) → is_member p (get_or (map (parent_numbers u) v) d []) ≡ true →
    (c : ClassT) × (slice_get v d ≡ Some c) × (is_member p (parent_numbers u c) ≡ true)
class_at u [] d p h = cc
class_at u (c ∷ v) zero p h = (c, refl, h)
class_at u (c ∷ v) (suc d) p h = class_at u v d p h

-- an item with that number
abbrev HasNumber : {A : Type 0} → (A → Option ℕ) → List A → ℕ → Type 0
HasNumber {A} f xs p = (i : ℕ) × ((x : A) × (slice_get xs i ≡ Some x) × (f x ≡ Some p))

item_of : {A : Type 0} (f : A → Option ℕ) (xs : List A) (p : ℕ) → is_member p (filter_map f xs) ≡ true →
    HasNumber f xs p
item_of f [] p h = cc
item_of {A} f (x ∷ xs) p h = go (λ m. item_of f xs p m) (f x) refl h
  where
    go : (is_member p (filter_map f xs) ≡ true → HasNumber f xs p) → (o : Option ℕ) → f x ≡ o →
        is_member p (cons_option o (filter_map f xs)) ≡ true → HasNumber f (x ∷ xs) p
    go later None e m = let r = later m in (suc r.0, r.1)
    go later (Some q) e m = or_cases _ (q == p) (is_member p (filter_map f xs)) m
        (λ t. (0, (x, refl, subst (λ q. f x ≡ Some q) (eqb-true q p t) e)))
        (λ m. let r = later m in (suc r.0, r.1))

-- p is the class of a parent clause of the class d
pub record IsParentBy (u : List ClassT) (d p : ℕ) : Type 0 where
  pub class : ClassT
  pub at : slice_get u d ≡ Some class
  pub place : ℕ
  pub clause : ParentT
  pub among : slice_get (clauses class) place ≡ Some clause
  pub names : parent_number u class clause ≡ Some p

pub parent_by : (u : List ClassT) (d p : ℕ) → is_member p (parents_of (graph_of u) d) ≡ true → IsParentBy u d p
parent_by u d p h =
    let c = class_at u u d p h in
    let i = item_of (parent_number u c.0) (clauses c.0) p c.2 in
    record { class = c.0; at = c.1; place = i.0; clause = i.1.0; among = i.1.1; names = i.1.2 }

pub graph_of-closed : (u : List ClassT) → IsClosed (graph_of u)
graph_of-closed u d p h =
    let b = parent_by u d p h in
    let l : p < length u = class_denoted-within u b.class (type_name b.clause.parent) p b.names in
    subst (λ n. p < n) (sym (length-map u (parent_numbers u))) l
