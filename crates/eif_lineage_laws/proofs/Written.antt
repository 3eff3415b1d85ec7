-- The types that a class writes, by where they stand.
use Rattle.std.proofs.Common.{◌≡◌, Bool, true, false, List, [], ◌∷◌, ◌++◌, map, refl}
use Rattle.std.specs.List.{flat_map}
use Rattle.std.specs.Prelude.{if◌then◌else◌}
use Rattle.std.specs.Str.{bytes_eq}
use Rattle.eif_system.specs.Inheritance.{any_clause, clauses}
use Rattle.eif_system.specs.Kernel.{any_name}
use Rattle.eif_system.specs.WrittenTypes.{Written, written, written_in, written_types, invariant_name, types_of_expressions, present, nested, nested_in}
use Rattle.eif_tree.specs.Members.{declarations}
use Rattle.eif_tree.specs.Tree.{TypeT, type_at, Types, no_types, and_type, ParentT, ClassT}
use Rattle.eif_lineage_laws.proofs.EachItem.{AllOf, all_append, all_left, all_right, all_map}

-- what holds of a type and all in it holds so of each of them
mutual
  pub nested_again : (P : TypeT → Type 0) (t : TypeT) → AllOf P (nested t) → AllOf (λ s. AllOf P (nested s)) (nested t)
  nested_again P (type_at p q m n ts) h = (h, nested_in_again P ts h.1)

  nested_in_again : (P : TypeT → Type 0) (ts : Types) → AllOf P (nested_in ts) →
      AllOf (λ s. AllOf P (nested s)) (nested_in ts)
  nested_in_again P no_types h = tt
  nested_in_again P (and_type t ts) h =
      all_append (λ s. AllOf P (nested s)) (nested t) (nested_in ts)
      (nested_again P t (all_left P (nested t) (nested_in ts) h))
      (nested_in_again P ts (all_right P (nested t) (nested_in ts) h))

pub nested_first : (P : TypeT → Type 0) (t : TypeT) → AllOf P (nested t) → P t
nested_first P (type_at p q m n ts) h = h.0

among_heads : (c : ClassT) (P : Written → Type 0) → AllOf P (written_types c) →
    AllOf (λ t. P (written [] t)) (flat_map (λ f. present f.constraint) c.formals ++ map (λ p. p.parent) c.parents)
among_heads c P h =
    all_map (written []) P (flat_map (λ f. present f.constraint) c.formals ++ map (λ p. p.parent) c.parents)
    (all_left P (map (written []) (flat_map (λ f. present f.constraint) c.formals ++ map (λ p. p.parent) c.parents))
    (flat_map written_in (declarations c))
    (all_left P (map (written []) (flat_map (λ f. present f.constraint) c.formals ++ map (λ p. p.parent) c.parents)
    ++ flat_map written_in (declarations c)) (map (written invariant_name) (types_of_expressions c.invariants)) h))

pub among_parents : (c : ClassT) (P : Written → Type 0) → AllOf P (written_types c) →
    AllOf (λ p. P (written [] p.parent)) c.parents
among_parents c P h =
    all_map (λ p. p.parent) (λ t. P (written [] t)) c.parents
    (all_right (λ t. P (written [] t)) (flat_map (λ f. present f.constraint) c.formals) (map (λ p. p.parent) c.parents)
    (among_heads c P h))

pub among_constraints : (c : ClassT) (P : Written → Type 0) → AllOf P (written_types c) →
    AllOf (λ t. P (written [] t)) (flat_map (λ f. present f.constraint) c.formals)
among_constraints c P h =
    all_left (λ t. P (written [] t)) (flat_map (λ f. present f.constraint) c.formals) (map (λ p. p.parent) c.parents)
    (among_heads c P h)

-- P of each parent clause, also where none is written
pub each_clause : (P : ParentT → Type 0) (c : ClassT) → P any_clause → AllOf P c.parents → AllOf P (clauses c)
each_clause P c any h = go c.parents refl h
  where
    unwritten : (b : Bool) → AllOf P (if b then [] else any_clause ∷ [])
    unwritten true = tt
    unwritten false = (any, tt)

    go : (ps : List ParentT) → c.parents ≡ ps → AllOf P ps → AllOf P (clauses c)
    go [] e h = rw e (unwritten (bytes_eq c.name any_name))
    go (p ∷ ps) e h = rw e h
