-- Types of a class, and classes whose parents and constraints are types of theirs.
use Rattle.std.specs.Prelude.{◌≡◌, ℕ, suc, ◌<◌, true, List, [], ◌∷◌, length, Option, Some, None, slice_get}
use Rattle.eif_classes.specs.Ancestry.{ancestor}
use Rattle.eif_classes.specs.Conformance.{conforms}
use Rattle.eif_classes.specs.Constraints.{formal_constraint}
use Rattle.eif_classes.specs.Descent.{descends}
use Rattle.eif_classes.specs.Resolution.{clause_actuals}
use Rattle.eif_classes.specs.Types.{TyT, class_type, formal_type, none_type, Actuals, no_actuals, and_actual}
use Rattle.eif_rules.specs.UniverseRules.{formal_count}
use Rattle.eif_system.specs.Graph.{IsOrder}
use Rattle.eif_system.specs.Inheritance.{clauses, parent_number, graph_of}
use Rattle.eif_system.specs.Lineage.{line_of}
use Rattle.eif_tree.specs.Tree.{FormalT, ParentT, ClassT}

-- ---- types

-- it isn't NONE
abbrev pub IsSomething : TyT → Type 0
IsSomething none_type = ⊥
IsSomething _ = Unit {0}

abbrev pub actual_count : Actuals → ℕ
actual_count no_actuals = 0
actual_count (and_actual t ts) = suc (actual_count ts)

abbrev mutual
  -- a type of a class with n formals: its classes are there, with as many actuals as they have formals, none of them
  -- NONE, and its formals are among the n
  pub IsOf : List ClassT → ℕ → TyT → Type 0
  IsOf u n (class_type k m ts) = (k < length u) × (actual_count ts ≡ formal_count u k) × AreOf u n ts
  IsOf u n (formal_type i m) = i < n
  IsOf u n none_type = Unit {0}

  pub AreOf : List ClassT → ℕ → Actuals → Type 0
  AreOf u n no_actuals = Unit {0}
  AreOf u n (and_actual t ts) = IsSomething t × IsOf u n t × AreOf u n ts

-- ---- constraints

abbrev pub constraints_by : List ClassT → ClassT → List FormalT → Actuals
constraints_by u c [] = no_actuals
constraints_by u c (f ∷ fs) = and_actual (formal_constraint u c f) (constraints_by u c fs)

abbrev constraints_in : List ClassT → Option ClassT → Actuals
constraints_in u None = no_actuals
constraints_in u (Some c) = constraints_by u c c.formals

-- of the formals of the class with that number, in their order
abbrev pub constraints_of : List ClassT → ℕ → Actuals
constraints_of u k = constraints_in u (slice_get u k)

-- as many, each of which conforms in the class d to the constraint in its place
abbrev pub Meet : List ClassT → ℕ → Actuals → Actuals → Type 0
Meet u d no_actuals no_actuals = Unit {0}
Meet u d (and_actual x xs) (and_actual c cs) = (conforms u d x c ≡ true) × Meet u d xs cs
Meet u d _ _ = ⊥

abbrev mutual
  -- in the class d the actuals of each class type in it meet the constraints of its class
  pub IsValid : List ClassT → ℕ → TyT → Type 0
  IsValid u d (class_type k m ts) = Meet u d ts (constraints_of u k) × AreValid u d ts
  IsValid u d (formal_type i m) = Unit {0}
  IsValid u d none_type = Unit {0}

  pub AreValid : List ClassT → ℕ → Actuals → Type 0
  AreValid u d no_actuals = Unit {0}
  AreValid u d (and_actual t ts) = IsValid u d t × AreValid u d ts

-- ---- classes

-- for each clause of each class that names a class: the class, with its number and its text, the clause, the number
abbrev pub EachClause : List ClassT → (ℕ → ClassT → ParentT → ℕ → Type 0) → Type 0
EachClause u P =
    (d : ℕ) (c : ClassT) → slice_get u d ≡ Some c →
    (i : ℕ) (p : ParentT) → slice_get (clauses c) i ≡ Some p → (k : ℕ) → parent_number u c p ≡ Some k → P d c p k

-- the actuals of a clause are types of its class, as many as the parent has formals
pub record IsClauseOf (u : List ClassT) (c : ClassT) (p : ParentT) (k : ℕ) : Type 0 where
  pub count : actual_count (clause_actuals u c p) ≡ formal_count u k
  pub types : AreOf u (length c.formals) (clause_actuals u c p)

-- they meet the constraints of the parent, and so do those in them
pub record IsValidClause (u : List ClassT) (d : ℕ) (c : ClassT) (p : ParentT) (k : ℕ) : Type 0 where
  pub meet : Meet u d (clause_actuals u c p) (constraints_of u k)
  pub valid : AreValid u d (clause_actuals u c p)

-- classes in an order of inheritance whose parents are types of the class, and whose constraints name no formal
pub record IsHierarchy (u : List ClassT) (order : List ℕ) : Type 0 where
  pub ordered : IsOrder (graph_of u) order
  pub parents : EachClause u (λ d c p k. IsClauseOf u c p k)
  pub constraints : (k : ℕ) → AreOf u 0 (constraints_of u k)

-- what a class gives the formals of each of its ancestors is defined
abbrev pub Defined : List ClassT → Type 0
Defined u = (d k : ℕ) → descends (line_of u d) k ≡ true → (xs : Actuals) × (ancestor u d k ≡ Some xs)
