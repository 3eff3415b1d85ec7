-- Laws of types: of substitution, of the actuals of ancestors, of conformance and of attachment.
use Rattle.std.specs.Prelude.{◌≡◌, ℕ, true, List, [], Some, slice_get}
use Rattle.eif_classes.specs.Ancestry.{ancestor}
use Rattle.eif_classes.specs.Conformance.{conforms}
use Rattle.eif_classes.specs.Constraints.{is_attached}
use Rattle.eif_classes.specs.Types.{TyT, Actuals, put_in, put_in_all}
use Rattle.eif_feature_rules.specs.DerivationRules.{derivation_faults}
use Rattle.eif_rules.specs.UniverseRules.{formal_count}
use Rattle.eif_system.specs.Graph.{IsOrder}
use Rattle.eif_system.specs.Inheritance.{graph_of}
use Rattle.eif_system.specs.Lineage.{line_of}
use Rattle.eif_tree.specs.Tree.{ClassT}
use Rattle.eif_type_laws.specs.ClassTypes.{IsSomething, actual_count, IsOf, AreOf, constraints_of, Meet, IsValid, AreValid, EachClause, IsValidClause, IsHierarchy, Defined}

-- one after the other is both at once
abbrev pub SubstitutionComposes : Type 0
SubstitutionComposes = (xs ys : Actuals) (t : TyT) → put_in ys (put_in xs t) ≡ put_in (put_in_all ys xs) t

-- ---- the actuals of ancestors

-- those of an ancestor's ancestor
abbrev pub AncestryComposes : Type 0
AncestryComposes =
    (u : List ClassT) (order : List ℕ) → IsHierarchy u order → Defined u →
    (d k j : ℕ) (xs ys : Actuals) → ancestor u d k ≡ Some xs → ancestor u k j ≡ Some ys →
    ancestor u d j ≡ Some (put_in_all xs ys)

-- they are types of the class, as many as the ancestor has formals
abbrev pub AncestryIsOfTheClass : Type 0
AncestryIsOfTheClass =
    (u : List ClassT) (order : List ℕ) → IsHierarchy u order →
    (d k : ℕ) (xs : Actuals) → ancestor u d k ≡ Some xs →
    AreOf u (formal_count u d) xs × (actual_count xs ≡ formal_count u k)

-- where the clauses of every class are valid they are, and meet the ancestor's constraints
abbrev pub AncestryIsValid : Type 0
AncestryIsValid =
    (u : List ClassT) (order : List ℕ) → IsHierarchy u order → Defined u → EachClause u (IsValidClause u) →
    (d k : ℕ) (xs : Actuals) → ancestor u d k ≡ Some xs → Meet u d xs (constraints_of u k) × AreValid u d xs

-- where no class breaks a rule of derivations all of them are defined
abbrev pub AncestryIsDefined : Type 0
AncestryIsDefined =
    (u : List ClassT) (order : List ℕ) → IsOrder (graph_of u) order →
    ((d : ℕ) (c : ClassT) → slice_get u d ≡ Some c → derivation_faults u (line_of u d) ≡ []) → Defined u

-- ---- conformance

abbrev pub ConformanceIsReflexive : Type 0
ConformanceIsReflexive =
    (u : List ClassT) (order : List ℕ) → IsHierarchy u order →
    (d : ℕ) (a : TyT) → IsOf u (formal_count u d) a → IsSomething a → conforms u d a a ≡ true

abbrev pub ConformanceIsTransitive : Type 0
ConformanceIsTransitive =
    (u : List ClassT) (order : List ℕ) → IsHierarchy u order → Defined u →
    (d : ℕ) (a b c : TyT) → conforms u d a b ≡ true → conforms u d b c ≡ true → conforms u d a c ≡ true

-- with actuals of the class d that meet the constraints of the class c
abbrev pub SubstitutionKeepsConformance : Type 0
SubstitutionKeepsConformance =
    (u : List ClassT) (order : List ℕ) → IsHierarchy u order → Defined u →
    (c d : ℕ) (xs : Actuals) → AreOf u (formal_count u d) xs → Meet u d xs (constraints_of u c) →
    (a b : TyT) → IsOf u (formal_count u c) a → IsOf u (formal_count u c) b → conforms u c a b ≡ true →
    conforms u d (put_in xs a) (put_in xs b) ≡ true

-- with valid actuals of the class d that meet the constraints of the class c
abbrev pub SubstitutionKeepsValidity : Type 0
SubstitutionKeepsValidity =
    (u : List ClassT) (order : List ℕ) → IsHierarchy u order → Defined u →
    (c d : ℕ) (xs : Actuals) → AreOf u (formal_count u d) xs → AreValid u d xs → Meet u d xs (constraints_of u c) →
    (t : TyT) → IsOf u (formal_count u c) t → IsValid u c t → IsValid u d (put_in xs t)

-- ---- attachment

-- what conforms to an attached type is attached
abbrev pub ConformanceKeepsAttachment : Type 0
ConformanceKeepsAttachment =
    (u : List ClassT) (d : ℕ) (a b : TyT) → conforms u d a b ≡ true → is_attached u d b ≡ true →
    is_attached u d a ≡ true

-- with actuals of the class d that meet the constraints of the class c
abbrev pub SubstitutionKeepsAttachment : Type 0
SubstitutionKeepsAttachment =
    (u : List ClassT) (c d : ℕ) (xs : Actuals) →
    AreOf u (formal_count u d) xs → Meet u d xs (constraints_of u c) →
    (t : TyT) → IsOf u (formal_count u c) t → is_attached u c t ≡ true → is_attached u d (put_in xs t) ≡ true
