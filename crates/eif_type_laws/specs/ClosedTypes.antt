-- Laws of types without formals, which are the types of objects.
use Rattle.std.specs.Prelude.{◌≡◌, ℕ, true, List}
use Rattle.eif_classes.specs.Conformance.{conforms, closed_conforms}
use Rattle.eif_classes.specs.Types.{TyT, Actuals, put_in}
use Rattle.eif_rules.specs.UniverseRules.{formal_count}
use Rattle.eif_tree.specs.Tree.{ClassT}
use Rattle.eif_type_laws.specs.ClassTypes.{IsOf, AreOf, constraints_of, Meet, IsValid, IsHierarchy, Defined}

-- they conform to one another in any class alike
abbrev pub ClosedConformance : Type 0
ClosedConformance =
    (u : List ClassT) (d : ℕ) (a b : TyT) → IsOf u 0 a → IsOf u 0 b → conforms u d a b ≡ closed_conforms u a b

-- and are valid in any class if in one
abbrev pub ClosedValidity : Type 0
ClosedValidity =
    (u : List ClassT) (order : List ℕ) → IsHierarchy u order →
    (d e : ℕ) (t : TyT) → IsOf u 0 t → IsValid u d t → IsValid u e t

-- put in types of the class c whose constraints they meet, they keep conformance
abbrev pub SubstitutionClosesConformance : Type 0
SubstitutionClosesConformance =
    (u : List ClassT) (order : List ℕ) → IsHierarchy u order → Defined u →
    (c d : ℕ) (xs : Actuals) → AreOf u 0 xs → Meet u d xs (constraints_of u c) →
    (a b : TyT) → IsOf u (formal_count u c) a → IsOf u (formal_count u c) b → conforms u c a b ≡ true →
    closed_conforms u (put_in xs a) (put_in xs b) ≡ true
