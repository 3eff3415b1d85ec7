-- The faults of a system of given classes: the breaches of the first phase that has any. Behind the rules of the universe,
-- of features, of derivations and of signatures this version judges plain classes alone.
use Rattle.std.specs.Prelude.{not, List, [], flat_map}
use Rattle.eif_base.specs.declared.code.Code.TheVariants as code
use Rattle.eif_base.specs.declared.fault.Fault.{Fault}
use Rattle.eif_base.specs.declared.root.Root.{Root}
use Rattle.eif_base.specs.Appends.{In}
use Rattle.eif_tree.specs.declared.tree.NameAt.{NameAt}
use Rattle.eif_tree.specs.Tree.{DeclT, ClassT}
use Rattle.eif_tree.specs.Members.{has_name, declarations, declared_names, body_of, called_in}
use Rattle.eif_feature_rules.specs.FeaturePhases.{FeaturesBroken, DerivationsBroken, SignaturesBroken}
use Rattle.eif_system.specs.WrittenTypes.{feature_name}
use Rattle.eif_rules.specs.FaultForms.{fault_at, fault_in, fault_where, FirstOf}
use Rattle.eif_system_rules.specs.PlainClasses.{is_plain}
use Rattle.eif_rules.specs.UniverseRules.{UniverseBroken}

-- ---- classes that this version does not judge

-- XYET.1: the class is not plain
abbrev pub not_yet : ClassT → List Fault
not_yet c = fault_where (not (is_plain c)) (fault_at c code.Xyet 1 c.place [])

-- ---- names in bodies

-- of a plain class: a name that a declaration of the class calls is not among those that the class declares
abbrev pub unknown_name : ClassT → List NameAt → DeclT → NameAt → List Fault
unknown_name c declared d n =
    fault_where (not (has_name declared n.name)) (fault_in c (feature_name d.names) code.Veen 1 n.place n.name)

abbrev pub unknown_names : ClassT → List NameAt → DeclT → List Fault
unknown_names c declared d = flat_map (unknown_name c declared d) (called_in (body_of d.kind))

abbrev pub unknown_names_in : ClassT → List Fault
unknown_names_in c = flat_map (unknown_names c (declared_names c)) (declarations c)

-- ---- the system of the given classes

-- of classes that break no rule up to those of signatures
abbrev pub BodiesBroken : List ClassT → Fault → Type 0
BodiesBroken given = FirstOf (In (flat_map not_yet given)) (In (flat_map unknown_names_in given))

-- of classes that break no rule up to those of derivations
abbrev pub DeclarationsBroken : List ClassT → Root → Fault → Type 0
DeclarationsBroken given root = FirstOf (SignaturesBroken given root) (BodiesBroken given)

-- of classes that break no rule up to those of features
abbrev pub TypesBroken : List ClassT → Root → Fault → Type 0
TypesBroken given root = FirstOf (DerivationsBroken given) (DeclarationsBroken given root)

-- of classes that break no rule of the universe
abbrev pub ClassesBroken : List ClassT → Root → Fault → Type 0
ClassesBroken given root = FirstOf (FeaturesBroken given) (TypesBroken given root)

abbrev pub SystemBroken : List ClassT → Root → Fault → Type 0
SystemBroken given root = FirstOf (UniverseBroken given root) (ClassesBroken given root)
