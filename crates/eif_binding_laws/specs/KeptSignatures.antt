-- Laws of dynamic binding: signatures stay. They are of the classes of a system without a breach.
use Rattle.std.specs.Prelude.{◌≡◌, ℕ, true, false, List, Option, Some, None, slice_get}
use Rattle.eif_base.specs.declared.root.Root.{Root}
use Rattle.eif_classes.specs.Ancestry.{ancestor}
use Rattle.eif_classes.specs.Binding.{bind}
use Rattle.eif_classes.specs.Conformance.{conforms}
use Rattle.eif_classes.specs.Entries.{Declaration, declared_as, Feature}
use Rattle.eif_classes.specs.Features.{is_field, feature, origin}
use Rattle.eif_classes.specs.Signatures.{Signature, with_actuals, signature}
use Rattle.eif_classes.specs.Types.{TyT, Actuals}
use Rattle.eif_feature_rules.specs.DeclarationRules.{is_deferred_kind}
use Rattle.eif_system.specs.Lineage.{line_of}
use Rattle.eif_system.specs.Universe.{universe}
use Rattle.eif_tree.specs.Tree.{ClassT}
use Rattle.eif_binding_laws.specs.Signatures.{IsDeclaredAbove, signature_above}
use Rattle.eif_binding_laws.specs.WellFormed.{IsWellFormed}

-- the first result conforms to the second in the class d, or there is neither
abbrev pub ResultConforms : List ClassT → ℕ → Option TyT → Option TyT → Type 0
ResultConforms u d None None = Unit {0}
ResultConforms u d (Some a) (Some b) = conforms u d a b ≡ true
ResultConforms u d _ _ = ⊥

-- in the class d what has the signature s may stand for what has the signature t
pub record StandsFor (u : List ClassT) (d : ℕ) (s t : Signature) : Type 0 where
  pub arguments : s.arguments ≡ t.arguments
  pub result : ResultConforms u d s.result t.result

-- the name that the class d has for a name of its ancestor k has equal arguments and a conforming result
abbrev pub BindingKeepsSignatures : Type 0
BindingKeepsSignatures =
    (given : List ClassT) (root : Root) → IsWellFormed given root → (d k : ℕ) (m n : List ℕ) (xs : Actuals)
    (s : Signature) → ancestor (universe given) d k ≡ Some xs →
    signature (universe given) (line_of (universe given) k) m ≡ Some s →
    bind (line_of (universe given) d) k m ≡ Some n →
    (t : Signature) × (signature (universe given) (line_of (universe given) d) n ≡ Some t)
    × StandsFor (universe given) d t (with_actuals xs s)

-- a field is bound to a field of the same type
abbrev pub BindingKeepsFields : Type 0
BindingKeepsFields =
    (given : List ClassT) (root : Root) → IsWellFormed given root → (d k : ℕ) (m n : List ℕ) (xs : Actuals)
    (s : Signature) (g : Feature) → ancestor (universe given) d k ≡ Some xs →
    signature (universe given) (line_of (universe given) k) m ≡ Some s →
    feature (line_of (universe given) k) m ≡ Some g → is_field g.origin ≡ true →
    bind (line_of (universe given) d) k m ≡ Some n →
    (f : Feature) × (feature (line_of (universe given) d) n ≡ Some f) × (is_field f.origin ≡ true)
    × (signature (universe given) (line_of (universe given) d) n ≡ Some (with_actuals xs s))

-- ---- versions

-- the version x, seen in the class d, serves calls of the signature s
pub record Serves (u : List ClassT) (d : ℕ) (x : Declaration) (s : Signature) : Type 0 where
  pub above : IsDeclaredAbove u d x
  pub written : is_deferred_kind x.tree.kind ≡ false
  pub stands : StandsFor u d (signature_above u d x above) s

-- the name m of the class k is bound in the class d to a name whose version serves calls of the signature s
pub record IsBound (u : List ClassT) (d k : ℕ) (m : List ℕ) (s : Signature) : Type 0 where
  pub name : List ℕ
  pub bound : bind (line_of u d) k m ≡ Some name
  pub version : Declaration
  pub origin : origin (line_of u d) name ≡ Some (declared_as version)
  pub serves : Serves u d version s

-- on objects of a class that isn't deferred each name of each ancestor has a version that serves its signature
abbrev pub NamesAreServed : Type 0
NamesAreServed =
    (given : List ClassT) (root : Root) → IsWellFormed given root → (d : ℕ) (c : ClassT) →
    slice_get (universe given) d ≡ Some c → c.is_deferred ≡ false →
    (k : ℕ) (m : List ℕ) (xs : Actuals) (s : Signature) → ancestor (universe given) d k ≡ Some xs →
    signature (universe given) (line_of (universe given) k) m ≡ Some s →
    IsBound (universe given) d k m (with_actuals xs s)
