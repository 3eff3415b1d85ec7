-- What holds of declarations without faults, in classes and systems of given classes.
use Rattle.std.specs.Prelude.{◌≡◌, ℕ, ◌≤◌, false, List, [], map, Some, slice_get}
use Rattle.eif_base.specs.Numbering.{IsNumbering}
use Rattle.eif_tree.specs.Tree.{Inss, KindT, routine, DeclT, ClassT}
use Rattle.eif_system.specs.Kernel.{kernel_count}
use Rattle.eif_system.specs.Universe.{universe}
use Rattle.eif_classes.specs.Features.{has_feature, declaration_of}
use Rattle.eif_rules.specs.FaultForms.{IsNone}
use Rattle.eif_body_rules.specs.BodyRules.{in_body, class_body_faults, GivenBodiesBroken}
use Rattle.eif_body_rules.specs.LocalFlow.{set_after_all}
use Rattle.eif_body_rules.specs.Settings.{Setting, Entity, entity_of}
use Rattle.eif_valid_bodies.specs.SetReads.{ResultIsSet}
use Rattle.eif_valid_bodies.specs.ValidInstructions.{ValidCompound}

-- no argument or local has the name of a feature, and no two have one name
pub record ValidEntities (s : Setting) : Type 0 where
  pub no_feature : (x : List ℕ) (e : Entity) → entity_of s x ≡ Some e → has_feature s.line x ≡ false
  pub distinct : IsNumbering (map (λ e. e.name) s.entities)

-- a body, from no facts and nothing set; Result is set at its end
pub record ValidRoutine (s : Setting) (body : Inss) : Type 0 where
  pub body_valid : ValidCompound s [] [] body
  pub result_set : ResultIsSet (set_after_all [] body) s.result

abbrev pub ValidKind : Setting → KindT → Type 0
ValidKind s (routine locals body) = ValidRoutine s body
ValidKind s _ = Unit {0}

-- a declaration of the class c, which has the number d
pub record ValidDeclaration (u : List ClassT) (d : ℕ) (c : ClassT) (x : DeclT) : Type 0 where
  pub entities : ValidEntities (in_body u d c x)
  pub body : ValidKind (in_body u d c x) x.kind

-- each declaration that has a name
abbrev pub ValidClass : List ClassT → ℕ → ClassT → Type 0
ValidClass u d c = (n : List ℕ) (x : DeclT) → declaration_of c n ≡ Some x → ValidDeclaration u d c x

-- ---- the laws

pub record NoFaultInBodies : Type 0 where
  -- of a class
  pub class : (u : List ClassT) (d : ℕ) (c : ClassT) → class_body_faults u d c ≡ [] → ValidClass u d c
  -- of given classes, by their numbers; those before are the kernel's
  pub given :
      (given : List ClassT) → IsNone (GivenBodiesBroken given)
      → (d : ℕ) (c : ClassT) → kernel_count ≤ d → slice_get (universe given) d ≡ Some c
      → ValidClass (universe given) d c
