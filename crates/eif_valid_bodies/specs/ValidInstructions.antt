-- What holds of instructions without faults: k is what is known where they stand, set the names that are surely set.
-- Assertions and variants aren't run, and nothing is said of them.
use Rattle.std.specs.Prelude.{◌≡◌, ℕ, Bool, true, false, List, [], Option, Some, None}
use Rattle.std.specs.Str.{bytes_eq}
use Rattle.eif_base.specs.declared.code.Code.TheVariants as code
use Rattle.eif_base.specs.declared.place.Place.{Place}
use Rattle.eif_tree.specs.declared.tree.NameAt.{NameAt}
use Rattle.eif_tree.specs.Members.{result_name}
use Rattle.eif_tree.specs.Tree.{TypeT, Ex, unqualified, precursor, qualified, Exs, Ins, assign, call, create, choose, loop, check, Inss, no_inss, and_ins, Branches, no_branches, and_branch, Otherwise, no_else, else_part}
use Rattle.eif_classes.specs.Types.{TyT}
use Rattle.eif_body_rules.specs.CallRules.{Argument}
use Rattle.eif_body_rules.specs.CreationRules.{of_written}
use Rattle.eif_body_rules.specs.ExpressionTypes.{judge}
use Rattle.eif_body_rules.specs.Facts.{Fact}
use Rattle.eif_body_rules.specs.InstructionFaults.{expression_faults, condition_faults, judge_each, of_target, compound_faults}
use Rattle.eif_body_rules.specs.KnownFacts.{known_after, known_after_all, known_in_loop, known_where, known_otherwise}
use Rattle.eif_body_rules.specs.LocalFlow.{set_after, set_after_all}
use Rattle.eif_body_rules.specs.OperatorRules.{boolean}
use Rattle.eif_body_rules.specs.Settings.{Setting, fits, Meaning, test_local, entity, feature, unknown, meaning}
use Rattle.eif_body_rules.specs.Targets.{is_attribute_name}
use Rattle.eif_valid_bodies.specs.SetReads.{SetReads, SetReadsIn, SetReadsEach}
use Rattle.eif_valid_bodies.specs.Valid.{Valid, TestsTyped}
use Rattle.eif_valid_bodies.specs.ValidCalls.{ValidName, ValidPrecursor, ValidCall}
use Rattle.eif_valid_bodies.specs.ValidNodes.{IsCreated}

-- ---- whole expressions

pub record ValidExpression (s : Setting) (k : List Fact) (set : List (List ℕ)) (e : Ex) : Type 0 where
  pub type : TyT
  pub valid : Valid (judge s k [] e) type
  pub reads : SetReads s k [] set e

-- a condition or an exit: its type conforms to BOOLEAN
pub record ValidCondition (s : Setting) (k : List Fact) (set : List (List ℕ)) (e : Ex) : Type 0 where
  pub type : TyT
  pub valid : Valid (judge s k [] e) type
  pub reads : SetReads s k [] set e
  pub truth : fits s type boolean ≡ true

-- ---- targets

-- a local or an attribute of that type
abbrev pub IsVariable : Setting → List ℕ → TyT → Meaning → Type 0
IsVariable s x t (test_local o) = ⊥
IsVariable s x t (entity e) = (e.is_local ≡ true) × (e.type ≡ t)
IsVariable s x t (feature g) = (is_attribute_name s x ≡ true) × (g.result ≡ Some t)
IsVariable s x t unknown = ⊥

abbrev pub IsTargetBy : Bool → Setting → List Fact → List ℕ → TyT → Type 0
IsTargetBy true s k x t = s.result ≡ Some t
IsTargetBy false s k x t = IsVariable s x t (meaning s k x)

-- Result, or a variable, of that type
abbrev pub IsTarget : Setting → List Fact → List ℕ → TyT → Type 0
IsTarget s k x t = IsTargetBy (bytes_eq x result_name) s k x t

-- ---- instructions

-- the source conforms to the target
pub record ValidAssign (s : Setting) (k : List Fact) (set : List (List ℕ)) (x : NameAt) (e : Ex) : Type 0 where
  pub source : TyT
  pub target : TyT
  pub source_valid : Valid (judge s k [] e) source
  pub reads : SetReads s k [] set e
  pub is_target : IsTarget s k x.name target
  pub fit : fits s source target ≡ true

-- a call without result; what is no call has a value, which is dropped
abbrev pub ValidStatement : Setting → List Fact → List (List ℕ) → Ex → Type 0
ValidStatement s k set (unqualified p x args) = ValidName s k [] x args None × SetReadsIn s k [] set args
ValidStatement s k set (precursor p x args) = ValidPrecursor s k [] x args None × SetReadsIn s k [] set args
ValidStatement s k set (qualified p e x args) =
    ValidCall s k [] e x args None × SetReads s k [] set (qualified p e x args)
ValidStatement s k set e = ValidExpression s k set e

-- what is made for a target of that type: the target's type in attached form, or the written one, which conforms to it
abbrev pub IsCreatedFor :
    Setting → Place → Option TypeT → Option NameAt → List Argument → TyT → Type 0
IsCreatedFor s p None y args t = IsCreated s (of_target p t y) args
IsCreatedFor s p (Some w) y args t =
    IsCreated s (of_written s code.Vgci p w y) args × (fits s (of_written s code.Vgci p w y).type t ≡ true)

pub record ValidCreate
    (s : Setting) (k : List Fact) (set : List (List ℕ)) (p : Place) (w : Option TypeT) (x : NameAt) (y : Option NameAt)
    (args : Exs)
    : Type 0 where
  pub given : List Argument
  pub target : TyT
  pub args_valid : Valid (judge_each s k args) given
  pub reads : SetReadsEach s k set args
  pub is_target : IsTarget s k x.name target
  pub created : IsCreatedFor s p w y given target

-- each part where its own facts are known
abbrev mutual
  pub ValidInstruction : Setting → List Fact → List (List ℕ) → Ins → Type 0
  ValidInstruction s k set (assign x e) = ValidAssign s k set x e
  ValidInstruction s k set (call e) = ValidStatement s k set e
  ValidInstruction s k set (create p w x y args) = ValidCreate s k set p w x y args
  ValidInstruction s k set (choose bs o) = ValidBranches s k set bs × ValidOtherwise s (known_otherwise s k bs) set o
  ValidInstruction s k set (loop start claims exit body variant) =
      ValidCompound s k set start
      × ValidCondition s (known_in_loop s k start body) (set_after_all set start) exit
      × ValidCompound s (known_where s (known_in_loop s k start body) false exit) (set_after_all set start) body
  ValidInstruction s k set (check claims) = Unit {0}

  pub ValidCompound : Setting → List Fact → List (List ℕ) → Inss → Type 0
  ValidCompound s k set no_inss = Unit {0}
  ValidCompound s k set (and_ins i is) =
      ValidInstruction s k set i × ValidCompound s (known_after s k i) (set_after set i) is

  pub ValidBranches : Setting → List Fact → List (List ℕ) → Branches → Type 0
  ValidBranches s k set no_branches = Unit {0}
  ValidBranches s k set (and_branch e is bs) =
      ValidCondition s k set e
      × ValidCompound s (known_where s k true e) set is
      × ValidBranches s (known_where s k false e) set bs

  pub ValidOtherwise : Setting → List Fact → List (List ℕ) → Otherwise → Type 0
  ValidOtherwise s k set no_else = Unit {0}
  ValidOtherwise s k set (else_part is) = ValidCompound s k set is

-- ---- the laws

pub record NoFaultIsValid : Type 0 where
  -- from no facts, as a body begins
  pub body : (s : Setting) (is : Inss) → compound_faults s [] [] is ≡ [] → ValidCompound s [] [] is
  -- where the tests that are known are typed
  pub compound :
      (s : Setting) (k : List Fact) (set : List (List ℕ)) (is : Inss)
      → TestsTyped k → compound_faults s k set is ≡ [] → ValidCompound s k set is
  pub expression :
      (s : Setting) (k : List Fact) (set : List (List ℕ)) (e : Ex)
      → TestsTyped k → expression_faults s k set e ≡ [] → ValidExpression s k set e
  pub condition :
      (s : Setting) (k : List Fact) (set : List (List ℕ)) (e : Ex)
      → TestsTyped k → condition_faults s k set e ≡ [] → ValidCondition s k set e

-- the tests that are known behind instructions are typed, where those before are
abbrev pub TestsStayTyped : Type 0
TestsStayTyped =
    (s : Setting) (k : List Fact) (is : Inss) → TestsTyped k → TestsTyped (known_after_all s k is)
