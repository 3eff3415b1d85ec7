-- What holds of a name, a call and Precursor without faults. The result is what the use needs: the type of the value,
-- or none where it stands as an instruction.
use Rattle.std.specs.Prelude.{◌≡◌, ℕ, true, false, List, [], ◌∷◌, ◌++◌, Option, Some}
use Rattle.std.specs.Option.{option_map}
use Rattle.eif_base.specs.declared.place.Place.{Place}
use Rattle.eif_tree.specs.declared.tree.NameAt.{NameAt}
use Rattle.eif_tree.specs.ExpressionPlaces.{place_of}
use Rattle.eif_tree.specs.Tree.{Ex, unqualified, precursor, qualified, Exs, no_exs, and_ex}
use Rattle.eif_classes.specs.Constraints.{is_attached}
use Rattle.eif_classes.specs.Precursors as versions
use Rattle.eif_classes.specs.Signatures.{Signature, SignedEntry, signature, with_actuals}
use Rattle.eif_classes.specs.Types.{TyT}
use Rattle.eif_body_rules.specs.CallRules.{Argument, base_line, base_actuals, inherited}
use Rattle.eif_body_rules.specs.ExpressionTypes.{judge, judge_all}
use Rattle.eif_body_rules.specs.Facts.{Fact, is_known_attached}
use Rattle.eif_body_rules.specs.InstructionFaults.{judge_each}
use Rattle.eif_body_rules.specs.Outcomes.{outcome}
use Rattle.eif_body_rules.specs.Settings.{Setting, fits, Meaning, test_local, entity, feature, unknown, meaning, seen_type}
use Rattle.eif_body_rules.specs.TestRules.{test_names}
use Rattle.eif_valid_bodies.specs.Valid.{Valid, HasType}

-- ---- arguments

-- the first, and those behind it, by the judgement that they have
pub record FirstArgument
    (e : Ex) (args : List Argument) (First : TyT → Type 0) (Rest : List Argument → Type 0)
    : Type 0 where
  pub type : TyT
  pub rest : List Argument
  pub first_valid : First type
  pub rest_valid : Rest rest
  pub is : args ≡ record { place = place_of e; type = type } ∷ rest

-- as many as formals, and each conforms to its formal
abbrev pub Fit : Setting → List Argument → List TyT → Type 0
Fit s [] [] = Unit {0}
Fit s [] (t ∷ ts) = ⊥
Fit s (a ∷ args) [] = ⊥
Fit s (a ∷ args) (t ∷ ts) = (fits s a.type t ≡ true) × Fit s args ts

-- a feature with that signature is called with fitting arguments; none of its types has too many names
pub record IsCalled (s : Setting) (args : List Argument) (g : Signature) : Type 0 where
  pub fit : Fit s args g.arguments
  pub short : (outcome g).is_long ≡ false

-- ---- calls

-- what a name denotes takes the arguments, and gives the result
abbrev pub Gives : Setting → List Fact → List ℕ → List Argument → Option TyT → Meaning → Type 0
Gives s k x args result (test_local t) = (args ≡ []) × HasType result × (t ≡ result)
Gives s k x args result (entity e) = (args ≡ []) × (Some (seen_type (is_known_attached k x) e.type) ≡ result)
Gives s k x args result (feature g) = IsCalled s args g × (g.result ≡ result)
Gives s k x args result unknown = ⊥

pub record ValidName
    (s : Setting) (k : List Fact) (n : List (List ℕ)) (x : List ℕ) (args : Exs) (result : Option TyT)
    : Type 0 where
  pub given : List Argument
  pub args_valid : Valid (judge_all s k n args) given
  pub gives : Gives s k x given result (meaning s k x)

pub record ValidPrecursor
    (s : Setting) (k : List Fact) (n : List (List ℕ)) (parent : Option NameAt) (args : Exs) (result : Option TyT)
    : Type 0 where
  pub given : List Argument
  pub version : SignedEntry
  pub args_valid : Valid (judge_all s k n args) given
  pub found : versions.precursor (λ e. e.entry) (option_map (λ n. n.name) parent) (inherited s) ≡ Some version
  pub called : IsCalled s given version.signature
  pub result_is : version.signature.result ≡ result

-- the target is attached, and its base class has the feature, whose signature has the target's actuals put in
pub record ValidCall
    (s : Setting) (k : List Fact) (n : List (List ℕ)) (e : Ex) (x : NameAt) (args : Exs) (result : Option TyT)
    : Type 0 where
  pub target : TyT
  pub given : List Argument
  pub signed : Signature
  pub target_valid : Valid (judge s k n e) target
  pub args_valid : Valid (judge_all s k (n ++ test_names e) args) given
  pub target_attached : is_attached s.universe s.number target ≡ true
  pub found : signature s.universe (base_line s target) x.name ≡ Some signed
  pub called : IsCalled s given (with_actuals (base_actuals s target) signed)
  pub result_is : (with_actuals (base_actuals s target) signed).result ≡ result

-- ---- the laws

pub record ValidArguments : Type 0 where
  pub none :
      (s : Setting) (k : List Fact) (n : List (List ℕ)) (given : List Argument)
      → Valid (judge_all s k n no_exs) given → given ≡ []
  pub more :
      (s : Setting) (k : List Fact) (n : List (List ℕ)) (e : Ex) (es : Exs) (given : List Argument)
      → Valid (judge_all s k n (and_ex e es)) given
      → FirstArgument e given (Valid (judge s k n e)) (Valid (judge_all s k (n ++ test_names e) es))
  -- each a whole expression, as in a creation
  pub none_whole :
      (s : Setting) (k : List Fact) (given : List Argument) → Valid (judge_each s k no_exs) given → given ≡ []
  pub more_whole :
      (s : Setting) (k : List Fact) (e : Ex) (es : Exs) (given : List Argument)
      → Valid (judge_each s k (and_ex e es)) given
      → FirstArgument e given (Valid (judge s k [] e)) (Valid (judge_each s k es))

-- as expressions
pub record ValidCalls : Type 0 where
  pub name :
      (s : Setting) (k : List Fact) (n : List (List ℕ)) (p : Place) (x : List ℕ) (args : Exs) (t : TyT)
      → Valid (judge s k n (unqualified p x args)) t → ValidName s k n x args (Some t)
  pub version :
      (s : Setting) (k : List Fact) (n : List (List ℕ)) (p : Place) (parent : Option NameAt) (args : Exs) (t : TyT)
      → Valid (judge s k n (precursor p parent args)) t → ValidPrecursor s k n parent args (Some t)
  pub on_target :
      (s : Setting) (k : List Fact) (n : List (List ℕ)) (p : Place) (e : Ex) (x : NameAt) (args : Exs) (t : TyT)
      → Valid (judge s k n (qualified p e x args)) t → ValidCall s k n e x args (Some t)
