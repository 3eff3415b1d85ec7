-- Where no read is found unset, each is of one that is set.
use Rattle.std.proofs.Common.{◌≡◌, ℕ, Bool, true, false, List, [], ◌++◌, Option, Some, None, refl}
use Rattle.std.specs.Prelude.{if◌then◌else◌, not, ◌&&◌, ◌||◌}
use Rattle.std.specs.Option.{option_map_or}
use Rattle.eif_base.specs.declared.fault.Fault.{Fault}
use Rattle.eif_base.specs.declared.place.Place.{Place}
use Rattle.eif_base.specs.Numbering.{is_among}
use Rattle.eif_tree.specs.Members.{result_name}
use Rattle.eif_tree.specs.Tree.{Ex, literal, void_value, current_value, result_value, unqualified, precursor, qualified, creation, test, paren, unary, binary, Exs, no_exs, and_ex}
use Rattle.eif_classes.specs.Types.{TyT, is_self_initialising}
use Rattle.eif_rules.specs.FaultForms.{fault_where}
use Rattle.eif_body_rules.specs.Conditions.{goes_on, at_right}
use Rattle.eif_body_rules.specs.ExpressionTypes.{facts}
use Rattle.eif_body_rules.specs.Facts.{Fact}
use Rattle.eif_body_rules.specs.InstructionFaults.{all_unset_reads}
use Rattle.eif_body_rules.specs.LocalFlow.{unset_read, unset_local, unset_name, unset, unset_in}
use Rattle.eif_body_rules.specs.Settings.{Setting, Meaning, test_local, entity, feature, unknown, meaning}
use Rattle.eif_body_rules.specs.TestRules.{local_names, test_names}
use Rattle.eif_valid_bodies.specs.SetReads.{IsSet, LocalIsSet, NameIsSet, ResultIsSet, SetReads, SetReadsIn, SetReadsEach}
use Rattle.eif_valid_bodies.proofs.Parts.{no_more, left_empty, right_empty}

-- neither is missing
pub set_by : (a b : Bool) (f : Fault) → fault_where (not a && not b) f ≡ [] → (a || b) ≡ true
set_by true b f h = refl
set_by false true f h = refl
set_by false false f h = absurd (no_more h)

module _ (s : Setting) (set : List (List ℕ)) where
  read_set : (p : Place) (x : List ℕ) (t : TyT) → unset_read s set p x t ≡ [] → IsSet set x t
  unfolding unset_read
  read_set p x t h = set_by (is_self_initialising t) (is_among set x) _ h

  local_by : (b : Bool) (p : Place) (x : List ℕ) (t : TyT) → (if b then unset_read s set p x t else []) ≡ [] → b ≡ true
      → IsSet set x t
  local_by true p x t h is = read_set p x t h
  local_by false p x t h is = cc

  local_set : (p : Place) (x : List ℕ) (m : Meaning) → unset_local s set p x m ≡ [] → LocalIsSet set x m
  local_set p x (entity e) h = local_by e.is_local p x e.type h
  local_set p x (test_local o) h = tt
  local_set p x (feature g) h = tt
  local_set p x unknown h = tt

  name_set : (k : List Fact) (p : Place) (x : List ℕ) (args : Exs) → unset_name s k set p x args ≡ []
      → NameIsSet s k set x args
  unfolding unset_name
  name_set k p x no_exs h = local_set p x (meaning s k x) h
  name_set k p x (and_ex e es) h = tt

  result_set : (p : Place) (o : Option TyT) → option_map_or (unset_read s set p result_name) o [] ≡ []
      → ResultIsSet set o
  result_set p None h = tt
  result_set p (Some t) h = read_set p result_name t h

  mutual
    pub set_reads : (k : List Fact) (n : List (List ℕ)) (e : Ex) → unset s k n set e ≡ [] → SetReads s k n set e
    set_reads k n (literal p x) h = tt
    set_reads k n (void_value p) h = tt
    set_reads k n (current_value p) h = tt
    set_reads k n (result_value p) h = result_set p s.result h
    set_reads k n (unqualified p x args) h =
        (set_reads_in k n args (left_empty _ _ h), name_set k p x args (right_empty (unset_in s k n set args) _ h))
    set_reads k n (precursor p x args) h = set_reads_in k n args h
    set_reads k n (qualified p e x args) h =
        let rest : unset_in s k (n ++ test_names e) set args ≡ [] = right_empty (unset s k n set e) _ h in
        (set_reads k n e (left_empty _ _ h), set_reads_in k (n ++ test_names e) args rest)
    set_reads k n (creation p t x args) h = set_reads_in k n args h
    set_reads k n (test p t local e) h = set_reads k (n ++ local_names local) e h
    set_reads k n (paren p e) h = set_reads k n e h
    set_reads k n (unary p o e) h = set_reads k n e h
    set_reads k n (binary p o q left right) h = (
      set_reads k n left (left_empty _ _ h),
      set_reads (at_right o k (facts s k n (goes_on o) left)) (n ++ test_names left) right
          (right_empty (unset s k n set left) _ h),
    )

    pub set_reads_in : (k : List Fact) (n : List (List ℕ)) (es : Exs) → unset_in s k n set es ≡ []
        → SetReadsIn s k n set es
    set_reads_in k n no_exs h = tt
    set_reads_in k n (and_ex e es) h =
        let rest : unset_in s k (n ++ test_names e) set es ≡ [] = right_empty (unset s k n set e) _ h in
        (set_reads k n e (left_empty _ _ h), set_reads_in k (n ++ test_names e) es rest)

  pub set_reads_each : (k : List Fact) (es : Exs) → all_unset_reads s k set es ≡ [] → SetReadsEach s k set es
  set_reads_each k no_exs h = tt
  set_reads_each k (and_ex e es) h =
      (set_reads k [] e (left_empty _ _ h), set_reads_each k es (right_empty (unset s k [] set e) _ h))

-- the laws, for any names that are set
pub reads_set : (s : Setting) (k : List Fact) (n set : List (List ℕ)) (e : Ex) → unset s k n set e ≡ []
    → SetReads s k n set e
reads_set s k n set e h = set_reads s set k n e h

pub reads_set_in : (s : Setting) (k : List Fact) (n set : List (List ℕ)) (es : Exs) → unset_in s k n set es ≡ []
    → SetReadsIn s k n set es
reads_set_in s k n set es h = set_reads_in s set k n es h
