-- The run of a system: bodies at levels, from the root on.
use Rattle.std.specs.Prelude.{ℕ, zero, suc, if◌then◌else◌, List, [], ◌∷◌, Option, Some, None}
use Rattle.eif_tree.specs.Tree.{TypeT, KindT, constant, routine}
use Rattle.eif_classes.specs.Entries.{Declaration}
use Rattle.eif_classes.specs.Types.{no_actuals}
use Rattle.eif_meaning.specs.Values.{Value, reference, Store, Wrong, unset, no_feature, Outcome, done, stopped, cut_off, wrong, Does, after, ◌>>=◌, give, fail, some_or, need}
use Rattle.eif_meaning.specs.KernelBodies.{BuiltIn}
use Rattle.eif_meaning.specs.System.{System}
use Rattle.eif_meaning.specs.Objects.{new_object}
use Rattle.eif_meaning.specs.Frames.{Body, Runner, Frame, argument_names, arguments_by, first_state}
use Rattle.eif_meaning.specs.Calls.{run_declaration}
use Rattle.eif_meaning.specs.BuiltIns.{run_built_in}
use Rattle.eif_meaning.specs.Evaluation.{evaluate_literal}
use Rattle.eif_meaning.specs.Execution.{execute_all}

-- ---- bodies

-- a function gives its `Result` at its end
abbrev pub finish : Option TypeT → Does (Option Value)
finish None = give None
finish (Some t) = λ s. some_or unset s.result (λ v. give (Some v)) s

-- a written body; a constant gives its literal
abbrev pub run_written : Frame → KindT → Does (Option Value)
run_written c (routine locals body) = execute_all c body >>= (λ _. finish c.tree.result_type)
run_written c (constant x) = (evaluate_literal x >>= need) >>= (λ v. give (Some v.value))
run_written c _ = fail no_feature

-- a body that is built in or written
abbrev pub run_code : Frame → List Value → Option BuiltIn → Does (Option Value)
run_code c vs None = run_written c c.tree.kind
run_code c vs (Some b) = run_built_in c b vs

-- the frame of a body on a value
abbrev pub frame : System → ℕ → Runner → Value → Body → List Value → Frame
frame system turns again v b vs = record {
  system = system;
  turns = turns;
  again = again;
  current = v;
  body = b;
  argument = arguments_by (argument_names b.tree) vs;
}

-- bodies with so many levels of calls, and so many turns of each loop: a call past the last level is cut off
abbrev pub level : System → ℕ → ℕ → Runner
level system turns zero v b vs s = cut_off s.printed
level system turns (suc n) v b vs s =
    after (run_code (frame system turns (level system turns n) v b vs) vs (system.built_in b.class_number b.name)
    (first_state system b s)) (λ t a. done t.store a)

-- ---- the root

-- one object of the root class, which has no formals
abbrev pub root_store : System → ℕ → Store
root_store system d = record {
  heap = new_object system (record { class_number = d; actuals = no_actuals }) ∷ [];
  printed = [];
}

-- the call of the root procedure, which has level 1
abbrev pub run_root : ℕ → System → ℕ → Option Declaration → Outcome Store (Option Value)
run_root n system d None = wrong no_feature []
run_root n system d (Some x) = run_declaration system (level system n n) (reference 0) x [] (root_store system d)

-- how a run ended, with the bytes printed
pub data Ran : Type 0 where
  finished : List ℕ → Ran
  halted : List ℕ → Ran
  unfinished : List ℕ → Ran
  went_wrong : Wrong → List ℕ → Ran

-- the end of an outcome
abbrev pub ran : {A : Type 0} → Outcome Store A → Ran
ran (done s a) = finished s.printed
ran (stopped w) = halted w
ran (cut_off w) = unfinished w
ran (wrong k w) = went_wrong k w

-- the creation of the root class, where it may have instances
abbrev pub run_class : ℕ → System → List ℕ → Option ℕ → Ran
run_class n system procedure None = went_wrong no_feature []
run_class n system procedure (Some d) =
    if system.is_creatable d then ran (run_root n system d (system.origin d procedure))
    else went_wrong no_feature []

-- the creation of the root class by the root procedure, with at most n levels of calls and n turns of each loop
abbrev pub run : ℕ → System → List ℕ → List ℕ → Ran
run n system class_name procedure = run_class n system procedure (system.class_named class_name)

-- the run went wrong
abbrev pub IsWrong : Ran → Type 0
IsWrong (finished w) = ⊥
IsWrong (halted w) = ⊥
IsWrong (unfinished w) = ⊥
IsWrong (went_wrong k w) = Unit {0}

-- the run was cut off at its bound
abbrev pub IsUnfinished : Ran → Type 0
IsUnfinished (finished w) = ⊥
IsUnfinished (halted w) = ⊥
IsUnfinished (unfinished w) = Unit {0}
IsUnfinished (went_wrong k w) = ⊥
