-- A run that is not cut off is the same under larger bounds: one line for each form of the language.
use Rattle.std.proofs.Common.{◌≡◌, ℕ, zero, suc, ◌≤◌, Bool, true, false, List, [], ◌∷◌, Option, Some, None, refl, ap, arith}
use Rattle.std.specs.Prelude.{if◌then◌else◌, codes}
use Rattle.std.specs.Option.{option_and_then}
use Rattle.eif_tree.specs.declared.tree.NameAt.{NameAt}
use Rattle.eif_tree.specs.Tree.{TypeT, Ex, literal, void_value, current_value, result_value, unqualified, precursor, qualified, creation, test, paren, unary, binary, Exs, no_exs, and_ex, Ins, assign, call, create, choose, loop, check, Inss, no_inss, and_ins, Branches, no_branches, and_branch, Otherwise, no_else, else_part, KindT, attribute, constant, deferred_body, routine}
use Rattle.eif_classes.specs.Entries.{Declaration}
use Rattle.eif_classes.specs.Features.{is_attribute}
use Rattle.eif_classes.specs.Types.{TyT}
use Rattle.eif_meaning.specs.Values.{Value, reference, ClassType, Object, Store, Seen, void_target, no_feature, Outcome, done, stopped, cut_off, wrong, Does, give, fail, some_or, need}
use Rattle.eif_meaning.specs.KernelBodies.{BuiltIn, do_nothing, out, print, code, make_empty, string_count, is_empty, string_item, append, make_filled, array_item, put, array_count, lower, upper}
use Rattle.eif_meaning.specs.System.{Version, System}
use Rattle.eif_meaning.specs.KernelTypes.{out_name}
use Rattle.eif_meaning.specs.Objects.{new_object, object_of, object_at, allocate}
use Rattle.eif_meaning.specs.Frames.{Body, Runner, Frame, written_type, closed_type, Entity, entity, takes, first_state}
use Rattle.eif_meaning.specs.Operands.{as_bytes}
use Rattle.eif_meaning.specs.Operators.{asks_right}
use Rattle.eif_meaning.specs.Calls.{body_on, run_body, run_declaration, enter, read_field, use_feature, feature_of, is_void, unmarked, seen_class, through, call_on, entity_or_feature, call_name, call_version}
use Rattle.eif_meaning.specs.Creations.{creator_name, make_of, create_object}
use Rattle.eif_meaning.specs.Assignments.{set_target, created_type}
use Rattle.eif_meaning.specs.BuiltIns.{write, any_class, run_print, run_built_in}
use Rattle.eif_meaning.specs.Evaluation.{read_result, written_name, version, evaluate, evaluate_all, value_of}
use Rattle.eif_meaning.specs.Execution.{run_creation, execute, execute_all, execute_branches, execute_otherwise}
use Rattle.eif_meaning.specs.Run.{finish, run_written, run_code, frame, level, root_store, run_root, Ran, went_wrong, ran, run_class, IsUnfinished}
use Rattle.eif_meaning.specs.Growth.{RunsGrow}
use Rattle.eif_meaning.proofs.StepsGrow.{Grows, StepGrows, RunnerGrows, grows_after, step_same, step_bind, step_then, step_next, step_some, step_if, step_when, step_unless, step_condition, step_operator, step_bound, step_loop}

-- ---- calls

-- the frame with that bound on turns and that runner for its calls
abbrev within : Frame → ℕ → Runner → Frame
within c n r = record c { turns = n; again = r }

body_grows : (r q : Runner) → RunnerGrows r q → (v : Value) (vs : List Value) (o : Option Body) (s : Store)
    → Grows (run_body r v vs o s) (run_body q v vs o s)
body_grows r q ahead v vs None s = refl
body_grows r q ahead v vs (Some b) s = by_count (takes b.tree vs)
  where
    by_count : (t : Bool)
        → Grows (if t then r v b vs s else wrong no_feature s.printed)
        (if t then q v b vs s else wrong no_feature s.printed)
    by_count true = ahead v b vs s
    by_count false = refl

declaration_grows : (system : System) (r q : Runner) → RunnerGrows r q
    → (v : Value) (d : Declaration) (vs : List Value) (s : Store)
    → Grows (run_declaration system r v d vs s) (run_declaration system q v d vs s)
declaration_grows system r q ahead v d vs s =
    body_grows r q ahead v vs (option_and_then (body_on system d) (object_of s.heap v)) s

module _ (c : Frame) (m n : ℕ) (r q : Runner) (le : m ≤ n) (ahead : RunnerGrows r q) where
  enter_grows : (v : Value) (d : Declaration) (vs : List Value)
      → StepGrows (enter (within c m r) v d vs) (enter (within c n q) v d vs)
  enter_grows v d vs s =
      grows_after (run_declaration c.system r v d vs s.store) (run_declaration c.system q v d vs s.store) _ _
      (declaration_grows c.system r q ahead v d vs s.store) (λ t a. refl)

  use_grows : (v : Value) (o : Object) (x : List ℕ) (vs : List Value) (d : Declaration)
      → StepGrows (use_feature (within c m r) v o x vs d) (use_feature (within c n q) v o x vs d)
  use_grows v o x vs d = step_unless (is_attribute d.tree.kind) _ _ (read_field o x vs) (enter_grows v d vs)

  feature_grows : (see : TyT → TyT) (v : Value) (b : ℕ) (x : List ℕ) (vs : List Value)
      → StepGrows (feature_of (within c m r) see v b x vs) (feature_of (within c n q) see v b x vs)
  feature_grows see v b x vs =
      step_some _ (c.system.signature b x) _ _ (λ g. step_then _ _ _ (step_next (object_at v) _ _
      (λ o. step_some _ (c.system.bind o.made.class_number b x) _ _
      (λ y. step_some _ (c.system.origin o.made.class_number y) _ _ (use_grows v o y vs)))))

  through_grows : (t : Option ClassType) (v : Value) (x : List ℕ) (vs : List Value)
      → StepGrows (through (within c m r) t v x vs) (through (within c n q) t v x vs)
  through_grows None v x vs = λ s. refl
  through_grows (Some t) v x vs = feature_grows _ v t.class_number x vs

  call_on_grows : (v : Seen) (x : List ℕ) (vs : List Value)
      → StepGrows (call_on (within c m r) v x vs) (call_on (within c n q) v x vs)
  call_on_grows v x vs =
      step_unless (is_void v.value) _ _ (fail void_target)
      (through_grows (seen_class c.system c.class_number v.type) v.value x vs)

  entity_grows : (x : List ℕ) (vs : List Value) (e : Option Entity)
      → StepGrows (entity_or_feature (within c m r) x vs e) (entity_or_feature (within c n q) x vs e)
  entity_grows x vs None = feature_grows _ c.current c.class_number x vs
  entity_grows x [] (Some e) = step_same (entity_or_feature c x [] (Some e))
  entity_grows x (v ∷ vs) (Some e) = λ s. refl

  name_grows : (x : List ℕ) (vs : List Value)
      → StepGrows (call_name (within c m r) x vs) (call_name (within c n q) x vs)
  name_grows x vs s = step_bound (s.test x) vs _ _ (entity_grows x vs (entity c.tree x)) s

  version_grows : (p : Option Version) (vs : List Value)
      → StepGrows (call_version (within c m r) p vs) (call_version (within c n q) p vs)
  version_grows None vs = λ s. refl
  version_grows (Some p) vs = step_then _ _ _ (enter_grows c.current p.declaration vs)

  make_grows : (f : Option (List ℕ)) (vs : List Value) (t : ClassType)
      → StepGrows (make_of (within c m r) f vs t) (make_of (within c n q) f vs t)
  make_grows f vs t =
      step_when (c.system.is_creatable t.class_number) _ _ (fail no_feature)
      (step_some _ (creator_name c t.class_number f) _ _ (λ x. step_some _ (c.system.origin t.class_number x) _ _
      (λ d. step_next (allocate (new_object c.system t)) _ _ (λ v. step_then _ _ (λ _. give v) (enter_grows v d vs)))))

  create_grows : (f : Option (List ℕ)) (vs : List Value) (t : TyT)
      → StepGrows (create_object (within c m r) f vs t) (create_object (within c n q) f vs t)
  create_grows f vs t =
      step_then _ _ _ (step_some no_feature (unmarked (closed_type c t)) (make_of (within c m r) f vs)
      (make_of (within c n q) f vs) (make_grows f vs))

  -- ---- expressions

  result_grows : (t : Option TypeT) → StepGrows (read_result (within c m r) t) (read_result (within c n q) t)
  result_grows None = λ s. refl
  result_grows (Some t) = step_same (read_result c (Some t))

  mutual
    evaluate_grows : (e : Ex) → StepGrows (evaluate (within c m r) e) (evaluate (within c n q) e)
    evaluate_grows (literal p x) = step_same (evaluate c (literal p x))
    evaluate_grows (void_value p) = step_same (evaluate c (void_value p))
    evaluate_grows (current_value p) = step_same (evaluate c (current_value p))
    evaluate_grows (result_value p) = result_grows c.tree.result_type
    evaluate_grows (unqualified p x args) = step_bind _ _ _ _ (evaluate_all_grows args) (name_grows x)
    evaluate_grows (precursor p f args) =
        step_bind _ _ _ _ (evaluate_all_grows args) (version_grows (version c (written_name f)))
    evaluate_grows (qualified p e x args) =
        step_bind _ _ _ _ (step_then _ _ need (evaluate_grows e))
        (λ v. step_bind _ _ _ _ (evaluate_all_grows args) (call_on_grows v x.name))
    evaluate_grows (creation p t f args) =
        step_bind _ _ _ _ (evaluate_all_grows args) (λ vs. create_grows (written_name f) vs (written_type c t))
    evaluate_grows (test p t y e) = step_then _ _ _ (step_then _ _ need (evaluate_grows e))
    evaluate_grows (paren p e) = evaluate_grows e
    evaluate_grows (unary p o e) = step_then _ _ _ (step_then _ _ need (evaluate_grows e))
    evaluate_grows (binary p o q l r) =
        step_bind _ _ _ _ (step_then _ _ need (evaluate_grows l))
        (λ v. step_operator (asks_right o) o v.value _ _ (step_then _ _ need (evaluate_grows r)))

    evaluate_all_grows : (es : Exs) → StepGrows (evaluate_all (within c m r) es) (evaluate_all (within c n q) es)
    evaluate_all_grows no_exs = step_same (give [])
    evaluate_all_grows (and_ex e es) =
        step_bind _ _ _ _ (step_then _ _ need (evaluate_grows e)) (λ v. step_then _ _ _ (evaluate_all_grows es))

  value_grows : (e : Ex) → StepGrows (value_of (within c m r) e) (value_of (within c n q) e)
  value_grows e = step_then _ _ need (evaluate_grows e)

  -- ---- instructions

  creation_grows : (t : Option TypeT) (x : NameAt) (f : Option NameAt) (vs : List Value)
      → StepGrows (run_creation (within c m r) t x f vs) (run_creation (within c n q) t x f vs)
  creation_grows t x f vs =
      step_then _ _ (λ v. set_target c x.name v.value) (step_then _ _ need (λ s. by_type (created_type c t x.name s) s))
    where
      by_type : (o : Option TyT)
          → StepGrows (some_or no_feature o (create_object (within c m r) (written_name f) vs))
          (some_or no_feature o (create_object (within c n q) (written_name f) vs))
      by_type o = step_some _ o _ _ (create_grows (written_name f) vs)

  mutual
    execute_grows : (i : Ins) → StepGrows (execute (within c m r) i) (execute (within c n q) i)
    execute_grows (assign x e) = step_then _ _ (λ v. set_target c x.name v.value) (value_grows e)
    execute_grows (call e) = step_then _ _ _ (evaluate_grows e)
    execute_grows (create p t x f args) = step_bind _ _ _ _ (evaluate_all_grows args) (creation_grows t x f)
    execute_grows (choose bs o) = branches_grow bs _ _ (otherwise_grows o)
    execute_grows (loop is claims e b v) =
        step_bind _ _ _ _ (all_grow is) (λ u. step_loop m n le _ _ _ _ (value_grows e) (all_grow b))
    execute_grows (check claims) = step_same (give tt)

    all_grow : (is : Inss) → StepGrows (execute_all (within c m r) is) (execute_all (within c n q) is)
    all_grow no_inss = step_same (give tt)
    all_grow (and_ins i is) = step_bind _ _ _ _ (execute_grows i) (λ u. all_grow is)

    branches_grow : (bs : Branches) (k l : Does (Unit {0}))
        → StepGrows k l → StepGrows (execute_branches (within c m r) bs k) (execute_branches (within c n q) bs l)
    branches_grow no_branches k l h = h
    branches_grow (and_branch e is bs) k l h =
        step_bind _ _ _ _ (value_grows e)
        (λ v. step_condition v.value _ _ (λ b. step_if b _ _ _ _ (all_grow is) (branches_grow bs k l h)))

    otherwise_grows : (o : Otherwise)
        → StepGrows (execute_otherwise (within c m r) o) (execute_otherwise (within c n q) o)
    otherwise_grows no_else = step_same (give tt)
    otherwise_grows (else_part is) = all_grow is

  -- ---- bodies

  written_grows : (k : KindT) → StepGrows (run_written (within c m r) k) (run_written (within c n q) k)
  written_grows (routine ls is) = step_then _ _ (λ _. finish c.tree.result_type) (all_grow is)
  written_grows (constant x) = step_same (run_written c (constant x))
  written_grows attribute = λ s. refl
  written_grows deferred_body = λ s. refl

  print_grows : (v : Value) → StepGrows (run_print (within c m r) v) (run_print (within c n q) v)
  print_grows v =
      step_unless (is_void v) _ _ (write (codes "Void")) (step_then _ _ (λ w. as_bytes w.value write)
      (step_then _ _ need (through_grows (Some any_class) v out_name [])))

  -- only `print` calls
  built_in_grows : (b : BuiltIn) (vs : List Value)
      → StepGrows (run_built_in (within c m r) b vs) (run_built_in (within c n q) b vs)
  built_in_grows print [] = λ s. refl
  built_in_grows print (v ∷ []) = print_grows v
  built_in_grows print (v ∷ (w ∷ vs)) = λ s. refl
  built_in_grows do_nothing vs = step_same (run_built_in c do_nothing vs)
  built_in_grows out vs = step_same (run_built_in c out vs)
  built_in_grows code vs = step_same (run_built_in c code vs)
  built_in_grows make_empty vs = step_same (run_built_in c make_empty vs)
  built_in_grows string_count vs = step_same (run_built_in c string_count vs)
  built_in_grows is_empty vs = step_same (run_built_in c is_empty vs)
  built_in_grows string_item vs = step_same (run_built_in c string_item vs)
  built_in_grows append vs = step_same (run_built_in c append vs)
  built_in_grows make_filled vs = step_same (run_built_in c make_filled vs)
  built_in_grows array_item vs = step_same (run_built_in c array_item vs)
  built_in_grows put vs = step_same (run_built_in c put vs)
  built_in_grows array_count vs = step_same (run_built_in c array_count vs)
  built_in_grows lower vs = step_same (run_built_in c lower vs)
  built_in_grows upper vs = step_same (run_built_in c upper vs)

  code_grows : (vs : List Value) (b : Option BuiltIn)
      → StepGrows (run_code (within c m r) vs b) (run_code (within c n q) vs b)
  code_grows vs None = written_grows c.tree.kind
  code_grows vs (Some b) = built_in_grows b vs

-- ---- levels

level_grows : (system : System) (t u : ℕ) → t ≤ u → (m n : ℕ) → m ≤ n
    → RunnerGrows (level system t m) (level system u n)
level_grows system t u tu zero n le v b vs s = tt
level_grows system t u tu (suc m) zero le v b vs s = absurd (omega arith)
level_grows system t u tu (suc m) (suc n) le v b vs s =
    let c : Frame = frame system t (level system t m) v b vs in
    grows_after _ _ _ _ (code_grows c t u (level system t m) (level system u n) tu
    (level_grows system t u tu m n (omega arith)) vs (system.built_in b.class_number b.name) (first_state system b s))
    (λ t a. refl)

root_grows : (m n : ℕ) → m ≤ n → (system : System) (d : ℕ) (o : Option Declaration)
    → Grows (run_root m system d o) (run_root n system d o)
root_grows m n le system d None = refl
root_grows m n le system d (Some x) =
    declaration_grows system (level system m m) (level system n n) (level_grows system m n le m n le) (reference 0) x []
    (root_store system d)

ran_same : {A : Type 0} (o p : Outcome Store A) → Grows o p → (IsUnfinished (ran o) → ⊥) → ran p ≡ ran o
ran_same (done s a) p e h = ap ran e
ran_same (stopped w) p e h = ap ran e
ran_same (cut_off w) p e h = absurd (h tt)
ran_same (wrong k w) p e h = ap ran e

if_same : (b : Bool) (x y z : Ran) → ((IsUnfinished x → ⊥) → y ≡ x) → (IsUnfinished (if b then x else z) → ⊥)
    → (if b then y else z) ≡ (if b then x else z)
if_same true x y z f h = f h
if_same false x y z f h = refl

class_grows : (m n : ℕ) → m ≤ n → (system : System) (procedure : List ℕ) (o : Option ℕ)
    → (IsUnfinished (run_class m system procedure o) → ⊥)
    → run_class n system procedure o ≡ run_class m system procedure o
class_grows m n le system procedure None = λ h. refl
class_grows m n le system procedure (Some d) =
    if_same (system.is_creatable d) _ _ (went_wrong no_feature [])
    (ran_same (run_root m system d (system.origin d procedure)) _
    (root_grows m n le system d (system.origin d procedure)))

pub run_grows : RunsGrow
run_grows n m system class_name procedure le = class_grows n m le system procedure (system.class_named class_name)
