-- What an instruction does. Assertions and variants are skipped.
use Rattle.std.specs.Prelude.{ℕ, zero, suc, Bool, if◌then◌else◌, List, Option}
use Rattle.eif_tree.specs.declared.tree.NameAt.{NameAt}
use Rattle.eif_tree.specs.Tree.{TypeT, Ins, assign, call, create, choose, loop, check, Inss, no_inss, and_ins, Branches, no_branches, and_branch, Otherwise, no_else, else_part}
use Rattle.eif_meaning.specs.Values.{Value, boolean, Seen, no_feature, not_boolean, cut_off, Does, ◌>>=◌, give, fail, some_or, need}
use Rattle.eif_meaning.specs.Frames.{Frame}
use Rattle.eif_meaning.specs.Creations.{create_object}
use Rattle.eif_meaning.specs.Assignments.{set_target, created_type}
use Rattle.eif_meaning.specs.Evaluation.{written_name, evaluate, evaluate_all, value_of}

-- the BOOLEAN of a condition or an exit
abbrev pub condition : {A : Type 0} → Value → (Bool → Does A) → Does A
condition (boolean b) f = f b
condition _ f = fail not_boolean

-- the exit, and at most so many turns of the body; a turn past the last is cut off
abbrev pub run_loop : ℕ → Does Seen → Does (Unit {0}) → Does (Unit {0})
run_loop zero exit body =
    exit >>= (λ v. condition v.value (λ b. if b then give tt else (λ s. cut_off s.store.printed)))
run_loop (suc n) exit body =
    exit >>= (λ v. condition v.value (λ b. if b then give tt else (body >>= (λ _. run_loop n exit body))))

-- the arguments are there; the object is attached to its target after its creator ran
abbrev pub run_creation : Frame → Option TypeT → NameAt → Option NameAt → List Value → Does (Unit {0})
run_creation c t x f vs =
    ((λ s. some_or no_feature (created_type c t x.name s) (create_object c (written_name f) vs) s) >>= need)
    >>= (λ v. set_target c x.name v.value)

abbrev mutual
  -- a source is evaluated before its target is set
  pub execute : Frame → Ins → Does (Unit {0})
  execute c (assign x e) = value_of c e >>= (λ v. set_target c x.name v.value)
  execute c (call e) = evaluate c e >>= (λ _. give tt)
  execute c (create p t x f args) = evaluate_all c args >>= run_creation c t x f
  execute c (choose branches otherwise) = execute_branches c branches (execute_otherwise c otherwise)
  execute c (loop start claims exit body variant) =
      execute_all c start >>= (λ _. run_loop c.turns (value_of c exit) (execute_all c body))
  execute c (check claims) = give tt

  -- one after the other
  pub execute_all : Frame → Inss → Does (Unit {0})
  execute_all c no_inss = give tt
  execute_all c (and_ins i is) = execute c i >>= (λ _. execute_all c is)

  -- the first branch whose condition holds, or else the last step
  pub execute_branches : Frame → Branches → Does (Unit {0}) → Does (Unit {0})
  execute_branches c no_branches last = last
  execute_branches c (and_branch e is bs) last =
      value_of c e >>= (λ v. condition v.value (λ b. if b then execute_all c is else execute_branches c bs last))

  -- a missing `else` does nothing
  pub execute_otherwise : Frame → Otherwise → Does (Unit {0})
  execute_otherwise c no_else = give tt
  execute_otherwise c (else_part is) = execute_all c is
