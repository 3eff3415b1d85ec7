-- What stays known along instructions: an instruction forgets no more than the locals that it assigns.
use Rattle.std.specs.Prelude.{◌≡◌, ℕ, Bool, true, false, List, [], Option, Some}
use Rattle.eif_tree.specs.Tree.{Ex, Exs, choose, loop, Inss, Branches, no_branches, and_branch, Otherwise, no_else, else_part}
use Rattle.eif_classes.specs.Types.{TyT}
use Rattle.eif_body_rules.specs.ExpressionTypes.{judge}
use Rattle.eif_body_rules.specs.Facts.{Fact, Usable, is_known_attached, usable_test}
use Rattle.eif_body_rules.specs.KnownFacts.{assigned_in, without, known_after, known_after_all, known_in_loop, known_where}
use Rattle.eif_body_rules.specs.Settings.{Setting}
use Rattle.eif_valid_bodies.specs.Valid.{Valid}

-- what the first facts say of a name, the second say too
pub record Fewer (k l : List Fact) : Type 0 where
  pub attached : (x : List ℕ) → is_known_attached k x ≡ true → is_known_attached l x ≡ true
  pub usable : (x : List ℕ) (u : Usable) → usable_test k x ≡ Some u → usable_test l x ≡ Some u

-- ---- the law

pub record KnownStays : Type 0 where
  -- where a condition without faults has told what it tells
  pub condition :
      (s : Setting) (k : List Fact) (b : Bool) (e : Ex) (t : TyT)
      → Valid (judge s k [] e) t → Fewer k (known_where s k b e)
  pub compound :
      (s : Setting) (k : List Fact) (is : Inss) → Fewer (without s (assigned_in is) k) (known_after_all s k is)
  -- behind a branch, and behind the later ones
  pub branch :
      (s : Setting) (k : List Fact) (e : Ex) (is : Inss) (bs : Branches) (o : Otherwise) (t : TyT)
      → Valid (judge s k [] e) t
      → Fewer (known_after s k (choose (and_branch e is bs) o)) (known_after_all s (known_where s k true e) is)
  pub later :
      (s : Setting) (k : List Fact) (e : Ex) (is : Inss) (bs : Branches) (o : Otherwise) (t : TyT)
      → Valid (judge s k [] e) t
      → Fewer (known_after s k (choose (and_branch e is bs) o)) (known_after s (known_where s k false e) (choose bs o))
  pub else_branch :
      (s : Setting) (k : List Fact) (is : Inss)
      → Fewer (known_after s k (choose no_branches (else_part is))) (known_after_all s k is)
  pub no_branch : (s : Setting) (k : List Fact) → Fewer (known_after s k (choose no_branches no_else)) k
  -- at the first turn of a loop, from each turn to the next, and behind it
  pub first_turn :
      (s : Setting) (k : List Fact) (start body : Inss)
      → Fewer (known_in_loop s k start body) (known_after_all s k start)
  pub next_turn :
      (s : Setting) (k : List Fact) (start : Inss) (exit : Ex) (body : Inss) (t : TyT)
      → Valid (judge s (known_in_loop s k start body) [] exit) t
      → Fewer (known_in_loop s k start body)
      (known_after_all s (known_where s (known_in_loop s k start body) false exit) body)
  pub last_turn :
      (s : Setting) (k : List Fact) (start : Inss) (claims : Exs) (exit : Ex) (body : Inss) (variant : Option Ex)
      → Fewer (known_after s k (loop start claims exit body variant)) (known_in_loop s k start body)
