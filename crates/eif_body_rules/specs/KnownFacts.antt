-- What is known along instructions. What is known of arguments and of test's locals stays known in a compound.
use Rattle.std.specs.Prelude.{ℕ, Bool, true, false, ◌&&◌, if◌then◌else◌, List, [], ◌∷◌, ◌++◌, Option}
use Rattle.std.specs.Option.{option_map_or}
use Rattle.eif_base.specs.Numbering.{is_among}
use Rattle.eif_tree.specs.Tree.{Ex, Ins, assign, call, create, choose, loop, check, Inss, no_inss, and_ins, Branches, no_branches, and_branch, Otherwise, no_else, else_part}
use Rattle.eif_classes.specs.Constraints.{is_attached}
use Rattle.eif_classes.specs.Types.{TyT}
use Rattle.eif_body_rules.specs.ExpressionTypes.{type_of, told}
use Rattle.eif_body_rules.specs.Facts.{Fact, attached, forgotten}
use Rattle.eif_body_rules.specs.Settings.{Setting, is_local}

-- ---- the names that are targets of assignments and creations, at any depth

abbrev mutual
  pub assigned : Ins → List (List ℕ)
  assigned (assign x e) = x.name ∷ []
  assigned (call e) = []
  assigned (create p t x y args) = x.name ∷ []
  assigned (choose bs o) = assigned_by_branches bs ++ assigned_otherwise o
  assigned (loop start claims exit body variant) = assigned_in start ++ assigned_in body
  assigned (check claims) = []

  pub assigned_in : Inss → List (List ℕ)
  assigned_in no_inss = []
  assigned_in (and_ins i is) = assigned i ++ assigned_in is

  pub assigned_by_branches : Branches → List (List ℕ)
  assigned_by_branches no_branches = []
  assigned_by_branches (and_branch e is bs) = assigned_in is ++ assigned_by_branches bs

  pub assigned_otherwise : Otherwise → List (List ℕ)
  assigned_otherwise no_else = []
  assigned_otherwise (else_part is) = assigned_in is

-- ---- one instruction

-- without what is known of locals of those names, also where a test's local hides the local
unfoldable pub without : Setting → List (List ℕ) → List Fact → List Fact
without s xs k = forgotten (λ x. is_local s x && is_among xs x) k

-- that the local x is attached, where it is
unfoldable pub learned : Setting → List ℕ → Bool → List Fact
learned s x is_known = if is_local s x && is_known then attached x ∷ [] else []

-- the expression has a type that is attached
abbrev pub has_attached_type : Setting → Option TyT → Bool
has_attached_type s t = option_map_or (is_attached s.universe s.number) t false

-- nothing stays known of a local that the instruction assigns, but that it is attached after an assignment from an
-- attached type and after its creation, also where the assignment breaks a rule; what else is known stays
abbrev pub known_after : Setting → List Fact → Ins → List Fact
known_after s k (assign x e) = without s (x.name ∷ []) k ++ learned s x.name (has_attached_type s (type_of s k e))
known_after s k (create p t x y args) = without s (x.name ∷ []) k ++ learned s x.name true
known_after s k (call e) = k
known_after s k (choose bs o) = without s (assigned (choose bs o)) k
known_after s k (loop start claims exit body variant) = without s (assigned (loop start claims exit body variant)) k
known_after s k (check claims) = k

abbrev pub known_after_all : Setting → List Fact → Inss → List Fact
known_after_all s k no_inss = k
known_after_all s k (and_ins i is) = known_after_all s (known_after s k i) is

-- ---- inside an instruction

-- at each turn of a loop: in invariant, exit and variant, and where the body starts
abbrev pub known_in_loop : Setting → List Fact → Inss → Inss → List Fact
known_in_loop s k start body = without s (assigned_in body) (known_after_all s k start)

-- where the compound that a condition opens starts, if it has the value b
abbrev pub known_where : Setting → List Fact → Bool → Ex → List Fact
known_where s k b e = k ++ told s k b e

-- where none of the conditions holds
abbrev pub known_otherwise : Setting → List Fact → Branches → List Fact
known_otherwise s k no_branches = k
known_otherwise s k (and_branch e is bs) = known_otherwise s (known_where s k false e) bs
