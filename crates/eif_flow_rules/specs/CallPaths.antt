-- Which body leads to which by unqualified calls and `Precursor`.
use Rattle.std.specs.Prelude.{◌≡◌, ℕ, zero, suc, ◌==◌, Bool, true, false, ◌&&◌, ◌||◌, ◌⊎◌, List, [], ◌∷◌}
use Rattle.std.specs.List.{list_any}
use Rattle.std.specs.Str.{bytes_eq}
use Rattle.eif_classes.specs.Entries.{Declaration}
use Rattle.eif_flow_rules.specs.FlowTrees.{Flow, callees}

-- two declarations of one name in one class are one body
abbrev pub same_body : Declaration → Declaration → Bool
same_body x y = (x.class_number == y.class_number) && bytes_eq x.name y.name

-- it is one of these
abbrev pub IsOneOf : List Declaration → Declaration → Type 0
IsOneOf [] x = ⊥
IsOneOf (y ∷ ys) x = (y ≡ x) ⊎ IsOneOf ys x

-- by what bodies do: a path of calls, of any length, leads from a body to the body y
pub data Leads (flow : Declaration → Flow) : Declaration → Declaration → Type 0 where
  call : (x z y : Declaration) → IsOneOf (callees (flow x)) z → same_body z y ≡ true → Leads flow x y
  further : (x z y : Declaration) → IsOneOf (callees (flow x)) z → Leads flow z y → Leads flow x y

-- the search for one of at most n calls
abbrev pub leads_within : (Declaration → Flow) → ℕ → Declaration → Declaration → Bool
leads_within flow zero x y = false
leads_within flow (suc n) x y = list_any (λ z. same_body z y || leads_within flow n z y) (callees (flow x))

-- what they call is one of them
abbrev pub IsClosed : (Declaration → Flow) → List Declaration → Type 0
IsClosed flow bodies = (x y : Declaration) → IsOneOf bodies x → IsOneOf (callees (flow x)) y → IsOneOf bodies y
