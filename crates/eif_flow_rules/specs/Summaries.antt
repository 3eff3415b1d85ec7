-- What bodies need and set on the objects of a class.
use Rattle.std.specs.Prelude.{ℕ, Bool, false, not, List, length}
use Rattle.std.specs.List.{filter}
use Rattle.std.specs.Option.{option_and_then, option_map_or}
use Rattle.eif_base.specs.Numbering.{is_among}
use Rattle.eif_tree.specs.Tree.{ClassT}
use Rattle.eif_classes.specs.Entries.{Declaration}
use Rattle.eif_classes.specs.Features.{fields}
use Rattle.eif_system.specs.Lineage.{Line}
use Rattle.eif_classes.specs.Signatures.{signature}
use Rattle.eif_classes.specs.Types.{is_self_initialising}
use Rattle.eif_flow_rules.specs.CallPaths.{leads_within}
use Rattle.eif_flow_rules.specs.NeedsAndSets.{Summary, summary_by}
use Rattle.eif_flow_rules.specs.VersionFlows.{version_flow, declared_above}

-- the field is due: it has no value at the start
abbrev pub is_due : List ClassT → Line → List ℕ → Bool
is_due u l n =
    option_map_or (λ t. not (is_self_initialising t)) (option_and_then (λ s. s.result) (signature u l n)) false

-- in the order of their names
abbrev pub due_fields : List ClassT → Line → List (List ℕ)
due_fields u l = filter (is_due u l) (fields l)

-- no path of calls without a circle has more
abbrev pub most_calls : List ClassT → Line → ℕ
most_calls u l = length (declared_above u l)

-- a path of calls leads from the body x to the body y
abbrev pub leads : List ClassT → Line → Declaration → Declaration → Bool
leads u l x y = leads_within (version_flow u l) (most_calls u l) x y

-- what the body needs and sets; one that leads to itself needs all fields and sets none
abbrev pub summary : List ClassT → Line → Declaration → Summary
summary u l x = summary_by (is_among (due_fields u l)) (version_flow u l) (most_calls u l) x

-- as lists, in the order of their names
abbrev pub needed_fields : List ClassT → Line → Declaration → List (List ℕ)
needed_fields u l x = filter (summary u l x).needs (due_fields u l)

abbrev pub set_fields : List ClassT → Line → Declaration → List (List ℕ)
set_fields u l x = filter (summary u l x).sets (due_fields u l)
