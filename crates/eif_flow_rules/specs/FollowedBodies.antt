-- The bodies that are followed for a class, and what is told of them.
use Rattle.std.specs.Prelude.{ℕ, Bool, ◌||◌, if◌then◌else◌, List, Option, Some, None}
use Rattle.std.specs.List.{filter_map, list_any}
use Rattle.std.specs.Option.{option_and_then}
use Rattle.eif_tree.specs.Tree.{ClassT}
use Rattle.eif_classes.specs.Creators.{creators}
use Rattle.eif_classes.specs.Entries.{Declaration}
use Rattle.eif_classes.specs.Features.{origin}
use Rattle.eif_system.specs.Lineage.{Line}
use Rattle.eif_flow_rules.specs.CallPaths.{same_body}
use Rattle.eif_flow_rules.specs.Summaries.{leads, needed_fields, set_fields}
use Rattle.eif_flow_rules.specs.VersionFlows.{body_in}

-- the body that a name of the class has
abbrev pub body_named : Line → List ℕ → Option Declaration
body_named l n = option_and_then body_in (origin l n)

-- the bodies of the creators
abbrev pub creator_bodies : Line → List Declaration
creator_bodies l = filter_map (λ c. body_named l c.name) (creators l)

-- the body of a creator, or one that such a body leads to
abbrev pub is_followed : List ClassT → Line → Declaration → Bool
is_followed u l x = list_any (λ b. same_body b x || leads u l b x) (creator_bodies l)

-- what it needs, and what it sets; nothing is told of a body that isn't followed
abbrev pub needs_told : List ClassT → Line → Declaration → Option (List (List ℕ))
needs_told u l x = if is_followed u l x then Some (needed_fields u l x) else None

abbrev pub sets_told : List ClassT → Line → Declaration → Option (List (List ℕ))
sets_told u l x = if is_followed u l x then Some (set_fields u l x) else None
