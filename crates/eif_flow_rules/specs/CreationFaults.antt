-- The sixth phase: creators. The kernel's classes and classes that are marked deferred are not judged.
use Rattle.std.specs.Prelude.{ℕ, ◌+◌, if◌then◌else◌, List, [], ◌∷◌, ◌++◌, map, flat_map, Option}
use Rattle.std.specs.List.{filter}
use Rattle.std.specs.Option.{option_map_or, option_to_list}
use Rattle.eif_base.specs.declared.code.Code.TheVariants as code
use Rattle.eif_base.specs.declared.fault.Fault.{Fault}
use Rattle.eif_base.specs.declared.place.Place.{Place}
use Rattle.eif_base.specs.Appends.{In, SomeOf}
use Rattle.eif_base.specs.Numbering.{is_among}
use Rattle.eif_tree.specs.declared.tree.NameAt.{NameAt}
use Rattle.eif_tree.specs.Tree.{CreatorsT, ClassT}
use Rattle.eif_classes.specs.Creators.{default_creator}
use Rattle.eif_classes.specs.Entries.{Declaration}
use Rattle.eif_system.specs.Kernel.{kernel_count}
use Rattle.eif_system.specs.Lineage.{Line, line_of}
use Rattle.eif_system.specs.TreeForms.{named}
use Rattle.eif_system.specs.Universe.{universe}
use Rattle.eif_rules.specs.FaultForms.{fault_in}
use Rattle.eif_flow_rules.specs.FieldSets.{FieldSet, no_fields, without}
use Rattle.eif_flow_rules.specs.FlowTrees.{Flow, idle, reads, shows, sets, calls, in_turn, aside, one_of}
use Rattle.eif_flow_rules.specs.FollowedBodies.{body_named}
use Rattle.eif_flow_rules.specs.NeedsAndSets.{Summary, set_after, needed_in}
use Rattle.eif_flow_rules.specs.Summaries.{due_fields, summary}
use Rattle.eif_flow_rules.specs.VersionFlows.{version_flow}

-- ---- nodes

-- those of the names that are in the set, each at the place
abbrev pub each_at : List (List ℕ) → Place → FieldSet → List NameAt
each_at due p s = map (named p) (filter s due)

-- the due fields that nodes of a text need before they are surely set, each at its node, where those of s are set
-- before the text
abbrev pub unset_needs : List (List ℕ) → (Declaration → Summary) → Flow → FieldSet → List NameAt
unset_needs due of idle s = []
unset_needs due of (reads p n) s = each_at due p (needed_in (is_among due) of (reads p n) s)
unset_needs due of (shows p) s = each_at due p (needed_in (is_among due) of (shows p) s)
unset_needs due of (sets n) s = []
unset_needs due of (calls p x) s = each_at due p (needed_in (is_among due) of (calls p x) s)
unset_needs due of (in_turn a b) s = unset_needs due of a s ++ unset_needs due of b (set_after (is_among due) of a s)
unset_needs due of (aside a) s = unset_needs due of a s
unset_needs due of (one_of a b) s = unset_needs due of a s ++ unset_needs due of b s

-- the due fields that aren't surely set behind a text with nothing set before it
abbrev pub unset_at_end : List (List ℕ) → (Declaration → Summary) → Flow → List (List ℕ)
unset_at_end due of t = filter (without (is_among due) (set_after (is_among due) of t no_fields)) due

-- ---- a creator of the class c

-- VEVI.3: a node of its own body needs a field that isn't surely set there
abbrev pub needs_unset : List (List ℕ) → (Declaration → Summary) → ClassT → NameAt → Flow → List Fault
needs_unset due of c creator t =
    map (λ n. fault_in c creator.name code.Vevi 3 n.place n.name) (unset_needs due of t no_fields)

-- VEVI.4: a field isn't surely set at the end of its body
abbrev pub leaves_unset : List (List ℕ) → (Declaration → Summary) → ClassT → NameAt → Flow → List Fault
leaves_unset due of c creator t =
    map (λ n. fault_in c creator.name code.Vevi 4 creator.place n) (unset_at_end due of t)

-- by its own text, also where that leads to itself
abbrev pub own_text_faults : List (List ℕ) → (Declaration → Summary) → ClassT → NameAt → Flow → List Fault
own_text_faults due of c creator t = needs_unset due of c creator t ++ leaves_unset due of c creator t

-- by the text of the body that the class has for its name
abbrev pub creator_faults : List ClassT → Line → ClassT → NameAt → List Fault
creator_faults u l c creator =
    option_map_or (λ x. own_text_faults (due_fields u l) (summary u l) c creator (version_flow u l x))
    (body_named l creator.name) []

-- ---- a class

-- the names of its creators parts; without one the one creator stands at the class's name
abbrev pub named_creators : Option (List ℕ) → Place → List CreatorsT → List NameAt
named_creators default p [] = map (named p) (option_to_list default)
named_creators default p (part ∷ parts) = flat_map (λ part. part.names) (part ∷ parts)

-- each creator where it is named
abbrev pub creator_places : Line → ClassT → List NameAt
creator_places l c = named_creators (default_creator l) c.place c.creators

-- of each creator where it is named; a class that is marked deferred is not judged
abbrev pub class_faults : List ClassT → Line → ClassT → List Fault
class_faults u l c = if c.is_deferred then [] else flat_map (creator_faults u l c) (creator_places l c)

-- the class c has the number d
abbrev pub creation_faults : List ClassT → ℕ → ClassT → List Fault
creation_faults u d c = class_faults u (line_of u d) c

-- ---- the given classes

-- a creator of one of these breaks a rule
abbrev pub CreationBroken : List ClassT → Fault → Type 0
CreationBroken given f =
    SomeOf given (λ i c f. In (creation_faults (universe given) (kernel_count + i) c) f) f
