-- Where what a body needs is set, each of its nodes finds what it needs.
use Rattle.std.specs.Prelude.{◌≡◌, ℕ, true, List, [], length}
use Rattle.eif_base.specs.Numbering.{is_among}
use Rattle.eif_classes.specs.Entries.{Declaration}
use Rattle.eif_flow_rules.specs.CallPaths.{IsOneOf, IsClosed}
use Rattle.eif_flow_rules.specs.CreationFaults.{unset_needs}
use Rattle.eif_flow_rules.specs.FieldSets.{FieldSet, no_fields, only, common}
use Rattle.eif_flow_rules.specs.FlowTrees.{Flow, idle, reads, shows, sets, calls, in_turn, aside, one_of}
use Rattle.eif_flow_rules.specs.NeedsAndSets.{Summary, set_after, summary_by}

-- each field of the one set is in the other
abbrev pub Within : FieldSet → FieldSet → Type 0
Within s t = (n : List ℕ) → s n ≡ true → t n ≡ true

-- each node of the text finds what it needs, where the fields of s are set before the text
abbrev pub IsMet : FieldSet → (Declaration → Summary) → Flow → FieldSet → Type 0
IsMet all of idle s = Unit {0}
IsMet all of (reads p n) s = Within (common all (only n)) s
IsMet all of (shows p) s = Within all s
IsMet all of (sets n) s = Unit {0}
IsMet all of (calls p x) s = Within (common all (of x).needs) s
IsMet all of (in_turn a b) s = IsMet all of a s × IsMet all of b (set_after all of a s)
IsMet all of (aside a) s = IsMet all of a s
IsMet all of (one_of a b) s = IsMet all of a s × IsMet all of b s

-- of bodies that call each other alone
pub record BodyLaws (all : FieldSet) (flow : Declaration → Flow) (bodies : List Declaration) : Type 0 where
  pub needs : (x : Declaration) (s : FieldSet) → IsOneOf bodies x
      → Within (common all (summary_by all flow (length bodies) x).needs) s
      → IsMet all (summary_by all flow (length bodies)) (flow x) s
  pub sets : (x : Declaration) (s : FieldSet) → IsOneOf bodies x
      → Within (common all (summary_by all flow (length bodies) x).sets)
      (set_after all (summary_by all flow (length bodies)) (flow x) s)

-- a creator whose nodes need no field that isn't surely set there
abbrev pub CreatorLaw : Type 0
CreatorLaw =
    (due : List (List ℕ)) (of : Declaration → Summary) (t : Flow) → unset_needs due of t no_fields ≡ []
    → IsMet (is_among due) of t no_fields

-- of all bodies that call each other alone, and of every creator
abbrev pub NeedsAreMet : Type 0
NeedsAreMet =
    ((all : FieldSet) (flow : Declaration → Flow) (bodies : List Declaration) → IsClosed flow bodies
    → BodyLaws all flow bodies)
    × CreatorLaw
