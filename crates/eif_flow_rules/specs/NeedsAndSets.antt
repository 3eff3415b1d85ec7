-- What a text needs and what it surely sets of the fields of the object that it runs on, by what the bodies that it
-- calls need and set; and the same of bodies.
use Rattle.std.specs.Prelude.{zero, suc, ℕ, if◌then◌else◌}
use Rattle.eif_classes.specs.Entries.{Declaration}
use Rattle.eif_flow_rules.specs.CallPaths.{leads_within}
use Rattle.eif_flow_rules.specs.FieldSets.{FieldSet, no_fields, only, union, common, without}
use Rattle.eif_flow_rules.specs.FlowTrees.{Flow, idle, reads, shows, sets, calls, in_turn, aside, one_of}

-- what is needed, and what is surely set
pub record Summary : Type 0 where
  pub needs : FieldSet
  pub sets : FieldSet

-- which of all fields are surely set behind the text, where those of s are before it
abbrev pub set_after : FieldSet → (Declaration → Summary) → Flow → FieldSet → FieldSet
set_after all of idle s = s
set_after all of (reads p n) s = s
set_after all of (shows p) s = s
set_after all of (sets n) s = union s (common all (only n))
set_after all of (calls p x) s = union s (common all (of x).sets)
set_after all of (in_turn a b) s = set_after all of b (set_after all of a s)
set_after all of (aside a) s = s
set_after all of (one_of a b) s = common (set_after all of a s) (set_after all of b s)

-- which of all fields some node needs before they are surely set: a read its field, `Current` all, a call what the
-- body needs
abbrev pub needed_in : FieldSet → (Declaration → Summary) → Flow → FieldSet → FieldSet
needed_in all of idle s = no_fields
needed_in all of (reads p n) s = without (common all (only n)) s
needed_in all of (shows p) s = without all s
needed_in all of (sets n) s = no_fields
needed_in all of (calls p x) s = without (common all (of x).needs) s
needed_in all of (in_turn a b) s = union (needed_in all of a s) (needed_in all of b (set_after all of a s))
needed_in all of (aside a) s = needed_in all of a s
needed_in all of (one_of a b) s = union (needed_in all of a s) (needed_in all of b s)

-- of a text with nothing set before it
abbrev pub summary_of : FieldSet → (Declaration → Summary) → Flow → Summary
summary_of all of t = record { needs = needed_in all of t no_fields; sets = set_after all of t no_fields }

-- ---- of a body

-- of one that leads to itself
abbrev pub circular : FieldSet → Summary
circular all = record { needs = all; sets = no_fields }

-- with n calls unfolded, one in the other, where no path without a circle has more than `most` calls
abbrev pub unfolded : FieldSet → (Declaration → Flow) → ℕ → ℕ → Declaration → Summary
unfolded all flow most zero x = circular all
unfolded all flow most (suc n) x =
    if leads_within flow most x x then circular all
    else summary_of all (unfolded all flow most n) (flow x)

-- with all calls unfolded
abbrev pub summary_by : FieldSet → (Declaration → Flow) → ℕ → Declaration → Summary
summary_by all flow most x = unfolded all flow most most x
