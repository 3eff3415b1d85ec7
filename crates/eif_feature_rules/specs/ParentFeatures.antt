-- What a parent clause adapts: the features of its class, each with its state, and their names in the heir.
use Rattle.std.specs.Prelude.{ℕ, Bool, true, false, ◌&&◌, if◌then◌else◌, List, map}
use Rattle.std.specs.List.{list_any}
use Rattle.std.specs.Str.{bytes_eq}
use Rattle.eif_tree.specs.Tree.{ParentT}
use Rattle.eif_classes.specs.Entries.{Origin, deferred, declared_as, clashing, Feature}
use Rattle.eif_classes.specs.Features.{features, is_attribute}
use Rattle.eif_system.specs.Lineage.{Line}
use Rattle.eif_classes.specs.Names.{final_name}

-- what a class has under a name; a constant is a routine
pub data ParentState : Type 0 where
  deferred_feature : ParentState
  attribute_feature : ParentState
  routine_feature : ParentState

-- a name of the clause's class, and what the class has under it
pub record ParentFeature : Type 0 where
  pub name : List ℕ
  pub state : ParentState

-- there is no version
abbrev pub is_deferred_feature : ParentState → Bool
is_deferred_feature deferred_feature = true
is_deferred_feature _ = false

-- it is an attribute
abbrev pub is_attribute_feature : ParentState → Bool
is_attribute_feature attribute_feature = true
is_attribute_feature _ = false

-- the state of a name by its origin; a class with a clashing one has a breach, and no heir of it is judged
abbrev pub parent_state : Origin → ParentState
parent_state deferred = deferred_feature
parent_state (declared_as x) = if is_attribute x.tree.kind then attribute_feature else routine_feature
parent_state clashing = routine_feature

-- a feature as a clause sees it
abbrev pub parent_feature : Feature → ParentFeature
parent_feature f = record { name = f.name; state = parent_state f.origin }

-- the features of a class, in the order of their names
abbrev pub parent_features : Line → List ParentFeature
parent_features l = map parent_feature (features l)

-- ---- a clause

-- the names of the clause's class
abbrev pub parent_names : List ParentFeature → List (List ℕ)
parent_names fs = map (λ f. f.name) fs

-- their names in the heir
abbrev pub final_names : ParentT → List ParentFeature → List (List ℕ)
final_names p fs = map (λ f. final_name p f.name) fs

-- an entry of that final name is in such a state
abbrev pub has_entry : (ParentState → Bool) → ParentT → List ParentFeature → List ℕ → Bool
has_entry is_such p fs n = list_any (λ f. bytes_eq (final_name p f.name) n && is_such f.state) fs
