-- What is judged of the names that a part of a clause lists.
use Rattle.std.specs.Prelude.{◌≡◌, ◌==◌, ℕ, Bool, not, List, ◌++◌, flat_map, length}
use Rattle.std.specs.List.{filter_map}
use Rattle.eif_base.specs.declared.fault.Fault.{Fault}
use Rattle.eif_tree.specs.declared.tree.NameAt.{NameAt}
use Rattle.eif_tree.specs.Tree.{ExportT, ParentT}
use Rattle.eif_feature_rules.specs.ClauseRules.{rename_faults, export_faults, undefine_faults, redefine_faults, select_faults, repeated_all, each_listed}
use Rattle.eif_feature_rules.specs.ParentFeatures.{ParentFeature}
use Rattle.eif_feature_rules.specs.RuleForms.{with_earlier}
use Rattle.eif_adapt.specs.declared.rules.Part.{Part}
use Rattle.eif_adapt.specs.declared.rules.Part.TheVariants as part
use Rattle.eif_adapt.specs.NamedItems.{IsNameSet}

-- of a name that stands behind others in its list
abbrev pub part_faults : Part → List ℕ → ParentT → List ParentFeature → List NameAt → NameAt → List Fault
part_faults part.Rename class p fs = rename_faults class fs
part_faults part.Export class p fs = export_faults class p fs
part_faults part.Undefine class p fs = undefine_faults class p fs
part_faults part.Redefine class p fs = redefine_faults class p fs
part_faults part.Select class p fs = select_faults class p fs

-- the names of a list are judged so far: their faults stand behind the old ones, and the set has them
pub record AreJudged (judge : List NameAt → NameAt → List Fault) (old out : List Fault) (earlier : List (List ℕ))
    (names : List NameAt) : Type 0 where
  pub faults : out ≡ old ++ each_listed judge names
  pub set : IsNameSet earlier names

-- each `all` of export items is judged so far
pub record AreAllsJudged (class : List ℕ) (old out : List Fault) (found : Bool) (items : List ExportT) : Type 0 where
  pub faults : out ≡ old ++ flat_map (λ x. repeated_all class x.0 x.1) (with_earlier (filter_map (λ x. x.all) items))
  pub has_all : found ≡ not (length (filter_map (λ x. x.all) items) == 0)
