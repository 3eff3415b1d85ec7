-- What one parent clause makes of the features of its class.
use Rattle.std.specs.Prelude.{ℕ, Bool, List, Option}
use Rattle.std.specs.Option.{option_map}
use Rattle.eif_adapt.specs.declared.adapted.AdaptedEntry.{AdaptedEntry}
use Rattle.eif_adapt.specs.declared.parent_feature.ParentFeature as code_feature
use Rattle.eif_adapt.specs.declared.parent_feature.ParentState as code_state
use Rattle.eif_adapt.specs.declared.parent_feature.ParentState.TheVariants as state
use Rattle.eif_classes.specs.Clients.{export_item}
use Rattle.eif_classes.specs.Names.{final_name, is_undefined, is_redefined, is_selected}
use Rattle.eif_feature_rules.specs.ParentFeatures.{ParentState, deferred_feature, attribute_feature, routine_feature, ParentFeature}
use Rattle.eif_tree.specs.Tree.{ClientsT, ParentT}
use Rattle.eif_tree.specs.View.{clients_view}

-- ---- a feature of the clause's class, as plain data

abbrev pub state_view : code_state.ParentState → ParentState
state_view state.DeferredFeature = deferred_feature
state_view state.AttributeFeature = attribute_feature
state_view state.RoutineFeature = routine_feature

abbrev pub feature_view : code_feature.ParentFeature → ParentFeature
feature_view f = record { name = f.name; state = state_view f.state }

-- ---- what the clause makes of it

-- the clients are those of the export item that holds for it
pub record Adaptation : Type 0 where
  pub parent_name : List ℕ
  pub final_name : List ℕ
  pub clients : Option ClientsT
  pub undefined : Bool
  pub redefined : Bool
  pub selected : Bool

-- a feature whose name in the heir is this
abbrev pub adapted_as : ParentT → List ℕ → List ℕ → Adaptation
adapted_as p name final = record {
  parent_name = name;
  final_name = final;
  clients = option_map (λ x. x.clients) (export_item p final);
  undefined = is_undefined p final;
  redefined = is_redefined p final;
  selected = is_selected p final;
}

-- what the clause makes of the feature
abbrev pub adapted : ParentT → ParentFeature → Adaptation
adapted p f = adapted_as p f.name (final_name p f.name)

abbrev pub entry_view : AdaptedEntry → Adaptation
entry_view e = record {
  parent_name = e.parent_name;
  final_name = e.final_name;
  clients = option_map clients_view e.clients;
  undefined = e.undefined;
  redefined = e.redefined;
  selected = e.selected;
}
