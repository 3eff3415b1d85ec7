-- What the body of a version does on an object of a class, which may be an heir of the class that declares it.
use Rattle.std.specs.Prelude.{ℕ, false, if◌then◌else◌, List, [], ◌∷◌, ◌++◌, map, flat_map, Option, Some, None, slice_get}
use Rattle.std.specs.List.{cons_option, filter_map}
use Rattle.std.specs.Option.{option_and_then, option_map, option_map_or}
use Rattle.eif_base.specs.declared.place.Place.{Place}
use Rattle.eif_tree.specs.Members.{declared_names, body_of, result_name}
use Rattle.eif_tree.specs.Tree.{GroupT, DeclT, ClassT}
use Rattle.eif_classes.specs.Binding.{bind}
use Rattle.eif_classes.specs.Descent.{class_of, above}
use Rattle.eif_classes.specs.Entries.{Declaration, Origin, declared_as, entries_of}
use Rattle.eif_classes.specs.Features.{declaration_of, entries_in, origin, local_groups, is_attribute, is_field}
use Rattle.eif_system.specs.Lineage.{Line, line_of}
use Rattle.eif_classes.specs.Precursors.{precursor}
use Rattle.eif_flow_rules.specs.FlowSteps.{Meanings, compound_flow}
use Rattle.eif_flow_rules.specs.FlowTrees.{Flow, idle, reads, sets, calls}

-- ---- names

-- the names of a group
abbrev pub group_names : List GroupT → List (List ℕ)
group_names groups = flat_map (λ g. map (λ n. n.name) g.names) groups

-- the names in the body of a declaration that aren't features: `Result`, arguments and locals
abbrev pub entity_names : DeclT → List (List ℕ)
entity_names x = result_name ∷ group_names x.arguments ++ group_names (local_groups x.kind)

-- a version that isn't a field has a body; that of a constant or a built-in routine does nothing
abbrev pub body_in : Origin → Option Declaration
body_in (declared_as x) = if is_attribute x.tree.kind then None else Some x
body_in _ = None

-- the call of the body, if there is one
abbrev pub call_of : Place → Option Origin → Flow
call_of p o = option_map_or (calls p) (option_and_then body_in o) idle

-- of a name of the object's class: a field is read, a body runs
abbrev pub use_of : Line → Place → List ℕ → Flow
use_of l p n = if option_map_or is_field (origin l n) false then reads p n else call_of p (origin l n)

-- a field is set
abbrev pub setting_of : Line → List ℕ → Flow
setting_of l n = if option_map_or is_field (origin l n) false then sets n else idle

-- of the redefined name by a parent clause of the class of the body
abbrev pub precursor_origin : List ClassT → Declaration → Option (List ℕ) → Option Origin
precursor_origin u x parent =
    option_map (λ e. e.feature.origin)
    (precursor (λ e. e) parent (entries_of x.name (entries_in (line_of u x.class_number))))

-- the names of a body by dynamic binding in the class of the object; one that its own class hasn't stands for nothing
abbrev pub meanings_in : List ClassT → Line → Declaration → Meanings
meanings_in u l x = record {
  used = λ p n. option_map_or (use_of l p) (bind l x.class_number n) idle;
  assigned = λ n. option_map_or (setting_of l) (bind l x.class_number n) idle;
  version = λ p parent. call_of p (precursor_origin u x parent);
}

-- ---- bodies

-- what a body does to the fields of an object of the class
abbrev pub version_flow : List ClassT → Line → Declaration → Flow
version_flow u l x = compound_flow (meanings_in u l x) (entity_names x.tree) (body_of x.tree.kind)

-- what a class declares
abbrev pub declared_in : ℕ → ClassT → List Declaration
declared_in k c =
    filter_map
    (λ n. option_map (λ x. record { class_number = k; name = n.name; tree = x }) (declaration_of c n.name))
    (declared_names c)

-- what the class and its proper ancestors declare: all that runs on an object of the class without a call on another
-- object
abbrev pub declared_above : List ClassT → Line → List Declaration
declared_above u l =
    flat_map (λ k. option_map_or (declared_in k) (slice_get u k) []) (cons_option (class_of l) (above l))
