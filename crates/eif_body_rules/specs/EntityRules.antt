-- Arguments and locals, and the rules of their names.
use Rattle.std.specs.Prelude.{ℕ, Bool, true, false, List, [], ◌++◌, map, flat_map, take}
use Rattle.std.specs.List.{enumerate_from, list_any}
use Rattle.std.specs.Str.{bytes_eq}
use Rattle.eif_base.specs.declared.code.Code.TheVariants as code
use Rattle.eif_base.specs.declared.fault.Fault.{Fault}
use Rattle.eif_tree.specs.declared.tree.NameAt.{NameAt}
use Rattle.eif_tree.specs.Tree.{GroupT, DeclT, ClassT}
use Rattle.eif_classes.specs.Features.{has_feature, local_groups}
use Rattle.eif_classes.specs.Resolution.{resolved}
use Rattle.eif_classes.specs.Types.{TyT}
use Rattle.eif_rules.specs.FaultForms.{fault_where}
use Rattle.eif_body_rules.specs.Settings.{Setting, fault, Entity}

abbrev pub entity_at : Bool → TyT → NameAt → Entity
entity_at is_local t n = record { place = n.place; name = n.name; type = t; is_local = is_local }

-- one for each name of a group
abbrev pub entities_of : List ClassT → ClassT → Bool → List GroupT → List Entity
entities_of u c is_local gs = flat_map (λ g. map (entity_at is_local (resolved u c g.type_tree)) g.names) gs

abbrev pub arguments_of : List ClassT → ClassT → DeclT → List Entity
arguments_of u c x = entities_of u c false x.arguments

abbrev pub locals_of : List ClassT → ClassT → DeclT → List Entity
locals_of u c x = entities_of u c true (local_groups x.kind)

-- VRFA.1: it has the name of a feature of the class
abbrev pub names_feature : Setting → Entity → List Fault
names_feature s e = fault_where (has_feature s.line e.name) (fault s code.Vrfa 1 e.place e.name)

-- VRFA.2: an argument or local of the declaration has the name before
abbrev pub repeated_entity : Setting → List Entity → Entity → List Fault
repeated_entity s earlier e =
    fault_where (list_any (λ d. bytes_eq d.name e.name) earlier) (fault s code.Vrfa 2 e.place e.name)

-- of the argument or local with that number among those of the setting
abbrev pub entity_rule : Setting → ℕ × Entity → List Fault
entity_rule s x = names_feature s x.1 ++ repeated_entity s (take x.0 s.entities) x.1

abbrev pub entity_faults : Setting → List Fault
entity_faults s = flat_map (entity_rule s) (enumerate_from 0 s.entities)
