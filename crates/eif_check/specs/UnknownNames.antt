-- Called names that a set of declared names lacks.
use Rattle.std.specs.Prelude.{ℕ, not, List, flat_map}
use Rattle.eif_base.specs.declared.code.Code.TheVariants as code
use Rattle.eif_base.specs.declared.fault.Fault.{Fault}
use Rattle.eif_base.specs.Numbering.{is_among}
use Rattle.eif_rules.specs.FaultForms.{fault_in, fault_where}
use Rattle.eif_system.specs.WrittenTypes.{feature_name}
use Rattle.eif_tree.specs.declared.tree.NameAt.{NameAt}
use Rattle.eif_tree.specs.Members.{body_of, called_in}
use Rattle.eif_tree.specs.Tree.{DeclT, ClassT}

-- a name that a declaration of the class calls
abbrev pub unknown_in : ClassT → List (List ℕ) → DeclT → NameAt → List Fault
unknown_in c declared d n =
    fault_where (not (is_among declared n.name)) (fault_in c (feature_name d.names) code.Veen 1 n.place n.name)

-- all that a declaration calls
abbrev pub all_unknown_in : ClassT → List (List ℕ) → DeclT → List Fault
all_unknown_in c declared d = flat_map (unknown_in c declared d) (called_in (body_of d.kind))
