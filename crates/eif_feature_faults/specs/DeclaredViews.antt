-- What a class declares, as plain data.
use Rattle.std.specs.Prelude.{ℕ, Bool, List, [], ◌∷◌, Option}
use Rattle.std.specs.Option.{option_map_or}
use Rattle.eif_base.specs.declared.code.Code.{Code}
use Rattle.eif_base.specs.declared.fault.Fault.{Fault}
use Rattle.eif_classes.specs.Resolution.{class_mark}
use Rattle.eif_classes.specs.Types.{same_mark}
use Rattle.eif_feature_rules.specs.DeclarationRules.{fault_at_declared}
use Rattle.eif_feature_rules.specs.RuleForms as rules
use Rattle.eif_heirs.specs.declared.declared.DeclaredName.{DeclaredName}
use Rattle.eif_tree.specs.Tree.{ClassT}
use Rattle.eif_tree.specs.View.{decl_view}
use Rattle.eif_tree.specs.declared.tree.NameAt.{NameAt}
use Rattle.eif_tree.specs.declared.tree.Mark.{Mark}
use Rattle.eif_tree.specs.declared.tree.Mark.TheVariants.{Attached}

-- a declared name with its declaration
abbrev pub declared_view : DeclaredName → rules.DeclaredName
declared_view x = record { name = x.name.now; tree = decl_view x.tree.now }

-- a class type with that mark is attached
abbrev pub is_attached_mark : Mark → Bool
is_attached_mark m = same_mark (class_mark m) Attached

-- that of the declared name by a rule, where one is broken
abbrev pub faults_by_rule : ClassT → NameAt → Option (Code × ℕ) → List Fault
faults_by_rule c n rule = option_map_or (λ r. fault_at_declared c r.0 r.1 n ∷ []) rule []
