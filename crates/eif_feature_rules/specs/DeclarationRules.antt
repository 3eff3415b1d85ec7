-- The rules of what a class declares: beside what it inherits, and by itself.
use Rattle.std.specs.Prelude.{ℕ, Bool, true, false, not, ◌&&◌, List, ◌++◌, flat_map, Option}
use Rattle.std.specs.List.{list_any}
use Rattle.std.specs.Option.{option_map_or}
use Rattle.std.specs.Str.{bytes_eq}
use Rattle.eif_base.specs.declared.code.Code.{Code}
use Rattle.eif_base.specs.declared.code.Code.TheVariants as code
use Rattle.eif_base.specs.declared.fault.Fault.{Fault}
use Rattle.eif_tree.specs.declared.tree.Literal.{Literal}
use Rattle.eif_tree.specs.declared.tree.Literal.TheVariants as value
use Rattle.eif_tree.specs.declared.tree.Mark.TheVariants.{Attached}
use Rattle.eif_tree.specs.declared.tree.NameAt.{NameAt}
use Rattle.eif_tree.specs.Tree.{TypeT, KindT, constant, deferred_body, ClassT}
use Rattle.eif_classes.specs.Entries.{Entry, entries_of, lasts}
use Rattle.eif_classes.specs.KernelNumbers.{integer_number, boolean_number, character_number, string_number}
use Rattle.eif_classes.specs.Names.{is_redefined}
use Rattle.eif_classes.specs.Resolution.{resolved}
use Rattle.eif_classes.specs.Types.{class_type, no_actuals, same_type}
use Rattle.eif_rules.specs.FaultForms.{fault_in, fault_where}
use Rattle.eif_feature_rules.specs.RuleForms.{first_broken, with_earlier, DeclaredName, declared_here}

-- a fault of the class c in the feature of a declared name, at that name and about it
abbrev pub fault_at_declared : ClassT → Code → ℕ → NameAt → Fault
fault_at_declared c code case n = fault_in c n.name code case n.place n.name

-- ---- beside what the class inherits

-- VMFN.1: the class declares the name before
abbrev pub repeated_declaration : ClassT → List DeclaredName → DeclaredName → List Fault
repeated_declaration c earlier x =
    fault_where (list_any (λ e. bytes_eq e.name.name x.name.name) earlier) (fault_at_declared c code.Vmfn 1 x.name)

-- a deferred declaration
abbrev pub is_deferred_kind : KindT → Bool
is_deferred_kind deferred_body = true
is_deferred_kind _ = false

-- VDRS.4: a deferred declaration has an entry that is effective and not undefined
abbrev pub deferred_again : ClassT → List Entry → DeclaredName → List Fault
deferred_again c es x =
    fault_where (is_deferred_kind x.tree.kind && list_any lasts (entries_of x.name.name es))
    (fault_at_declared c code.Vdrs 4 x.name)

-- effective, not undefined and not redefined
abbrev pub is_kept : Entry → Bool
is_kept e = lasts e && not (is_redefined e.clause e.final)

-- VMFN.2: a declared name has an entry that is effective, not undefined and not redefined
abbrev pub declared_over : ClassT → List Entry → DeclaredName → List Fault
declared_over c es x =
    fault_where (list_any is_kept (entries_of x.name.name es)) (fault_at_declared c code.Vmfn 2 x.name)

-- the first declaration of a name is the class's; where the last two rules are broken, the first of them counts
abbrev pub declared_name_faults : ClassT → List Entry → List DeclaredName → DeclaredName → List Fault
declared_name_faults c es earlier x =
    first_broken (repeated_declaration c earlier x ++ deferred_again c es x ++ declared_over c es x)

-- ---- by itself

-- the class of a literal
abbrev pub literal_class : Literal → ℕ
literal_class (value.Int n) = integer_number
literal_class (value.Char b) = character_number
literal_class (value.Text t) = string_number
literal_class (value.Bool b) = boolean_number

-- the type is that of the literal, which is attached
abbrev pub is_literal_type : List ClassT → ClassT → Literal → TypeT → Bool
is_literal_type u c x t = same_type (resolved u c t) (class_type (literal_class x) Attached no_actuals)

-- what is no constant has no literal
abbrev pub has_literal_type : List ClassT → ClassT → KindT → Option TypeT → Bool
has_literal_type u c (constant x) ty = option_map_or (is_literal_type u c x) ty false
has_literal_type u c _ ty = true

-- VFFD.1: a constant's type is not its literal's class, plain or attached
abbrev pub wrong_constant : List ClassT → ClassT → DeclaredName → List Fault
wrong_constant u c x =
    fault_where (not (has_literal_type u c x.tree.kind x.tree.result_type)) (fault_at_declared c code.Vffd 1 x.name)

-- ---- all names that the class c declares, whose entries are these

-- beside the entries, and by itself
abbrev pub declaration_faults : List ClassT → ClassT → List Entry → List Fault
declaration_faults u c es =
    flat_map (λ x. declared_name_faults c es x.0 x.1) (with_earlier (declared_here c))
    ++ flat_map (wrong_constant u c) (declared_here c)
