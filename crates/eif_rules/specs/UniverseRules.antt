-- The second phase: the classes of a universe, the types that they write and whom they inherit from. The kernel's classes
-- are not judged.
use Rattle.std.specs.Prelude.{◌≡◌, ℕ, ◌+◌, ◌<◌, nat_lt, ◌==◌, Bool, true, false, not, ◌&&◌, if◌then◌else◌, ◌⊎◌, List, [], ◌++◌, length, take, flat_map, Option, Some, None, is_some, is_none, slice_get}
use Rattle.std.specs.Option.{option_map_or, option_and_then}
use Rattle.std.specs.Bool.{MatchBool}
use Rattle.std.specs.List.{list_any, enumerate_from}
use Rattle.std.specs.Str.{bytes_eq}
use Rattle.eif_base.specs.declared.code.Code.TheVariants as code
use Rattle.eif_base.specs.declared.fault.Fault.{Fault}
use Rattle.eif_base.specs.declared.limits.TheConstants.{MOST_PARENTS, MOST_ANCESTORS, MOST_FORMALS, MOST_TYPE_NAMES}
use Rattle.eif_base.specs.declared.root.Root.{Root}
use Rattle.eif_base.specs.Appends.{In, SomeOf}
use Rattle.eif_base.specs.Numbering.{is_among}
use Rattle.eif_tree.specs.declared.tree.Mark.{Mark}
use Rattle.eif_tree.specs.declared.tree.Mark.TheVariants.{Detachable}
use Rattle.eif_tree.specs.Tree.{TypeT, FormalT, ParentT, ClassT}
use Rattle.eif_system.specs.Kernel.{kernel, kernel_count, basic_names}
use Rattle.eif_system.specs.TreeForms.{nowhere}
use Rattle.eif_system.specs.Universe.{universe, class_number, is_formal}
use Rattle.eif_system.specs.Graph.{Reaches, IsProperAncestor, IsListOf}
use Rattle.eif_system.specs.Inheritance.{parent_number, graph_of}
use Rattle.eif_system.specs.WrittenTypes.{Written, written_types, present, nested, actuals, type_name, type_mark, type_place, type_name_place}
use Rattle.eif_rules.specs.FaultForms.{fault_in, fault_at, fault_of, fault_where}

-- ---- a type, or a type in it, that the class c writes; feature is the declaration in which it stands, empty in none

-- VTCT.1: the name is neither a formal nor a class
abbrev pub unknown_class : List ClassT → ClassT → List ℕ → TypeT → List Fault
unknown_class u c feature t =
    fault_where (not (is_formal c (type_name t)) && is_none (class_number u (type_name t)))
    (fault_in c feature code.Vtct 1 (type_name_place t) (type_name t))

-- how many formals the class with that number has
abbrev pub formal_count : List ClassT → ℕ → ℕ
formal_count u k = option_map_or (λ c. length c.formals) (slice_get u k) 0

-- the count of actuals is not that of the formals of the class that the name denotes; a formal takes none
abbrev pub has_wrong_count : List ClassT → ClassT → TypeT → Bool
has_wrong_count u c t =
    if is_formal c (type_name t) then not (length (actuals t) == 0)
    else option_map_or (λ k. not (length (actuals t) == formal_count u k)) (class_number u (type_name t)) false

-- XGEN.1: a wrong number of actuals
abbrev pub wrong_count : List ClassT → ClassT → List ℕ → TypeT → List Fault
wrong_count u c feature t =
    fault_where (has_wrong_count u c t) (fault_in c feature code.Xgen 1 (type_name_place t) (type_name t))

abbrev pub is_detachable : Mark → Bool
is_detachable Detachable = true
is_detachable _ = false

-- XMRK.1: INTEGER, BOOLEAN or CHARACTER is marked detachable, and no formal has that name
abbrev pub wrong_mark : ClassT → List ℕ → TypeT → List Fault
wrong_mark c feature t =
    fault_where (is_detachable (type_mark t) && not (is_formal c (type_name t)) && is_among basic_names (type_name t))
    (fault_in c feature code.Xmrk 1 (type_place t) (type_name t))

abbrev pub nested_type_faults : List ClassT → ClassT → List ℕ → TypeT → List Fault
nested_type_faults u c feature t = unknown_class u c feature t ++ wrong_count u c feature t ++ wrong_mark c feature t

-- XLIM.4: an outermost type has too many names
abbrev pub long_type : ClassT → Written → List Fault
long_type c w =
    fault_where (nat_lt MOST_TYPE_NAMES (length (nested w.type_tree)))
    (fault_in c w.feature code.Xlim 4 (type_place w.type_tree) (type_name w.type_tree))

abbrev pub written_type_faults : List ClassT → ClassT → Written → List Fault
written_type_faults u c w = flat_map (nested_type_faults u c w.feature) (nested w.type_tree) ++ long_type c w

-- ---- a formal of the class c

-- VCFG.1: it has the name of a class
abbrev pub formal_names_class : List ClassT → ClassT → FormalT → List Fault
formal_names_class u c f = fault_where (is_some (class_number u f.name)) (fault_at c code.Vcfg 1 f.place f.name)

-- VCFG.2: an earlier formal has the name
abbrev pub repeated_formal : ClassT → List FormalT → FormalT → List Fault
repeated_formal c earlier f =
    fault_where (list_any (λ e. bytes_eq e.name f.name) earlier) (fault_at c code.Vcfg 2 f.place f.name)

-- VCFG.3: a constraint names a formal
abbrev pub formal_in_constraint : ClassT → TypeT → List Fault
formal_in_constraint c t =
    fault_where (is_formal c (type_name t)) (fault_at c code.Vcfg 3 (type_name_place t) (type_name t))

abbrev pub formal_faults : List ClassT → ClassT → List FormalT → FormalT → List Fault
formal_faults u c earlier f =
    formal_names_class u c f ++ repeated_formal c earlier f
    ++ flat_map (formal_in_constraint c) (flat_map nested (present f.constraint))

-- of the formal with that number, from 0
abbrev pub numbered_formal_faults : List ClassT → ClassT → ℕ × FormalT → List Fault
numbered_formal_faults u c x = formal_faults u c (take x.0 c.formals) x.1

-- ---- a parent clause of the class c

-- VTCT.2: the parent is a formal
abbrev pub formal_parent : ClassT → ParentT → List Fault
formal_parent c p =
    fault_where (is_formal c (type_name p.parent))
    (fault_at c code.Vtct 2 (type_name_place p.parent) (type_name p.parent))

-- a class of the kernel other than ANY
abbrev pub is_closed_class : Option ℕ → Bool
is_closed_class None = false
is_closed_class (Some k) = nat_lt 0 k && nat_lt k kernel_count

-- XKER.1: the parent is a kernel class other than ANY
abbrev pub kernel_parent : List ClassT → ClassT → ParentT → List Fault
kernel_parent u c p =
    fault_where (is_closed_class (parent_number u c p))
    (fault_at c code.Xker 1 (type_name_place p.parent) (type_name p.parent))

abbrev pub parent_faults : List ClassT → ClassT → ParentT → List Fault
parent_faults u c p = formal_parent c p ++ kernel_parent u c p

-- VHPR.1: the class d is the class of its own parent clause, or that class descends from it
abbrev pub IsOwnAncestor : List ClassT → ℕ → ClassT → ParentT → Fault → Type 0
IsOwnAncestor u d c p f =
    (k : ℕ) × (parent_number u c p ≡ Some k) × Reaches (graph_of u) k d
    × (f ≡ fault_at c code.Vhpr 1 (type_name_place p.parent) (type_name p.parent))

-- ---- the class c as a whole

-- XLIM.1: too many parent clauses
abbrev pub many_parents : ClassT → List Fault
many_parents c = fault_where (nat_lt MOST_PARENTS (length c.parents)) (fault_of c code.Xlim 1)

-- the class d has more than so many proper ancestors
abbrev pub HasMoreAncestors : ℕ → List ClassT → ℕ → Type 0
HasMoreAncestors most u d =
    (xs : List ℕ) × IsListOf (IsProperAncestor (graph_of u) d) xs × (most < length xs)

-- XLIM.2: the class d has too many proper ancestors
abbrev pub HasManyAncestors : List ClassT → ℕ → ClassT → Fault → Type 0
HasManyAncestors u d c f = HasMoreAncestors MOST_ANCESTORS u d × (f ≡ fault_of c code.Xlim 2)

-- XLIM.3: too many formals
abbrev pub many_formals : ClassT → List Fault
many_formals c = fault_where (nat_lt MOST_FORMALS (length c.formals)) (fault_of c code.Xlim 3)

-- the faults of its types, its formals, its parents and its size
abbrev pub text_faults : List ClassT → ClassT → List Fault
text_faults u c =
    flat_map (written_type_faults u c) (written_types c) ++ flat_map (numbered_formal_faults u c) (enumerate_from 0 c.formals)
    ++ flat_map (parent_faults u c) c.parents ++ many_parents c ++ many_formals c

abbrev pub OwnBroken : List ClassT → ℕ → ClassT → Fault → Type 0
OwnBroken u d c f =
    In (text_faults u c) f
    ⊎ SomeOf c.parents (λ i p f. IsOwnAncestor u d c p f) f
    ⊎ HasManyAncestors u d c f

-- XDUP.1: an earlier class has the name; the later one is judged by nothing else
abbrev pub repeated_class : ClassT → Fault
repeated_class c = fault_of c code.Xdup 1

abbrev pub ClassBroken : List ClassT → ℕ → ClassT → Fault → Type 0
ClassBroken u d c f = MatchBool (is_some (class_number (take d u) c.name)) (f ≡ repeated_class c) (OwnBroken u d c f)

-- ---- the root

-- VSRT.1: the root class is not given
abbrev pub no_root_class : Root → Fault
no_root_class root =
    record { code = code.Vsrt; case = 1; class = root.class_name; feature = []; place = nowhere; about = root.class_name }

-- VSRT.2: it is marked deferred; VSRT.3: it has formals
abbrev pub root_class_faults : ClassT → List Fault
root_class_faults c =
    fault_where c.is_deferred (fault_of c code.Vsrt 2) ++ fault_where (not (length c.formals == 0)) (fault_of c code.Vsrt 3)

abbrev pub given_root_faults : List ClassT → Option ℕ → List Fault
given_root_faults given None = []
given_root_faults given (Some i) = option_map_or root_class_faults (slice_get given i) []

-- the number of the root class among the given ones; a class with the name of one of the kernel's is not it
abbrev pub root_number : List ClassT → Root → Option ℕ
root_number given root = if is_some (class_number kernel root.class_name) then None else class_number given root.class_name

-- the root class, if it is given
abbrev pub root_class : List ClassT → Root → Option ClassT
root_class given root = option_and_then (slice_get given) (root_number given root)

abbrev pub root_faults : List ClassT → Root → List Fault
root_faults given root =
    fault_where (is_none (root_number given root)) (no_root_class root) ++ given_root_faults given (root_number given root)

-- ---- the universe of the given classes

abbrev pub UniverseBroken : List ClassT → Root → Fault → Type 0
UniverseBroken given root f =
    SomeOf given (λ i c f. ClassBroken (universe given) (kernel_count + i) c f) f ⊎ In (root_faults given root) f
