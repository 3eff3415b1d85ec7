-- The rules of a class's names: what its clauses redefine, the origins of its names, how many there are.
use Rattle.std.specs.Prelude.{ℕ, nat_lt, not, ◌&&◌, List, [], ◌∷◌, ◌++◌, length, map, flat_map, sum}
use Rattle.eif_base.specs.declared.code.Code.TheVariants as code
use Rattle.eif_base.specs.declared.fault.Fault.{Fault}
use Rattle.eif_base.specs.declared.limits.TheConstants.{MOST_NAMES, MOST_ANCESTOR_NAMES}
use Rattle.eif_base.specs.Numbering.{is_among}
use Rattle.eif_tree.specs.declared.tree.NameAt.{NameAt}
use Rattle.eif_tree.specs.Members.{has_name, declared_names}
use Rattle.eif_tree.specs.Tree.{ParentT, ClassT}
use Rattle.eif_classes.specs.Entries.{Origin, deferred, clashing, Feature}
use Rattle.eif_classes.specs.Features.{names}
use Rattle.eif_system.specs.Lineage.{Line, line_of}
use Rattle.eif_rules.specs.FaultForms.{fault_at, fault_of, fault_where}
use Rattle.eif_feature_rules.specs.ClauseRules.{each_listed, clause_faults}
use Rattle.eif_feature_rules.specs.ParentFeatures.{parent_features, final_names}

-- ---- a parent clause

-- VDRS.3: a redefined name is a final name of the clause and the class doesn't declare it; a name that stands before in
-- that list is judged there
abbrev pub undeclared_redefine : ClassT → List (List ℕ) → List NameAt → NameAt → List Fault
undeclared_redefine c finals earlier n =
    fault_where (is_among finals n.name && not (has_name earlier n.name) && not (has_name (declared_names c) n.name))
    (fault_at c code.Vdrs 3 n.place n.name)

-- by its text and the features of its class, and beside what the class c declares
abbrev pub adaptation_faults : ClassT → ParentT → Line → List Fault
adaptation_faults c p l =
    clause_faults c.name p (parent_features l)
    ++ each_listed (undeclared_redefine c (final_names p (parent_features l))) p.redefines

-- ---- the origin of a name

-- VMFN.3: a name that isn't declared has two effective entries, not undefined, of different origins
abbrev pub clashing_name : ClassT → List ℕ → Origin → List Fault
clashing_name c n clashing = fault_at c code.Vmfn 3 c.place n ∷ []
clashing_name c n _ = []

-- VCCH.1: the class isn't marked deferred and a name has no version
abbrev pub deferred_name : ClassT → List ℕ → Origin → List Fault
deferred_name c n deferred = fault_where (not c.is_deferred) (fault_at c code.Vcch 1 c.place n)
deferred_name c n _ = []

-- of one name of the class c
abbrev pub origin_faults : ClassT → Feature → List Fault
origin_faults c f = clashing_name c f.name f.origin ++ deferred_name c f.name f.origin

-- ---- how many names there are

-- XLIM.5: too many names
abbrev pub many_names : ClassT → ℕ → List Fault
many_names c count = fault_where (nat_lt MOST_NAMES count) (fault_of c code.Xlim 5)

-- XLIM.8: the counts of names of all proper ancestors, each ancestor once, have too great a sum
abbrev pub many_ancestor_names : ClassT → List ℕ → List Fault
many_ancestor_names c counts = fault_where (nat_lt MOST_ANCESTOR_NAMES (sum counts)) (fault_of c code.Xlim 8)

-- how many names the class with that number has
abbrev pub count_names : List ClassT → ℕ → ℕ
count_names u k = length (names (line_of u k))

-- of the class c with these features and these proper ancestors
abbrev pub name_faults : List ClassT → ClassT → List Feature → List ℕ → List Fault
name_faults u c fs ancestors =
    flat_map (origin_faults c) fs ++ many_names c (length fs) ++ many_ancestor_names c (map (count_names u) ancestors)
