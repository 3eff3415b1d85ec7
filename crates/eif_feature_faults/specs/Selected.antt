-- What is judged of selected names and of candidates, by sets of names and by the numbers of candidates.
use Rattle.std.specs.Prelude.{ℕ, not, ◌&&◌, List, Vec, map, is_none}
use Rattle.std.specs.List.{filter}
use Rattle.eif_base.specs.declared.code.Code.TheVariants as code
use Rattle.eif_base.specs.declared.fault.Fault.{Fault}
use Rattle.eif_base.specs.declared.feat_id.FeatId.{FeatId}
use Rattle.eif_base.specs.Numbering.{is_among}
use Rattle.eif_classes.specs.Names.{are_several, agreed}
use Rattle.eif_feature_faults.specs.Candidates.{AreNamed}
use Rattle.eif_feature_rules.specs.ClauseRules.{each_listed}
use Rattle.eif_feature_rules.specs.SelectionRules.{least}
use Rattle.eif_heirs.specs.declared.clauses.Clause.{Clause}
use Rattle.eif_rows.specs.Matched.{Match}
use Rattle.eif_rules.specs.FaultForms.{fault_at, fault_where}
use Rattle.eif_tree.specs.declared.tree.NameAt.{NameAt}
use Rattle.eif_tree.specs.Members.{has_name}
use Rattle.eif_tree.specs.Tree.{ClassT}

-- the candidates for each feature have these names
abbrev pub AreAllNamed : {Z : Type 0} → List (List ℕ) → List (Vec FeatId Z) → List (List (List ℕ)) → Type 0
AreAllNamed names candidates choices = Match (λ fs ns. AreNamed names fs.items ns) candidates choices

-- a selected name is a final name and none of those that stand to choose; one that stands before is judged there
abbrev pub needless_by : ClassT → List (List ℕ) → List (List ℕ) → List NameAt → NameAt → List Fault
needless_by c choice finals earlier n =
    fault_where (is_among finals n.name && not (has_name earlier n.name) && not (is_among choice n.name))
    (fault_at c code.Vmss 3 n.place n.name)

-- of the clause
abbrev pub clause_needless : ClassT → List (List ℕ) → Clause → List Fault
clause_needless c choice x =
    each_listed (needless_by c choice (map (λ e. e.final_name) x.adapted.items)) x.tree.now.selects.items

-- several candidates of which not exactly one is in the set
abbrev pub undecided_by : ClassT → List (List ℕ) → List (List ℕ) → List Fault
undecided_by c selected ns =
    fault_where (are_several ns && is_none (agreed (filter (is_among selected) ns)))
    (fault_at c code.Vmrc 1 c.place (least ns))
