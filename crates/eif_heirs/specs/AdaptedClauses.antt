-- The clauses of a class while they are judged, over the rows of their classes.
use Rattle.std.specs.Prelude.{◌≡◌, ◌++◌, ℕ, List, flat_map, Option, Some, slice_get}
use Rattle.eif_base.specs.declared.class_id.ClassId.{ClassId}
use Rattle.eif_base.specs.declared.fault.Fault.{Fault}
use Rattle.eif_feature_rules.specs.ClauseRules.{each_listed, clause_faults}
use Rattle.eif_feature_rules.specs.FeatureRules.{adaptation_faults, undeclared_redefine}
use Rattle.eif_feature_rules.specs.ParentFeatures.{ParentFeature, final_names}
use Rattle.eif_heirs.specs.Clauses.{IsClause}
use Rattle.eif_heirs.specs.SeenFeatures.{seen_features}
use Rattle.eif_heirs.specs.declared.clauses.Clause.{Clause}
use Rattle.eif_rows.specs.Matched.{Match}
use Rattle.eif_rows.specs.Rows.{IsRow}
use Rattle.eif_rows.specs.declared.row.Row.{Row}
use Rattle.eif_system.specs.Inheritance.{parent_number}
use Rattle.eif_system.specs.Lineage.{Line, line_by, line_of}
use Rattle.eif_tree.specs.Tree.{ParentT, ClassT}

-- the features of the class with that row
abbrev pub row_features : Row → List ParentFeature
row_features r = seen_features r.names.items r.features.items

-- the faults of the clause p of the class c, by the features of the clause's class
abbrev pub faults_by : ClassT → ParentT → List ParentFeature → List Fault
faults_by c p fs = clause_faults c.name p fs ++ each_listed (undeclared_redefine c (final_names p fs)) p.redefines

-- the same by the lines of a universe
abbrev pub faults_in : List ClassT → ClassT → ParentT → List Fault
faults_in u c p = adaptation_faults c p (line_by (line_of u) (parent_number u c p))

-- k is the class of the clause p of the class c, and has its row among these
pub record IsParent (u : List ClassT) (c : ClassT) (rows : List (Option Row)) (p : ParentT) (k : ClassId) : Type 0 where
  pub number : parent_number u c p ≡ Some k.0
  pub text : (x : ClassT) × (slice_get u k.0 ≡ Some x)
  pub row : (r : Row) × (slice_get rows k.0 ≡ Some (Some r)) × IsRow u k.0 r

-- the clauses of the class c are judged so far: their faults stand behind the old ones
pub record AreAdapted (u : List ClassT) (c : ClassT) (old out : List Fault) (xs : List Clause) (ps : List ParentT) : Type 0 where
  pub clauses_are : Match (IsClause u c) xs ps
  pub faults_are : out ≡ old ++ flat_map (faults_in u c) ps
