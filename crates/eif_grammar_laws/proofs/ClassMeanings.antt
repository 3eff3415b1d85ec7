-- What each goal of a class text's parts finds, in terms of spellings.
use Rattle.std.proofs.Common.{◌≡◌, ◌≢◌, ℕ, ◌≤◌, max, ◌==◌, if◌then◌else◌, Option, List, [], ◌∷◌}
use Rattle.eif_tree.specs.declared.NameAt.{NameAt}
use Rattle.eif_tree.specs.Tree.{TypeT, GroupT, FormalT, ParentT, DeclT}
use Rattle.eif_tree.specs.Height.{type_height, written_height, heights, highest, group_height, kind_height, decl_height, features_height, class_height}
use Rattle.eif_grammar.specs.declared.terminal.Terminal.TheVariants as t
use Rattle.eif_grammar.specs.Tokens.{Token}
use Rattle.eif_grammar.specs.Spelling
use Rattle.eif_grammar.specs.Spelling.{Spelling, ◌⨟◌, never, the, maybe, semicolons}
use Rattle.eif_grammar.specs.SpelledInstructions.{assertions_behind}
use Rattle.eif_grammar.specs.SpelledClasses as spelled
use Rattle.eif_grammar.specs.SpelledClasses.{Clause, rename_clause, export_clause, undefine_clause, redefine_clause, select_clause, clause_length, count_of}
use Rattle.eif_grammar.specs.Goals
use Rattle.eif_grammar.specs.Parts.{most_height}

-- ---- parts that are no higher than they may be

abbrev pub formal_height : FormalT → ℕ
formal_height f = written_height f.constraint

abbrev pub parent_height : ParentT → ℕ
parent_height p = type_height p.parent

-- spelled, and no higher than it may be
abbrev pub low : ℕ → Spelling → Spelling
low height a ts rest = a ts rest × (height ≤ most_height)

-- ---- the clauses of a parent

-- the clauses of that kind say the same
abbrev pub SameClause : ParentT → ParentT → Clause → Type 0
SameClause p q rename_clause = p.renames ≡ q.renames
SameClause p q export_clause = p.exports ≡ q.exports
SameClause p q undefine_clause = p.undefines ≡ q.undefines
SameClause p q redefine_clause = p.redefines ≡ q.redefines
SameClause p q select_clause = p.selects ≡ q.selects

-- The second parent is the first with what the clauses in that order say. Each was empty in the first, and says something.
pub record Fills (p q : ParentT) (order : List Clause) : Type 0 where
  pub same_type : p.parent ≡ q.parent
  -- an empty clause is in the order once, or stays empty
  pub once : (c : Clause) → clause_length p c ≡ 0 → count_of c order ≡ (if clause_length q c == 0 then 0 else 1)
  -- any other isn't in the order, and stays
  pub kept : (c : Clause) → clause_length p c ≢ 0 → (count_of c order ≡ 0) × SameClause p q c

-- clauses and the `end`
abbrev pub clauses_and_end : ParentT → List Clause → Spelling
clauses_and_end q order = spelled.spells_clauses q order ⨟ the t.End

-- ---- groups and routines

-- groups behind a `;`
abbrev pub spells_groups_behind : List GroupT → Spelling
spells_groups_behind [] = never
spells_groups_behind (g ∷ gs) = semicolons ⨟ spelled.spells_group g ⨟ spelled.more_groups gs

-- a routine behind its name, arguments and type
abbrev pub spells_routine_rest : DeclT → Spelling
spells_routine_rest d =
    spelled.obsolete ⨟ assertions_behind t.Require (maybe t.Else) d.preconditions ⨟ spelled.spells_body d.kind
    ⨟ assertions_behind t.Ensure (maybe t.Then) d.postconditions ⨟ the t.End

-- the height of what stands there
abbrev pub rest_height : DeclT → ℕ
rest_height d = max (heights d.preconditions) (max (kind_height d.kind) (heights d.postconditions))

pub record RoutineOf (n : NameAt) (arguments : List GroupT) (ty : Option TypeT) (d : DeclT) : Type 0 where
  pub name : d.names ≡ n ∷ []
  pub formal_arguments : d.arguments ≡ arguments
  pub result_type : d.result_type ≡ ty

-- ---- every goal

abbrev pub ClassMeans : (g : Goals.ClassGoal) → Goals.ClassFound g → List Token → List Token → Type 0
ClassMeans Goals.notes u ts rest = spelled.notes ts rest
ClassMeans Goals.note_entries u ts rest = (ns : List ℕ) × spelled.note_entries ns ts rest
ClassMeans Goals.note_item u ts rest = spelled.note_item ts rest
ClassMeans Goals.more_note_items u ts rest = (n : ℕ) × spelled.more_note_items n ts rest
ClassMeans Goals.literal x ts rest = spelled.spells_literal x ts rest
ClassMeans Goals.obsolete u ts rest = spelled.obsolete ts rest
ClassMeans Goals.formals fs ts rest = low (highest formal_height fs) (spelled.spells_formals fs) ts rest
ClassMeans Goals.formal f ts rest = low (formal_height f) (spelled.spells_formal f) ts rest
ClassMeans Goals.more_formals fs ts rest = low (highest formal_height fs) (spelled.more_formals fs) ts rest
ClassMeans Goals.names ns ts rest = Spelling.names ns ts rest
ClassMeans Goals.more_names ns ts rest = Spelling.more_names ns ts rest
ClassMeans Goals.colon_names ns ts rest = (Spelling.more_names ns ⨟ the t.Colon) ts rest
ClassMeans Goals.clients c ts rest = spelled.spells_clients c ts rest
ClassMeans Goals.rename r ts rest = spelled.spells_rename r ts rest
ClassMeans Goals.renames rs ts rest = spelled.spells_renames rs ts rest
ClassMeans Goals.more_renames rs ts rest = spelled.more_renames rs ts rest
ClassMeans Goals.export x ts rest = spelled.spells_export x ts rest
ClassMeans Goals.exports xs ts rest = spelled.spells_exports xs ts rest
ClassMeans Goals.more_exports xs ts rest = spelled.more_exports xs ts rest
ClassMeans (Goals.clauses p) q ts rest = (first : Clause) × (order : List Clause) × Fills p q (first ∷ order) × clauses_and_end q (first ∷ order) ts rest
ClassMeans (Goals.more_clauses p) q ts rest = (order : List Clause) × Fills p q order × clauses_and_end q order ts rest
ClassMeans Goals.parent p ts rest = low (parent_height p) (spelled.spells_parent p) ts rest
ClassMeans Goals.parents ps ts rest = low (highest parent_height ps) (spelled.spells_parents ps) ts rest
ClassMeans Goals.more_parents ps ts rest = low (highest parent_height ps) (spelled.more_parents ps) ts rest
ClassMeans Goals.creators cs ts rest = spelled.spells_creators cs ts rest
ClassMeans Goals.group g ts rest = low (group_height g) (spelled.spells_group g) ts rest
ClassMeans Goals.more_groups gs ts rest = low (highest group_height gs) (spelled.more_groups gs) ts rest
ClassMeans Goals.groups_behind gs ts rest = low (highest group_height gs) (spells_groups_behind gs) ts rest
ClassMeans Goals.formal_arguments gs ts rest = low (highest group_height gs) (spelled.spells_formal_arguments gs) ts rest
ClassMeans Goals.local_groups gs ts rest = low (highest group_height gs) (spelled.local_groups gs) ts rest
ClassMeans Goals.locals gs ts rest = low (highest group_height gs) (spelled.spells_locals gs) ts rest
ClassMeans Goals.result_type ty ts rest = low (written_height ty) (spelled.spells_result ty) ts rest
ClassMeans (Goals.conditions first second) es ts rest = low (heights es) (assertions_behind first (maybe second) es) ts rest
ClassMeans Goals.body k ts rest = low (kind_height k) (spelled.spells_body k) ts rest
ClassMeans (Goals.routine_rest n args ty) d ts rest = RoutineOf n args ty d × low (rest_height d) (spells_routine_rest d) ts rest
ClassMeans Goals.declaration d ts rest = low (decl_height d) (spelled.spells_declaration d) ts rest
ClassMeans Goals.declarations ds ts rest = low (highest decl_height ds) (spelled.spells_declarations ds) ts rest
ClassMeans Goals.features fs ts rest = low (highest features_height fs) (spelled.spells_features fs) ts rest
ClassMeans Goals.class_text c ts rest = low (class_height c) (spelled.spells_class c) ts rest
