use Rattle.std.proofs.Common.{◌≡◌, Some, None, drop, sym, arith}
use Rattle.eif_tree.specs.View.{expr_view}
use Rattle.eif_grammar.specs.Spelling.{head}
use Rattle.eif_grammar.specs.ExpressionRules.{no_primary}
use Rattle.eif_grammar.specs.Outcomes.{refused}
use Rattle.eif_grammar_laws.proofs.Readers.{refuses}
use Rattle.eif_grammar_laws.proofs.ExpressionSteps.{primary_at}
use Rattle.eif_parse_expr.specs.Readings.{first}
use Rattle.eif_parse_expr.specs.Subrules.{leaf_value}
use Rattle.eif_parse_expr.proofs.ExpressionSteps.{leaf_here, no_leaf}
use Rattle.eif_parse_expr.proofs.leaves.leaf.Goals as goal

pub returns-in_default-clause-reads : goal.returns-in_default-clause-reads
returns-in_default-clause-reads c =
    let a = c.args in let ts = drop a.from a.tokens.now.tokens in let q = c.requires in
    let none : leaf_value (head ts) (first ts) ≡ None = sym (rw c.in_default.is at c.in_ok-tree.ensures) in
    record {
      outcome = primary_at a.room ts (refused ts) no_primary (no_leaf (head ts) (first ts) none q.no_name q.no_precursor q.no_parenthesis q.no_creation) refuses;
      forward = omega arith;
      within = q.start;
    }

pub returns-clause-reads : goal.returns-clause-reads
returns-clause-reads c =
    let a = c.args in let ts = drop a.from a.tokens.now.tokens in
    let found : leaf_value (head ts) (first ts) ≡ Some (expr_view c.in-Some.tree) = sym (rw c.in-Some.is at c.in_ok-tree.ensures) in
    record {
      outcome = leaf_here a.room (expr_view c.in-Some.tree) found c.after.ensures;
      forward = omega (arith, c.after.ensures.behind);
      within = c.after.ensures.within;
    }
