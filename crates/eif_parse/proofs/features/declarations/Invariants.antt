use Rattle.std.proofs.Common.{◌≤◌, ◌-◌, drop, length, List}
use Rattle.eif_tree.specs.Tree.{DeclT}
use Rattle.eif_grammar.specs.Goals as goals
use Rattle.eif_grammar.specs.Outcomes.{Outcome, Calls}
use Rattle.eif_parse.specs.ClassSubrules.{decls_view}
use Rattle.eif_parse.proofs.Lists.{behind}
use Rattle.eif_parse.proofs.features.declarations.Given as goal

-- what is found from here on goes behind the declarations so far
abbrev pub invariant-decls : goal.invariant-decls
invariant-decls l = record {
  within : l.next ≤ length l.tokens.tokens;
  forward : l.from ≤ l.next;
  goes_on : (u : Outcome (List DeclT)) → Calls (goals.class_goal goals.declarations) (drop l.next l.tokens.tokens) u
      → Calls (goals.class_goal goals.declarations) (drop l.from l.tokens.tokens) (behind (decls_view l.tree) u);
}

abbrev pub decreases-decls : goal.decreases-decls
decreases-decls l = length l.tokens.tokens - l.next
