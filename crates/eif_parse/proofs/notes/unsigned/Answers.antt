use Rattle.std.proofs.Common.{◌≡◌, Some, None, drop, sym, arith}
use Rattle.eif_grammar.specs.ClassRules.{no_literal}
use Rattle.eif_grammar.specs.Spelling.{head}
use Rattle.eif_grammar_laws.proofs.Readers.{refuses}
use Rattle.eif_parse_expr.specs.Readings.{first}
use Rattle.eif_parse.specs.ClassSubrules.{literal_value}
use Rattle.eif_parse.proofs.NoteSteps.{literal_begun, literal_here, not_literal}
use Rattle.eif_parse.proofs.notes.unsigned.Goals as goal

pub returns-in-Some : goal.returns-in-Some
returns-in-Some c =
    let ts = drop c.args.from c.args.tokens.now.tokens in
    let found : literal_value (head ts) (first ts) ≡ Some c.in-Some.tree = sym (rw c.in-Some.is at c.in_ok-tree.ensures) in
    record { outcome = literal_here c.in-Some.tree found c.after.ensures; forward = omega (arith, c.after.ensures.behind); within = c.after.ensures.within }

pub returns-in-None : goal.returns-in-None
returns-in-None c =
    let ts = drop c.args.from c.args.tokens.now.tokens in let q = c.requires in
    let none : literal_value (head ts) (first ts) ≡ None = sym (rw c.in-None.is at c.in_ok-tree.ensures) in
    record { outcome = literal_begun no_literal (not_literal (head ts) (first ts) none q.no_plus q.no_minus) refuses; forward = omega arith; within = q.start }
