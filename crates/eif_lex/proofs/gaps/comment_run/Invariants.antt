use Rattle.std.proofs.Common.{◌≡◌, ◌+◌, ◌-◌, ◌≤◌, drop, length}
use Rattle.eif_grammar.specs.Lexemes.{run_length, in_comment}
use Rattle.eif_lex.proofs.gaps.comment_run.Given as goal

abbrev pub invariant-bytes : goal.invariant-bytes
invariant-bytes l = (l.n ≤ length l.text) × (l.n + run_length in_comment (drop l.n l.text) ≡ run_length in_comment l.text)

abbrev pub decreases-bytes : goal.decreases-bytes
decreases-bytes l = length l.text - l.n
