use Rattle.std.proofs.Common.{◌≡◌, ◌-◌, ◌≤◌, drop, length}
use Rattle.eif_grammar.specs.LeftOut.{left_out, left_out_after}
use Rattle.eif_lex.proofs.left_out.first_left_out.Given as goal

abbrev pub invariant-tokens : goal.invariant-tokens
invariant-tokens l = (l.i ≤ length l.tokens.tokens) × (left_out_after l.before (drop l.i l.tokens.tokens) ≡ left_out l.tokens.tokens)

abbrev pub decreases-tokens : goal.decreases-tokens
decreases-tokens l = length l.tokens.tokens - l.i
