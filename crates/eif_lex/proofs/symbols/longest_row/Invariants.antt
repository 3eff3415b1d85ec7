use Rattle.std.proofs.Common.{◌≡◌, ◌≤◌, drop, length, map}
use Rattle.eif_grammar.specs.Lexemes.{longest_row}
use Rattle.eif_lex.proofs.symbols.longest_row.Given as goal

abbrev pub invariant-rows : goal.invariant-rows
invariant-rows l = (l.i ≤ length l.rows) × (l.longest ≡ longest_row (map (λ r. (r.0.now, r.1)) (drop l.i l.rows)) l.text)

abbrev pub decreases-rows : goal.decreases-rows
decreases-rows l = l.i
