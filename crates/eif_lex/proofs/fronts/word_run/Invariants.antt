use Rattle.std.proofs.Common.{◌≡◌, ◌+◌, ◌-◌, ◌≤◌, drop, length}
use Rattle.eif_grammar.specs.Lexemes.{run_length, in_word}
use Rattle.eif_lex.proofs.fronts.word_run.Given as goal

abbrev pub invariant-letters : goal.invariant-letters
invariant-letters l = (l.n ≤ length l.text) × (l.n + run_length in_word (drop l.n l.text) ≡ run_length in_word l.text)

abbrev pub decreases-letters : goal.decreases-letters
decreases-letters l = length l.text - l.n
