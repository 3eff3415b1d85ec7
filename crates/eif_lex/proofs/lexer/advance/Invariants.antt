use Rattle.std.proofs.Common.{◌≡◌, ◌+◌, ◌≤◌, drop, fold}
use Rattle.eif_grammar.specs.Places.{step}
use Rattle.eif_lex.proofs.lexer.advance.Given as goal

abbrev pub invariant-bytes : goal.invariant-bytes
invariant-bytes l = record {
  value : fold step (l.line, l.column) (drop l.b-index l.bytes) ≡ fold step (l.fn.line, l.fn.column) l.bytes;
  line : l.line ≤ l.fn.line + l.b-index;
  column : l.column ≤ l.fn.column + l.b-index;
}
