use Rattle.std.proofs.Common.{◌≡◌, ◌++◌, length}
use Rattle.eif_grammar.specs.Literals.{string_items, string_value}
use Rattle.eif_lex.proofs.literals.string_value.Given as goal

abbrev pub invariant-items : goal.invariant-items
invariant-items l = l.bytes.items ++ string_items 0 l.rest ≡ string_value l.text

abbrev pub decreases-items : goal.decreases-items
decreases-items l = length l.rest
