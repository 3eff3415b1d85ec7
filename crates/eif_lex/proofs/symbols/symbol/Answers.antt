use Rattle.std.proofs.Common.{◌<◌, ◌≤◌, IfSome, Option, subst, sym, length}
use Rattle.eif_grammar.specs.declared.piece.Piece.{Piece}
use Rattle.eif_grammar.specs.Words.{symbols}
use Rattle.eif_lex.proofs.Longer.{longest_row-within, longest_row-filled, symbols-filled}
use Rattle.eif_lex.proofs.symbols.symbol.Goals as goal

pub returns-in-len1-up-clause-some : goal.returns-in-len1-up-clause-some
returns-in-len1-up-clause-some c =
    subst (λ (o : Option Piece). IfSome o (λ p. 0 < p.len)) (sym c.longest_row.ensures) (longest_row-filled symbols c.args.text.now symbols-filled)

pub returns-in-len1-up-clause-within : goal.returns-in-len1-up-clause-within
returns-in-len1-up-clause-within c =
    subst (λ (o : Option Piece). IfSome o (λ p. p.len ≤ length c.args.text.now)) (sym c.longest_row.ensures) (longest_row-within symbols c.args.text.now)
