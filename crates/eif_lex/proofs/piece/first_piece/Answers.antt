use Rattle.std.proofs.Common.{◌≤◌, length}
use Rattle.eif_grammar.specs.declared.piece.Piece.{Piece}
use Rattle.eif_lex.proofs.Longer.{longer-keeps-at}
use Rattle.eif_lex.proofs.piece.first_piece.Goals as goal

pub returns-clause-within : goal.returns-clause-within
returns-clause-within c =
    let P = λ (p : Piece). p.len ≤ length c.args.text.now in
    longer-keeps-at P _ _ _ c.longer-6.ensures c.blank.ensures.within
    (longer-keeps-at P _ _ _ c.longer-5.ensures c.comment.ensures.within
    (longer-keeps-at P _ _ _ c.longer-tokens.ensures c.word.ensures.within
    (longer-keeps-at P _ _ _ c.longer-4.ensures c.integer.ensures.within
    (longer-keeps-at P _ _ _ c.longer-3.ensures c.real.ensures.within
    (longer-keeps-at P _ _ _ c.longer-quoted.ensures c.character.ensures.within
    (longer-keeps-at P _ _ _ c.longer-2.ensures c.string.ensures.within
    (longer-keeps-at P _ _ _ c.longer.ensures c.verbatim.ensures.within c.symbol.ensures.within)))))))
