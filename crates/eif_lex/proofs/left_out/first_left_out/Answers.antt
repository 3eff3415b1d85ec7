use Rattle.std.proofs.Common.{◌≡◌, true, false, sym, ◌∙◌, arith}
use Rattle.eif_lex.proofs.Lists.{is_left_out_after, left_out_here, left_out_later}
use Rattle.eif_lex.proofs.left_out.first_left_out.Goals as goal

pub returns-then-is_left_out_after-clause-first : goal.returns-then-is_left_out_after-clause-first
returns-then-is_left_out_after-clause-first c =
    let is : is_left_out_after c.tokens.before c.terminal-terminal.result ≡ true = sym c.is_left_out_after.ensures ∙ c.if-is_left_out_after.true in
    sym c.tokens.invariant.1 ∙ left_out_here c.args.tokens.now.tokens c.tokens.i c.tokens.before c.terminal-terminal.result c.terminal-terminal.ensures is

pub tokens-preserved : goal.tokens-preserved
tokens-preserved c =
    let is : is_left_out_after c.tokens.before c.terminal-terminal.result ≡ false = sym c.is_left_out_after.ensures ∙ c.if-is_left_out_after.false in (
      omega arith,
      sym (left_out_later c.args.tokens.now.tokens c.tokens.i c.tokens.before c.terminal-terminal.result c.terminal-terminal.ensures is) ∙ c.tokens.invariant.1,
    )
