use Rattle.std.proofs.Common.{sym}
use Rattle.eif_lex.proofs.Lists.{head-drop}
use Rattle.eif_lex.proofs.tokens.Tokens.next_terminal.Goals as goal

pub returns-then-i-count : goal.returns-then-i-count
returns-then-i-count c = sym (head-drop c.args.self.now.tokens c.args.i c.terminal.result c.terminal.ensures)
