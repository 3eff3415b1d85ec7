use Rattle.std.proofs.Common.{sym}
use Rattle.eif_grammar.specs.Literals.{string_value}
use Rattle.eif_lex.specs.Items.{escape_of}
use Rattle.eif_lex.proofs.StringValues.{next_item}
use Rattle.eif_lex.proofs.literals.string_value.Goals as goal

pub items-preserved : goal.items-preserved
items-preserved c =
    next_item c.items.bytes.items c.push.new.self.items c.items.rest.now c.behind-rest-in-Some.result.now (string_value c.args.text.now) (escape_of c.in-Some.item)
    (sym c.in-Some.ensures.value) c.in_ok-push.ensures.items c.behind-rest-in-Some.ensures c.items.invariant
