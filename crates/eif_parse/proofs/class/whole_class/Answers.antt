use Rattle.std.proofs.Common.{arith}
use Rattle.eif_parse.proofs.WholeTexts.{whole_error, more_left, all_read}
use Rattle.eif_parse.proofs.class.whole_class.Goals as goal

pub returns-in_err-class : goal.returns-in_err-class
returns-in_err-class c = whole_error c.args.tokens.now.tokens _ _ c.from_residual.ensures.1 c.in_err-class.ensures

pub returns-then-class-count : goal.returns-then-class-count
returns-then-class-count c =
    let x = c.in_ok-class.class in more_left c.args.tokens.now.tokens x.next x.tree c.in_ok-class.ensures.outcome (omega (arith, c.if-class-count.true, c.count.ensures))

pub returns : goal.returns
returns c = let x = c.in_ok-class.class in all_read c.args.tokens.now.tokens x.next x.tree c.in_ok-class.ensures.outcome (omega (arith, c.if-class-count.false, c.count.ensures))
