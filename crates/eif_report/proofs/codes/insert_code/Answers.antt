use Rattle.std.proofs.Common.{◌∙◌, sym}
use denote.Enum.Bare.{differs_true, differs_false}
use Rattle.eif_base.specs.contracts.code.Code.{the_type}
use Rattle.eif_report.proofs.PutCode.{put_code-last, put_code-held, put_code-insert}
use Rattle.eif_report.proofs.codes.insert_code.Goals as goal

pub returns-in_ok-push-in-None : goal.returns-in_ok-push-in-None
returns-in_ok-push-in-None c =
    c.in_ok-push-in-None.ensures.items
    ∙ sym (put_code-last c.args.code c.args.codes.now.items (rw (← c.deref.ensures.value) (sym c.in-None.ensures)))

pub returns-in_ok-insert-in-Some : goal.returns-in_ok-insert-in-Some
returns-in_ok-insert-in-Some c =
    let other = differs_true the_type _ _ (sym c.ne.ensures ∙ c.if-ne.true) in
    c.in_ok-insert-in-Some.ensures.items
    ∙ sym (put_code-insert c.args.code c.index.result.now c.args.codes.now.items c.in-Some.i
    (rw (← c.deref.ensures.value) (sym c.in-Some.ensures)) c.index.ensures other)

pub returns-else-ne : goal.returns-else-ne
returns-else-ne c =
    let same = differs_false the_type tt _ _ (sym c.ne.ensures ∙ c.if-ne.false) in
    sym (put_code-held c.args.code c.index.result.now c.args.codes.now.items c.in-Some.i
    (rw (← c.deref.ensures.value) (sym c.in-Some.ensures)) c.index.ensures (sym same))
