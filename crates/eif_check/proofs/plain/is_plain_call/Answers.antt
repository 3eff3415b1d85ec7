use Rattle.std.proofs.Common.{◌≡◌, ◌==◌, map, length, vec_len, rules, ap, sym, ◌∙◌}
use Rattle.std.proofs.lemmas.List.{length-map}
use Rattle.eif_tree.specs.declared.Instr.{the_lemmas as instr_lemmas}
use Rattle.eif_tree.specs.declared.Expr.{the_lemmas as expr_lemmas}
use Rattle.eif_tree.specs.declared.ExprKind.{the_lemmas as kind_lemmas}
use Rattle.eif_tree.specs.Tree.{call, unqualified}
use Rattle.eif_tree.specs.View.{instr_view, expr_view, exs_from}
use Rattle.eif_system_rules.specs.PlainClasses.{is_plain_call}
use Rattle.eif_check.proofs.Forms.{plain_call_is}
use Rattle.eif_check.proofs.plain.is_plain_call.Goals as goal

pub returns-in-Unqualified : goal.returns-in-Unqualified
returns-in-Unqualified c =
    let place = c.in-Call.call.place in
    let name = c.in-Unqualified.name in
    let args = c.in-Unqualified.args.items in
    let seen : instr_view c.args.instr.now ≡ call (unqualified place name (exs_from (map expr_view args))) =
    search (rules, instr_lemmas, expr_lemmas, kind_lemmas) in
    let size : length args ≡ vec_len c.in-Unqualified.args = sym c.in-Unqualified.args.ok.0 in
    c.is_empty.ensures
    ∙ sym (ap is_plain_call seen ∙ plain_call_is place name (map expr_view args)
    ∙ ap (λ n. n == 0) (length-map args expr_view ∙ size))
