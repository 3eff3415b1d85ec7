use Rattle.std.proofs.Common.{◌≡◌, false, ◌==◌, ◌++◌, map, length, vec_len, rules, ap, sym, ◌∙◌}
use Rattle.std.proofs.lemmas.List.{append-nil, length-map}
use Rattle.eif_tree.specs.declared.Instr.{the_lemmas as instr_lemmas}
use Rattle.eif_tree.specs.declared.Expr.{the_lemmas as expr_lemmas}
use Rattle.eif_tree.specs.declared.ExprKind.{the_lemmas as kind_lemmas}
use Rattle.eif_tree.specs.Tree.{call, unqualified}
use Rattle.eif_tree.specs.View.{instr_view, expr_view, exs_from}
use Rattle.eif_tree.specs.Members.{called_by}
use Rattle.eif_check.specs.Mentions.{name_at}
use Rattle.eif_check.proofs.Calls.{called_by-more}
use Rattle.eif_check.proofs.mention.push_called_by.Goals as goal

-- a call with arguments adds nothing
pub returns-else-is_empty : goal.returns-else-is_empty
returns-else-is_empty c =
    let args = c.in-Unqualified.args.items in
    let out = map name_at c.args.out.now.items in
    let seen : instr_view c.args.instr.now
    ≡ call (unqualified c.in-Call.call.place c.in-Unqualified.name (exs_from (map expr_view args))) =
    search (rules, instr_lemmas, expr_lemmas, kind_lemmas) in
    let size : length args ≡ vec_len c.in-Unqualified.args = sym c.in-Unqualified.args.ok.0 in
    let some : (length (map expr_view args) == 0) ≡ false =
    rw length-map (ap (λ n. n == 0) size ∙ sym c.is_empty.ensures ∙ c.if-is_empty.false) in
    let none = called_by-more c.in-Call.call.place c.in-Unqualified.name (map expr_view args) some in
    sym (append-nil out) ∙ ap (λ more. out ++ more) (sym none ∙ ap called_by (sym seen))
