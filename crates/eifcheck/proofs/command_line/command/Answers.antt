use Rattle.std.proofs.Common.{Bool, Some, ap, ap₂, true, ◌∙◌}
use Rattle.std.proofs.lemmas.Result.{IfOk-weaker}
use Rattle.clap.specs.declared.builder.action.ArgAction.TheVariants.{Append}
use Rattle.clap.specs.declared.builder.arg.Arg.{Arg}
use Rattle.clap.specs.Words.{Rule, rule_of, with_rule}
use Rattle.eifcheck.proofs.command_line.command.Goals as goal

abbrev is_global : Arg → Bool
is_global a = a.global

abbrev required : Rule → Rule
required r = record r { required = true }

abbrev appending : Rule → Rule
appending r = record r { action = Some Append }

pub returns : goal.returns
returns c =
    let root_is = ap rule_of c.required.ensures ∙ ap required c.option.ensures.rule in
    let root_local = ap is_global c.required.ensures ∙ c.option.ensures.local in
    let files_are = ap rule_of c.action-files.ensures ∙ ap appending c.new.ensures.rule in
    let files_local = ap is_global c.action-files.ensures ∙ c.new.ensures.optional.1 in
    let with_root = c.in_ok-arg.ensures.shape root_local ∙ ap₂ with_rule c.bare_command.ensures root_is in
    let add_do = c.in_ok-arg-2.ensures.shape c.option-2.ensures.local in
    let with_do = add_do ∙ ap₂ with_rule with_root c.option-2.ensures.rule in
    let add_form = c.in_ok-arg-3.ensures.shape c.option-3.ensures.local in
    let with_form = add_form ∙ ap₂ with_rule with_do c.option-3.ensures.rule in
    let add_workers = c.in_ok-arg-4.ensures.shape c.option-4.ensures.local in
    let with_workers = add_workers ∙ ap₂ with_rule with_form c.option-4.ensures.rule in
    let add_list = c.in_ok-arg-5.ensures.shape c.option-5.ensures.local in
    let with_list = add_list ∙ ap₂ with_rule with_workers c.option-5.ensures.rule in
    IfOk-weaker c.arg-6.result _ _ (λ r h. h.shape files_local ∙ ap₂ with_rule with_list files_are) c.arg-6.ensures
