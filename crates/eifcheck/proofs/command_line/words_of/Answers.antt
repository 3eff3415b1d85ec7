use Rattle.std.proofs.Common.{◌∙◌, ap, codes, sym}
use Rattle.clap.proofs.WalkLemmas.{first_value-rows}
use Rattle.clap.specs.Words.{found_of, rows_of}
use Rattle.eifcheck.specs.Form.{form_of, is_check, workers_of}
use Rattle.eifcheck.proofs.Rows.{command_of_rows-nameless, command_of_rows-whole}
use Rattle.eifcheck.proofs.command_line.words_of.Goals as goal

pub returns-then-not-names_some : goal.returns-then-not-names_some
returns-then-not-names_some c =
    let found = found_of c.args.matches.now in
    let has_list = c.get_str-list.ensures ∙ first_value-rows found (codes "list") in
    let nameless = sym (rw c.deref.ensures.value at c.if-not-names_some.ensures) in
    command_of_rows-nameless (rows_of found) _ _ has_list c.in_ok-files.ensures nameless

pub returns : goal.returns
returns c =
    let found = found_of c.args.matches.now in
    let checks = ap is_check (sym c.value_or.ensures) ∙ sym c.if-not-is_check.ensures in
    let as_form = ap form_of (sym c.value_or-2.ensures) ∙ sym c.form_of.ensures in
    let has_form = as_form ∙ c.in_ok-form.ensures.ok_part in
    let has_workers = ap workers_of (sym c.value_or-3.ensures) ∙ c.in_ok-workers.ensures.states in
    let has_list = c.get_str-list.ensures ∙ first_value-rows found (codes "list") in
    let named = sym (rw c.deref.ensures.value at c.if-not-names_some.ensures) in
    command_of_rows-whole (rows_of found) _
    c.in_ok-root.ensures checks has_form has_workers has_list c.in_ok-files.ensures named
