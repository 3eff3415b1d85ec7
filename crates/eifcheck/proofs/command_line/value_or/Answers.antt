use Rattle.std.proofs.Common.{ap, sym, unwrap_or, ◌∙◌}
use Rattle.clap.proofs.WalkLemmas.{first_value-rows}
use Rattle.clap.specs.Words.{found_of}
use Rattle.eifcheck.proofs.Rows.{unwrap_or-map}
use Rattle.eifcheck.proofs.command_line.value_or.Goals as goal

pub returns : goal.returns
returns c =
    let found = c.get_str.ensures ∙ first_value-rows (found_of c.args.matches.now) c.args.id.now in
    let inside = sym (unwrap_or-map (λ r. r.now) c.get_str.result c.args.default) in
    ap (λ r. r.now) c.unwrap_or.ensures ∙ inside ∙ ap (λ o. unwrap_or o c.args.default.now) found
