use Rattle.std.proofs.Common.{codes, refl, ◌∙◌}
use Rattle.clap.proofs.WalkLemmas.{first_value-rows}
use Rattle.clap.specs.Words.{found_of}
use Rattle.eifcheck.proofs.command_line.given_root.Goals as goal

pub returns-in-Some : goal.returns-in-Some
returns-in-Some c =
    let found = c.in-Some.ensures ∙ first_value-rows (found_of c.args.matches.now) (codes "root") in
    rw (← found, ← c.as_bytes.ensures.value) c.root_of.ensures

pub returns-in-None : goal.returns-in-None
returns-in-None c =
    let found = c.in-None.ensures ∙ first_value-rows (found_of c.args.matches.now) (codes "root") in
    rw (← found) refl
