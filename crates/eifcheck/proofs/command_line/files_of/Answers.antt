use Rattle.std.proofs.Common.{[], ap, codes, map, sym, unwrap_or, List, ℕ, ◌∙◌}
use Rattle.std.specs.Borrow.{Bor}
use Rattle.std.proofs.lemmas.Result.{IfOk-weaker}
use Rattle.clap.proofs.WalkLemmas.{raw_values-rows}
use Rattle.clap.specs.Words.{found_of}
use Rattle.eifcheck.proofs.Rows.{unwrap_or-map}
use Rattle.eifcheck.proofs.command_line.files_of.Goals as goal

-- the texts behind the references of a slice
abbrev texts : Bor (List (Bor (List ℕ))) → List (List ℕ)
texts names = map (λ name. name.now) names.now

pub returns : goal.returns
returns c =
    let found = c.get_strs.ensures ∙ raw_values-rows (found_of c.args.matches.now) (codes "files") in
    let inside = sym (unwrap_or-map texts c.get_strs.result _) in
    let given = ap texts c.unwrap_or.ensures ∙ inside ∙ ap (λ o. unwrap_or o []) found in
    IfOk-weaker c.from_slice.result _ _
    (λ files same. ap (map (λ name. name.now)) same ∙ given) c.from_slice.ensures.items
