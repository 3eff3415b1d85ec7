use Rattle.std.proofs.Common.{◌==◌, map, ap, sym, ◌∙◌}
use Rattle.std.proofs.lemmas.List.{length-map}
use Rattle.eif_tree.specs.View.{assertion_view}
use Rattle.eif_check.proofs.Forms.{no_assertions_are}
use Rattle.eif_check.proofs.plain.no_assertions.Goals as goal

pub returns : goal.returns
returns c =
    let claims = c.args.claims.now in
    c.is_empty.ensures
    ∙ sym (no_assertions_are (map assertion_view claims) ∙ ap (λ n. n == 0) (length-map claims assertion_view))
