use Rattle.std.proofs.Common.{min, sym, ◌∙◌}
use Rattle.std.proofs.lemmas.Result.{IfOk-weaker}
use Rattle.eif_par.proofs.Assembled.{assembled}
use Rattle.eif_par.proofs.division.in_pieces.Goals as goal

pub returns : goal.returns
returns g c =
    let results = c.in_ok-results.results in
    let ensured = c.in_ok-results.ensures in
    IfOk-weaker c.all_ok.result _ _
    (λ v h.
    assembled (g.W.PieceWork.gives c.args.work.now) c.args.count c.min-pieces.result (min c.args.workers c.args.count)
    results.items v.items h
    (sym results.ok.0 ∙ ensured.count) c.min-pieces.ensures ensured.each)
    c.all_ok.ensures
