use Rattle.std.proofs.Common.{ℕ, List, map, Some, sym, ap, ◌∙◌}
use Rattle.std.proofs.lemmas.Result.{IfOk-weaker}
use Rattle.eif_classes.specs.Features.{names}
use Rattle.eif_feature_faults.proofs.Replicating.{kept_numbers, none_kept}
use Rattle.eif_rows.specs.Numbers.{names_of}
use Rattle.eif_rows.specs.declared.declaration_id.DeclarationId.{DeclarationId}
use Rattle.eif_system.specs.Lineage.{line_of}
use Rattle.eif_feature_faults.proofs.replication.HeirOf.kept.Goals as goal

pub returns-in-Some : goal.returns-in-Some
returns-in-Some c =
    let x = c.args.self.now in
    let id : DeclarationId = record { class_id = x.becomes.now.class_id; feat = c.in-Some.feat } in
    IfOk-weaker c.kept_among.result _ _
    (λ v kept u d k s is.
    ap (names_of (names (line_of u d))) kept
    ∙ kept_numbers u d k c.args.name.now x is id is.becomes_is.class (c.in-Some.ensures.found u k is.row_is)
    c.deref.result.now
    (ap (names_of (names (line_of u d))) c.deref.ensures.value ∙ c.in_ok-reached.ensures u d k s is))
    c.kept_among.ensures

pub returns-in-None : goal.returns-in-None
returns-in-None c = λ u d k s is.
    c.in_ok-reached.ensures u d k s is
    ∙ sym (ap (λ (ns : List (List ℕ)). map Some ns)
    (none_kept u s d k c.args.name.now (c.in-None.ensures.none u k is.row_is)))
