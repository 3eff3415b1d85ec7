use Rattle.std.proofs.Common.{◌≡◌, true, false, sym, ap, ap₂, ◌∙◌}
use Rattle.std.specs.Prelude.{not, ◌&&◌}
use Rattle.eif_heirs.specs.EntryParts.{is_redefined_at, lasts_at}
use Rattle.eif_heirs.proofs.FoundEntries.{found, found_kept}
use Rattle.eif_heirs.proofs.heir.Heir.is_kept.Goals as goal

pub returns-then-is_lasting : goal.returns-then-is_lasting
returns-then-is_lasting c = λ u e is at.
    let h = c.args.self.now in
    let id = c.args.entry in
    let yes : true ≡ lasts_at h id = sym c.if-is_lasting.true ∙ c.is_lasting.ensures in
    ap₂ (λ a b. a && not b) yes c.is_redefined.ensures ∙ found_kept u h id e (found u h is id e at)

pub returns-else-is_lasting : goal.returns-else-is_lasting
returns-else-is_lasting c = λ u e is at.
    let h = c.args.self.now in
    let id = c.args.entry in
    let no : false ≡ lasts_at h id = sym c.if-is_lasting.false ∙ c.is_lasting.ensures in
    c.if-is_lasting.false
    ∙ (ap (λ a. a && not (is_redefined_at h id)) no ∙ found_kept u h id e (found u h is id e at))
