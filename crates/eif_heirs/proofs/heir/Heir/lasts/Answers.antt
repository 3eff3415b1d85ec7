use Rattle.std.proofs.Common.{◌∙◌}
use Rattle.eif_heirs.proofs.FoundEntries.{found, found_lasts}
use Rattle.eif_heirs.proofs.heir.Heir.lasts.Goals as goal

pub returns : goal.returns
returns c = λ u e is at.
    let h = c.args.self.now in
    c.is_lasting.ensures ∙ found_lasts u h c.args.entry e (found u h is c.args.entry e at)
