use Rattle.std.proofs.Common.{◌≡◌, map}
use Rattle.eifcheck.proofs.FileReads.{AreRead}
use Rattle.eifcheck.proofs.reading.read_files.Given as goal

abbrev pub invariant-names : goal.invariant-names
invariant-names g l =
    AreRead (map (λ name. name.now) l.names) (g.T.Texts.holds l.initial.texts) (g.T.Texts.holds l.texts)
    (g.T.Texts.reads l.initial.texts) (g.T.Texts.reads l.texts) l.files l.name-index l.total
    × (g.T.Texts.faults l.texts ≡ g.T.Texts.faults l.initial.texts)
