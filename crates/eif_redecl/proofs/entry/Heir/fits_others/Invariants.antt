use Rattle.std.proofs.Common.{◌≡◌, List, map, drop}
use Rattle.std.specs.List.{list_all}
use Rattle.eif_redecl.specs.EntryViews.{entry_view, fits_beside}
use Rattle.eif_signatures.specs.SignatureViews.{signature_view}
use Rattle.eif_tree.specs.Tree.{ClassT}
use Rattle.eif_types.specs.TypeTables.{AreTypesOf}
use Rattle.eif_redecl.proofs.entry.Heir.fits_others.Given as goal

abbrev pub invariant-entries : goal.invariant-entries
invariant-entries l =
    (u : List ClassT) → AreTypesOf u l.self.system.types.now
    → list_all (fits_beside u l.self.class_id.0 (signature_view l.signature))
    (map entry_view (drop l.entry-index l.entries))
    ≡ list_all (fits_beside u l.self.class_id.0 (signature_view l.signature)) (map entry_view l.entries)
