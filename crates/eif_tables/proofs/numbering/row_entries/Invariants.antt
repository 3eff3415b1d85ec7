use Rattle.std.proofs.Common.{◌≡◌, Some, map, take}
use Rattle.std.specs.Prelude.{slice_get}
use Rattle.eif_tables.proofs.numbering.row_entries.Given as goal

abbrev pub invariant-names : goal.invariant-names
invariant-names l =
    record {
      name_ids : map (λ e. slice_get l.numbering e.name_id.0) l.entries.items
          ≡ map Some (take l.i l.row.names.items);
      feats : map (λ e. slice_get l.row.names.items e.feat.0) l.entries.items
          ≡ map Some (take l.i l.row.names.items);
    }
