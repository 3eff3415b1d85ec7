use Rattle.std.proofs.Common.{◌≡◌, drop}
use Rattle.eif_rows.specs.Numbers.{class_numbers}
use Rattle.eif_rows.specs.Rows.{is_client_by}
use Rattle.eif_universe.specs.Universes.{classes_of}
use Rattle.eif_tables.proofs.tables.is_client.Given as goal

abbrev pub invariant-clients : goal.invariant-clients
invariant-clients l =
    is_client_by (classes_of l.u) (class_numbers (drop l.client-index l.clients)) l.class.0
    ≡ is_client_by (classes_of l.u) (class_numbers l.clients) l.class.0
