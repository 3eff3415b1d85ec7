use Rattle.std.proofs.Common.{ap, ◌∙◌}
use Rattle.eif_classes.specs.Clients.{is_available}
use Rattle.eif_rows.specs.Numbers.{class_numbers}
use Rattle.eif_rows.specs.Rows.{is_client_by}
use Rattle.eif_system.specs.Lineage.{line_of}
use Rattle.eif_universe.specs.Universes.{classes_of}
use Rattle.eif_tables.proofs.Held.{feature_named}
use Rattle.eif_tables.proofs.tables.Tables.available.Goals as goal

pub returns : goal.returns
returns c = λ n named.
    let u = classes_of c.args.u.now in
    let d = c.args.c.0 in
    let k = c.args.client.0 in
    let x = feature_named (line_of u d) c.args.f.0 n named in
    let row = c.feature_row.ensures u x.0 c.requires.tables x.1 in
    c.is_client.ensures
    ∙ (ap (λ cs. is_client_by u (class_numbers cs) k) c.deref.ensures.value
    ∙ (row.2.clients k ∙ ap (λ n. is_available u (line_of u d) n k) x.2))
