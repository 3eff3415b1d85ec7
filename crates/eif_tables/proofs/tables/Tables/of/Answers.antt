use Rattle.std.proofs.Common.{List, ap, flat_map, ◌∙◌}
use Rattle.eif_classes.specs.Names.{name_set}
use Rattle.eif_rows.specs.declared.row.Row.{Row}
use Rattle.eif_tables.proofs.RowsAt.{are_tables}
use Rattle.eif_tables.proofs.tables.Tables.of.Goals as goal

pub returns : goal.returns
returns c = λ u system whole long are.
    are_tables (record { classes = c.in_ok-classes.classes; names = c.in_ok-names.names }) c.args.rows.items
    (flat_map (λ (r : Row). r.names.items) c.args.rows.items)
    (c.in_ok-names.ensures
    ∙ ap (λ (rs : List Row). name_set (flat_map (λ (r : Row). r.names.items) rs)) c.deref.ensures.value)
    c.in_ok-classes.ensures u system whole long are
