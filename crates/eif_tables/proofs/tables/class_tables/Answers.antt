use Rattle.std.proofs.Common.{◌++◌, [], ◌∷◌, List, append_assoc, ap, refl, sym, ◌∙◌}
use Rattle.eif_rows.specs.declared.row.Row.{Row}
use Rattle.eif_tables.specs.Numbered.{IsTableOf}
use Rattle.eif_tables.proofs.Entries.{Match-more}
use Rattle.eif_tables.proofs.tables.class_tables.Goals as goal

pub rows-preserved : goal.rows-preserved
rows-preserved c =
    let before = c.rows.yielded in
    let row = c.in-Some.row in
    record {
      tables = Match-more (IsTableOf c.args.names.now) c.rows.classes.items c.push.new.self.items
          c.in_ok-class_table.field-0 before (before ++ row ∷ []) row c.in_ok-push.ensures.items refl
          c.rows.invariant.tables c.in_ok-class_table.ensures;
      left = c.rows.invariant.left
          ∙ (ap (λ (rs : List Row). before ++ rs) c.in-Some.ensures.steps.0
          ∙ sym (append_assoc before (row ∷ []) c.next.new.self.rest.items));
    }
