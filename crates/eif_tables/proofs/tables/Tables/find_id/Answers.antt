use Rattle.std.proofs.Common.{◌≡◌, ◌≢◌, ℕ, List, Some, map, ap, subst, ◌∙◌}
use Rattle.std.specs.Prelude.{slice_get}
use Rattle.std.specs.List.Sorted.{IsStrictlyIncreasing}
use Rattle.eif_classes.specs.Features.{names}
use Rattle.eif_system.specs.Lineage.{line_of}
use Rattle.eif_tables.specs.declared.row_entry.RowEntry.{RowEntry}
use Rattle.eif_tables.proofs.Entries.{same_name}
use Rattle.eif_tables.proofs.Held.{entries_of, name_absent}
use Rattle.eif_tables.proofs.tables.Tables.find_id.Goals as goal

pub returns-in-Some-clause-found : goal.returns-in-Some-clause-found
returns-in-Some-clause-found c = λ u are.
    let t = c.args.self.now in
    let table = c.table.result.now in
    let found = c.in-Some.ensures.found in
    same_name t.names (names (line_of u c.args.c.0)) table.entries.items
    (entries_of u t are c.args.c.0 table c.table.ensures) found.0 c.in-Some.entry
    (subst (λ es. slice_get es found.0 ≡ Some c.in-Some.entry) c.deref.ensures.value found.1)
    ∙ ap (slice_get t.names) found.2

pub returns-in-None-clause-none : goal.returns-in-None-clause-none
returns-in-None-clause-none c = λ u n are numbered.
    let t = c.args.self.now in
    let table = c.table.result.now in
    let none = subst (λ (es : List RowEntry). IsStrictlyIncreasing (map (λ e. e.name_id.0) es)
    → (i : ℕ) (e : RowEntry) → slice_get es i ≡ Some e → e.name_id.0 ≢ c.args.id.0) c.deref.ensures.value
    c.in-None.ensures.none in
    name_absent u t are c.args.c.0 table c.table.ensures c.args.id.0 n numbered
    (none (entries_of u t are c.args.c.0 table c.table.ensures).rising)
