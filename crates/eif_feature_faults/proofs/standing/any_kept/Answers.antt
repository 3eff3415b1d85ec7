use Rattle.std.proofs.Common.{ap, sym, get_or, List, Option}
use Rattle.std.proofs.lemmas.Option.{slice_get-get_or}
use Rattle.eif_classes.specs.Entries.{Entry}
use Rattle.eif_feature_rules.specs.DeclarationRules.{is_kept}
use Rattle.eif_feature_faults.proofs.Beside.{fails_all, fails_here, passes_here}
use Rattle.eif_feature_faults.proofs.standing.any_kept.Goals as goal
use Rattle.eif_heirs.specs.Clauses.{entry_at, ups_in}
use Rattle.eif_heirs.specs.declared.heir.EntryId.{EntryId}
use Rattle.eif_tree.specs.View.{class_view}

pub returns-then-is_kept : goal.returns-then-is_kept
returns-then-is_kept c = λ u es heir are.
    let ids = c.args.ids.now in
    let i = c.entries.id-index in
    let none : EntryId = record { clause = 0; feat = record { 0 = 0 } } in
    passes_here (entry_at (ups_in u (class_view c.args.heir.now.tree.now))) is_kept ids es are i (get_or ids i none)
    c.is_kept.result (slice_get-get_or ids i none c.entries-test.true) (λ e at. c.is_kept.ensures u e heir at) c.if-is_kept.true

pub entries-preserved : goal.entries-preserved
entries-preserved c = λ u es heir are.
    let ids = c.args.ids.now in
    let i = c.entries.id-index in
    let none : EntryId = record { clause = 0; feat = record { 0 = 0 } } in
    fails_here (entry_at (ups_in u (class_view c.args.heir.now.tree.now))) is_kept ids es are i (get_or ids i none)
    c.is_kept.result (slice_get-get_or ids i none c.entries-test.true) (λ e at. c.is_kept.ensures u e heir at) c.if-is_kept.false
    (c.entries.invariant u es heir are)

pub returns : goal.returns
returns c = λ u es heir are.
    fails_all (entry_at (ups_in u (class_view c.args.heir.now.tree.now))) is_kept c.args.ids.now es are c.entries.id-index
    c.entries-test.false (c.entries.invariant u es heir are)
