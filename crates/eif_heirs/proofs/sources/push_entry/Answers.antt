use Rattle.std.proofs.Common.{refl}
use Rattle.std.specs.Prelude.{slice_index_or}
use Rattle.std.proofs.lemmas.Option.{slice_get-get_or}
use Rattle.eif_heirs.proofs.Places.{collected-push, declared-set}
use Rattle.eif_heirs.proofs.sources.push_entry.Goals as goal

pub returns-clause-declared : goal.returns-clause-declared
returns-clause-declared c =
    let sources = c.args.sources.now in
    declared-set sources c.args.name.0 (slice_index_or sources c.args.name.0 c.index-sources-name.result) _
    (slice_get-get_or sources c.args.name.0 c.index-sources-name.result c.requires) refl

pub returns-clause-entries : goal.returns-clause-entries
returns-clause-entries c = λ k.
    let sources = c.args.sources.now in
    collected-push sources c.args.name.0 (slice_index_or sources c.args.name.0 c.index-sources-name.result) _
    c.args.entry k (slice_get-get_or sources c.args.name.0 c.index-sources-name.result c.requires) c.requires
    c.in_ok-push.ensures.items
