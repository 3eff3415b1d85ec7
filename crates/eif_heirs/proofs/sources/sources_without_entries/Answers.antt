use Rattle.std.proofs.Common.{refl, ap, ◌∙◌}
use Rattle.eif_heirs.specs.Numbered.{collected}
use Rattle.eif_heirs.proofs.Places.{declared-more, none-more}
use Rattle.eif_heirs.proofs.sources.sources_without_entries.Goals as goal

pub names-preserved : goal.names-preserved
names-preserved c = record {
  declared = declared-more c.names.sources.items c.push.new.self.items _ c.args.places.now c.names.place-index _
      c.in_ok-push.ensures.items c.names-test.true c.names.invariant.declared refl;
  none = λ k. ap (λ ss. collected ss k) c.in_ok-push.ensures.items
      ∙ none-more c.names.sources.items _ c.new.ensures.items c.names.invariant.none k;
}
