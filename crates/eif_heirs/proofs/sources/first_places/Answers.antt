use Rattle.std.proofs.Common.{◌≡◌, ◌==◌, Some, take, get_or, subst, sym, ◌∙◌, arith}
use Rattle.std.specs.Prelude.{slice_get}
use Rattle.std.specs.List.{position_from}
use Rattle.std.proofs.lemmas.List.{length-take-le, take_more}
use Rattle.eif_base.specs.declared.feat_id.FeatId.{FeatId}
use Rattle.eif_heirs.proofs.Places.{noted_more}
use Rattle.eif_heirs.proofs.sources.first_places.Goals as goal

pub names-preserved : goal.names-preserved
names-preserved c = record {
  count = c.note_first.ensures.count ∙ c.names.invariant.count;
  places = λ k h.
      let names = c.args.names.now in
      let i = c.names.i in
      let test = c.names-test.true in
      let none : FeatId = record { 0 = 0 } in
      subst (λ fs. slice_get c.note_first.new.places.items k ≡ Some (position_from (λ f. f.0 == k) 0 fs))
      (sym (take_more names i none test))
      (noted_more c.names.places.items c.note_first.new.places.items k (take i names) (get_or names i none) i
      (c.names.invariant.places k h) (sym (length-take-le i names (omega arith))) (c.note_first.ensures.places k));
}
