use Rattle.std.proofs.Common.{◌+◌, ◌++◌, ◌∙◌, get_or, ap, sym, subst}
use Rattle.std.proofs.lemmas.Option.{slice_get-get_or}
use Rattle.eif_choices.proofs.Ancestors.{AreSoFar, all_so_far, more_so_far}
use Rattle.eif_rows.specs.Numbers.{class_numbers}
use Rattle.eif_choices.proofs.choices.choices_of.Goals as goal

pub ancestors-preserved : goal.ancestors-preserved
ancestors-preserved c =
    let rows = c.args.rows.now in
    let h = c.args.heir.now in
    let ks = c.deref-k-items.result.now in
    let j = c.ancestors.k-index in
    let choice = c.in_ok-choice.choice in
    let cands = c.ancestors.candidates.items in
    subst (λ new. AreSoFar rows h ks (j + 1) new c.push.new.self.items) (sym c.in_ok-append.ensures.items)
    (subst (λ new. AreSoFar rows h ks (j + 1) (cands ++ choice.candidates.items) new) (sym c.in_ok-push.ensures.items)
    (more_so_far rows h ks
    (λ u s is. ap class_numbers c.deref-k-items.ensures.value ∙ c.in_ok-above.ensures u s is) j
    (get_or ks j (record { 0 = 0 })) c.in-Some.row.now choice cands c.ancestors.ancestors.items
    (slice_get-get_or ks j (record { 0 = 0 }) c.ancestors-test.true) c.in-Some.ensures c.in_ok-choice.ensures
    c.ancestors.invariant))

pub returns : goal.returns
returns c =
    all_so_far c.args.rows.now c.args.heir.now c.deref-k-items.result.now
    (λ u s is. ap class_numbers c.deref-k-items.ensures.value ∙ c.in_ok-above.ensures u s is) c.ancestors.k-index _
    (sym c.deref-k-items.ensures.value) c.ancestors-test.false c.ancestors.invariant
