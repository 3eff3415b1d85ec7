use Rattle.std.proofs.Common.{◌≡◌, ℕ, ◌<◌, ◌≤◌, suc, ◌+◌, List, ◌++◌, length, map, Some, sym, ap, subst, ◌∙◌, arith}
use Rattle.std.proofs.lemmas.List.{length-map}
use Rattle.std.proofs.lemmas.Option.{slice_get-get_or, slice_get-map}
use Rattle.std.specs.List.{flat_map, zip}
use Rattle.std.specs.Option.{option_map}
use Rattle.std.specs.Prelude.{slice_get}
use Rattle.eif_base.specs.declared.fault.Fault.{Fault}
use Rattle.eif_tree.specs.View.{class_view, formal_view, type_view}
use Rattle.eif_types.proofs.ActualsInTurn.{actuals_viewed, all_judged, faults_from, judged, none_more, one_more}
use Rattle.eif_types.proofs.actual_faults.Writer.push_wrong_actuals.Goals as goal

pub returns : goal.returns
returns c =
    let w = c.args.self.now in
    let a = class_view c.args.base.now in
    let items = c.deref-actual-items.result.now in
    let ts = map type_view items in
    let viewed = actuals_viewed c.args.tree.now ∙ ap (map type_view) (sym c.deref-actual-items.ensures.value) in
    let past : length ts ≤ c.actuals.i = omega (arith, length-map items type_view) in
    all_judged w c.args.owner a ts c.args.out.now c.actuals.out c.actuals.i c.actuals.invariant past
    ∙ ap (λ ts. c.args.out.now ++ flat_map (judged w c.args.owner a) (zip ts a.formals)) (sym viewed)

pub actuals-preserved : goal.actuals-preserved
actuals-preserved c =
    let x = c.args.self.now in
    let a = class_view c.args.base.now in
    let items = c.deref-actual-items.result.now in
    let formals = c.args.base.now.formals.items in
    let i = c.actuals.i in
    let so_far = c.actuals.invariant in
    let old = c.args.out.now in
    let next : suc i ≡ i + 1 = omega arith in
    elim c.if-i-len.branch [
      | goal.then-i-len+in_ok-push_wrong_actual w ↦ (
          let t = c.actual-item.result in
          let f = w.index.result.now in
          let at : slice_get items i ≡ Some t =
          slice_get-get_or items i t c.actuals-test.true ∙ ap Some (sym c.actual-item.is) in
          let within : i < length formals = omega (arith, w.if-i-len.true, c.len.ensures) in
          let formal : slice_get formals i ≡ Some f =
          slice_get-get_or formals i f within ∙ ap Some (sym w.index.ensures) in
          let more = one_more x c.args.owner a (map type_view items) old c.actuals.out i so_far (type_view t)
          (formal_view f) c.if-i-len.out
          (slice_get-map type_view items i ∙ ap (option_map type_view) at)
          (slice_get-map formal_view formals i ∙ ap (option_map formal_view) formal)
          (w.out-is ∙ w.in_ok-push_wrong_actual.ensures) in
          subst (λ (n : ℕ). c.if-i-len.out ++ faults_from x c.args.owner a (map type_view items) n
          ≡ old ++ faults_from x c.args.owner a (map type_view items) 0) next more)
      | goal.else-i-len w ↦ (
          let past : length a.formals ≤ i = omega (arith, length-map formals formal_view) in
          let more = none_more x c.args.owner a (map type_view items) old c.actuals.out i so_far past in
          subst (λ (n : ℕ). c.if-i-len.out ++ faults_from x c.args.owner a (map type_view items) n
          ≡ old ++ faults_from x c.args.owner a (map type_view items) 0) next
          (ap (λ (fs : List Fault). fs ++ faults_from x c.args.owner a (map type_view items) (suc i)) w.out-is ∙ more))
    ]
