use Rattle.std.proofs.Common.{◌≡◌, ◌+◌, List, length, map, false, sym, ap, subst, ◌∙◌, arith}
use Rattle.std.proofs.lemmas.List.{length-map}
use Rattle.std.specs.Prelude.{slice_get}
use Rattle.eif_base.specs.Appends.{Appends}
use Rattle.eif_base.proofs.Adding.{loop_ends, loop_goes_on}
use Rattle.eif_rules.specs.UniverseRules.{ClassBroken}
use Rattle.eif_system.specs.Kernel.{kernel_count}
use Rattle.eif_tree.specs.Tree.{ClassT}
use Rattle.eif_tree.specs.View.{class_view}
use Rattle.eif_universe.specs.ClassesView.{classes_view}
use Rattle.eif_universe.specs.Universes.{GivenBroken}
use Rattle.eif_universe.proofs.RootNumbers.{given_place}
use Rattle.eif_universe.proofs.Told.{mark_is, view_at}
use Rattle.eif_universe.proofs.judge.push_given_faults.Goals as goal

pub push_class_faults-requires-clause-repeated : goal.push_class_faults-requires-clause-repeated
push_class_faults-requires-clause-repeated c =
    let u = classes_view c.args.classes.now in
    let i = c.classes.i in
    let x = c.index-given-i.result in
    mark_is u c.args.repeated.now (kernel_count + i) (class_view x) false c.requires.repeated
    (given_place u i c.requires.kernel
    ∙ (ap (λ (v : List ClassT). slice_get v i) (sym c.requires.given)
    ∙ view_at class_view c.args.given.now i x c.classes-test.true c.index-given-i.is))

pub classes-preserved : goal.classes-preserved
classes-preserved c =
    let given = c.args.given.now in
    let i = c.classes.i in
    let x = c.index-given-i.result in
    loop_goes_on c.args.out.now c.classes.out c.push_class_faults.new.out (map class_view given)
    (λ i t f. ClassBroken (classes_view c.args.classes.now) (kernel_count + i) t f) i (class_view x)
    (view_at class_view given i x c.classes-test.true c.index-given-i.is) c.classes.invariant
    c.in_ok-push_class_faults.ensures

pub returns : goal.returns
returns c =
    let u = classes_view c.args.classes.now in
    let given = c.args.given.now in
    let all : length given ≡ c.classes.i = omega arith in
    subst (λ (ts : List ClassT). Appends c.args.out.now c.classes.out (GivenBroken u ts)) c.requires.given
    (loop_ends c.args.out.now c.classes.out (map class_view given)
    (λ i t f. ClassBroken u (kernel_count + i) t f) c.classes.i (length-map given class_view ∙ all) c.classes.invariant)
