use Rattle.std.proofs.Common.{◌≡◌, ◌∙◌, suc, ◌+◌, Bool, Some, List, length, take, sym, ap, subst, arith}
use Rattle.std.specs.Prelude.{is_some, map, slice_get}
use Rattle.std.specs.Option.{option_map}
use Rattle.std.proofs.lemmas.List.{length-map}
use Rattle.std.proofs.lemmas.Option.{slice_get-get_or, slice_get-map}
use Rattle.eif_tree.specs.declared.class.ClassTree.{ClassTree}
use Rattle.eif_tree.specs.Tree.{ClassT}
use Rattle.eif_tree.specs.View.{class_view}
use Rattle.eif_system.specs.Universe.{class_number}
use Rattle.eif_universe.specs.ClassNumbering.{number_in, or_number}
use Rattle.eif_universe.proofs.Numbered.{Marked, number_more, mark_more, marks_all}
use Rattle.eif_universe.proofs.class_numbers.number_classes.Goals as goal

pub classes-preserved : goal.classes-preserved
classes-preserved c =
    let trees = c.args.trees.now in
    let u : List ClassT = map class_view trees in
    let i = c.classes.i in
    let t : ClassTree = c.index-trees-i.result in
    let s = class_view t in
    let here = slice_get-get_or trees i t c.classes-test.true ∙ ap Some (sym c.index-trees-i.is) in
    let at : slice_get u i ≡ Some s = slice_get-map class_view trees i ∙ ap (option_map class_view) here in
    let more : suc i ≡ i + 1 = omega arith in
    let names = c.classes.invariant.names in
    let marks = c.classes.repeated.items in
    let known = ap (λ m. is_some (number_in c.classes.numbers m)) c.text.ensures ∙ ap is_some (names s.name) in
    record {
      names = λ n. c.in_ok-add.ensures.numbers n
          ∙ (ap (λ m. or_number (number_in c.classes.numbers n) m i n) c.text.ensures
          ∙ (ap (λ o. or_number o s.name i n) (names n)
          ∙ (sym (number_more s n u i at) ∙ ap (λ k. class_number (take k u) n) more)));
      marks = subst (λ l. Marked u (i + 1) l) (sym {A = List Bool} c.in_ok-push.ensures.items)
          (mark_more u i marks s at c.in_ok-add.field-0 (c.in_ok-add.ensures.known ∙ known) c.classes.invariant.marks);
    }

pub returns-clause-repeated : goal.returns-clause-repeated
returns-clause-repeated c =
    let trees = c.args.trees.now in
    let all : length (map class_view trees) ≡ c.classes.i = omega (arith, length-map trees class_view) in
    marks_all (map class_view trees) c.classes.i c.classes.repeated.items all c.classes.invariant.marks
