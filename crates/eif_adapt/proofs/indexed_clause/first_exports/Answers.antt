use Rattle.std.proofs.Common.{◌≡◌, ◌∙◌, List, [], ◌∷◌, length, take, map, sym, ap, arith}
use Rattle.std.proofs.lemmas.List.{length-map, length-take-le, map-append}
use Rattle.eif_tree.specs.declared.class.ExportItem.{ExportItem}
use Rattle.eif_tree.specs.Members.{has_name}
use Rattle.eif_tree.specs.Tree.{ExportT}
use Rattle.eif_tree.specs.View.{export_view}
use Rattle.eif_adapt.specs.FirstPlaces.{place_of, or_place, first_place, AreFirstPlaces}
use Rattle.eif_adapt.specs.NamedItems.{names_item}
use Rattle.eif_adapt.proofs.OneOn.{one_on, at_end}
use Rattle.eif_adapt.proofs.Places.{first_place-push}
use Rattle.eif_adapt.proofs.indexed_clause.first_exports.Goals as goal

pub exports-preserved : goal.exports-preserved
exports-preserved c =
    let exports = c.args.exports.now in
    let i = c.exports.i in
    let x = c.index-exports-i.result in
    let places = c.exports.places in
    let so_far : List ExportT = map export_view (take i exports) in
    let long : length so_far ≡ i =
    length-map (take i exports) export_view ∙ length-take-le i exports (omega arith) in
    one_on (λ (xs : List ExportItem). AreFirstPlaces names_item (map export_view xs) c.add_all.new.places) exports i x
    c.exports-test.true c.index-exports-i.is
    (λ n. c.in_ok-add_all.ensures n
    ∙ (ap (λ ns. or_place (place_of places n) (has_name ns n) i) c.deref.ensures.value
    ∙ (ap (λ o. or_place o (has_name x.names.items n) i) (c.exports.invariant n)
    ∙ (first_place-push (names_item n) so_far (export_view x) i long
    ∙ ap (first_place (names_item n)) (sym (map-append export_view (take i exports) (x ∷ [])))))))

pub returns : goal.returns
returns c =
    at_end (λ (xs : List ExportItem). AreFirstPlaces names_item (map export_view xs) c.exports.places)
    c.args.exports.now c.exports.i (omega arith) c.exports.invariant
