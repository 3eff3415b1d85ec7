use Rattle.std.proofs.Common.{◌≡◌, ◌∙◌, List, length, take, ap, arith}
use Rattle.std.specs.Str.{bytes_eq}
use Rattle.std.proofs.lemmas.Cmp.{nat_list_eq_equiv}
use Rattle.std.proofs.lemmas.List.{length-take-le}
use Rattle.eif_tree.specs.declared.tree.RenamePair.{RenamePair}
use Rattle.eif_adapt.specs.FirstPlaces.{place_of, or_place, AreFirstPlaces}
use Rattle.eif_adapt.specs.NamedItems.{has_old_name}
use Rattle.eif_adapt.proofs.OneOn.{one_on, at_end}
use Rattle.eif_adapt.proofs.Places.{first_place-push}
use Rattle.eif_adapt.proofs.indexed_clause.first_renames.Goals as goal

pub renames-preserved : goal.renames-preserved
renames-preserved c =
    let renames = c.args.renames.now in
    let i = c.renames.i in
    let r = c.index-renames-i.result in
    let old = r.old_name.name in
    let places = c.renames.places in
    let long : length (take i renames) ≡ i = length-take-le i renames (omega arith) in
    one_on (λ (rs : List RenamePair). AreFirstPlaces has_old_name rs c.add.new.self) renames i r
    c.renames-test.true c.index-renames-i.is
    (λ n. c.in_ok-add.ensures n
    ∙ (ap (λ b. or_place (place_of places n) b i) (nat_list_eq_equiv.symm n old)
    ∙ (ap (λ o. or_place o (bytes_eq old n) i) (c.renames.invariant n)
    ∙ first_place-push (has_old_name n) (take i renames) r i long)))

pub returns : goal.returns
returns c =
    at_end (λ (rs : List RenamePair). AreFirstPlaces has_old_name rs c.renames.places) c.args.renames.now c.renames.i
    (omega arith) c.renames.invariant
