use Rattle.std.proofs.Common.{◌≡◌, ◌∙◌, ℕ, List, take, sym, ap, arith}
use Rattle.std.specs.Str.{bytes_eq}
use Rattle.eif_tree.specs.declared.tree.NameAt.{NameAt}
use Rattle.eif_tree.specs.Members.{has_name}
use Rattle.eif_adapt.specs.FirstPlaces.{place_of, or_place}
use Rattle.eif_adapt.proofs.Listed.{has_name-push}
use Rattle.eif_adapt.proofs.OneOn.{one_on, at_end}
use Rattle.eif_adapt.proofs.Places.{or_place-false, or_place_twice}
use Rattle.eif_adapt.proofs.indexed_clause.add_all.Goals as goal

pub names-init : goal.names-init
names-init c = λ n. or_place-false (place_of c.args.places.now n) c.args.place

pub names-preserved : goal.names-preserved
names-preserved c =
    let names = c.args.names.now in
    let i = c.names.name-index in
    let x = c.name-item.result in
    let place = c.args.place in
    let before = place_of c.args.places.now in
    one_on (λ (ns : List NameAt). (n : List ℕ) → place_of c.add.new.self n ≡ or_place (before n) (has_name ns n) place)
    names i x c.names-test.true c.name-item.is
    (λ n. c.in_ok-add.ensures n
    ∙ (ap (λ o. or_place o (bytes_eq n x.name) place) (c.names.invariant n)
    ∙ (or_place_twice (before n) (has_name (take i names) n) (bytes_eq n x.name) place
    ∙ ap (λ b. or_place (before n) b place) (sym (has_name-push (take i names) x n)))))

pub returns : goal.returns
returns c =
    at_end (λ (ns : List NameAt). (n : List ℕ)
    → place_of c.names.places n ≡ or_place (place_of c.args.places.now n) (has_name ns n) c.args.place)
    c.args.names.now c.names.name-index (omega arith) c.names.invariant
