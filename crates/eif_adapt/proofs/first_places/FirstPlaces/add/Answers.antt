use Rattle.std.proofs.Common.{◌≡◌, ◌∙◌, ap, Option, Some, None, ℕ, false, refl}
use Rattle.std.specs.Prelude.{is_some}
use Rattle.eif_adapt.specs.FirstPlaces.{place_of}
use Rattle.eif_adapt.proofs.Places.{inserted, place_in}
use Rattle.eif_adapt.proofs.first_places.FirstPlaces.add.Goals as goal

none_is : (o : Option ℕ) → is_some o ≡ false → o ≡ None
none_is (Some x) h = cc
none_is None h = refl

pub returns : goal.returns
returns c = λ n.
    let places = c.args.self.now in
    let name = c.args.name.now in
    let absent : place_of places name ≡ None = none_is (place_of places name) cc in
    let copy = c.in_ok-copy in
    ap (λ es. place_in es n) c.in_ok-insert.ensures.entries
    ∙ inserted copy.copy c.args.place name (copy.ensures.items ∙ c.text.ensures) n places.places.entries absent
