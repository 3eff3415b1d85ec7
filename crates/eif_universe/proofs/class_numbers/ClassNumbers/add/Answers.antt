use Rattle.std.proofs.Common.{◌≡◌, ◌∙◌, ap, Option, Some, None, ℕ, false, refl}
use Rattle.std.specs.Prelude.{is_some}
use Rattle.eif_universe.specs.ClassNumbering.{number_in}
use Rattle.eif_universe.proofs.Numbered.{inserted, number}
use Rattle.eif_universe.proofs.class_numbers.ClassNumbers.add.Goals as goal

none_is : (o : Option ℕ) → is_some o ≡ false → o ≡ None
none_is (Some x) h = cc
none_is None h = refl

pub returns-clause-numbers : goal.returns-clause-numbers
returns-clause-numbers c = λ n.
    let names = c.args.self.now in
    let name = c.args.name.now in
    let absent : number_in names name ≡ None = none_is (number_in names name) cc in
    let copy = c.in_ok-from_slice in
    let is = copy.ensures.items in
    ap (λ es. number es n) c.in_ok-insert.ensures.entries
    ∙ inserted copy.field-0 c.args.number name is n names.numbers.entries absent
