use Rattle.std.proofs.Common.{refl}
use Rattle.eif_derivations.specs.ListNumbers.{lists_of}
use Rattle.eif_derivations.specs.declared.fill.Derivations.{Derivations}
use Rattle.eif_derivations.proofs.Filling.{all_derivations}
use Rattle.eif_universe.specs.Universes.{classes_of, numbers_of}
use Rattle.eif_derivations.proofs.fill.Derivations.of.Goals as goal

pub returns-clause-rows : goal.returns-clause-rows
returns-clause-rows c =
    let x : Derivations = record { lists = c.fill_rows.new.lists; rows = c.in_ok-rows.rows } in
    all_derivations (classes_of c.args.u.now) (numbers_of c.order.result.now) c.order.ensures
    (lists_of c.fill_rows.new.lists) c.in_ok-filled.filled.items c.in_ok-filled.ensures.rows x refl
    c.in_ok-rows.ensures.length c.in_ok-rows.ensures.each
