use Rattle.std.proofs.Common.{◌≡◌, ◌++◌, take}
use Rattle.std.specs.Prelude.{flat_map}
use Rattle.eif_derivations.specs.Filled.{AreDerived}
use Rattle.eif_derivations.specs.ListNumbers.{lists_of}
use Rattle.eif_feature_rules.specs.DerivationRules.{derivation_faults}
use Rattle.eif_rows.specs.Numbers.{class_numbers}
use Rattle.eif_system.specs.Lineage.{line_of}
use Rattle.eif_universe.specs.Universes.{classes_of}
use Rattle.eif_derivations.proofs.fill.fill_rows.Given as goal

abbrev pub invariant-order : goal.invariant-order
invariant-order l =
    let u = classes_of l.fn.u in
    let done = take l.class_id-index (class_numbers l.fn.order) in
    record {
      rows : AreDerived u (lists_of l.lists) l.rows.items done;
      faults : l.out ≡ l.fn.out ++ flat_map (λ d. derivation_faults u (line_of u d)) done;
    }
