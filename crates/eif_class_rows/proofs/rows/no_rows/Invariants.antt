use Rattle.eif_class_rows.specs.Filling.{HasNone}
use Rattle.eif_class_rows.proofs.rows.no_rows.Given as goal

abbrev pub invariant-classes : goal.invariant-classes
invariant-classes l = HasNone l.counter l.rows.items
