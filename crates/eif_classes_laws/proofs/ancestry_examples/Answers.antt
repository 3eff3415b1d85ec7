use Rattle.std.proofs.Common.{refl}
use Rattle.eif_system.specs.Kernel.{kernel}
use Rattle.eif_system.specs.Lineage.{line_of}
use Rattle.eif_classes_laws.proofs.ancestry_examples.Goals as goal

pub returns-clause-ancestry : goal.returns-clause-ancestry
unfolding kernel line_of
returns-clause-ancestry c = record {
  own = refl;
  by_formal = refl;
  by_class = refl;
  of_any = refl;
  no_ancestor = refl;
  two_steps = refl;
  agreeing = refl;
  differing = refl;
  differing_any = refl;
  largest = refl;
  too_large = refl;
}

pub returns-clause-descent : goal.returns-clause-descent
unfolding kernel line_of
returns-clause-descent c = record {
  proper = refl;
  of_any = refl;
  itself = refl;
  heir = refl;
  of_heir = refl;
  undefined = refl;
}
