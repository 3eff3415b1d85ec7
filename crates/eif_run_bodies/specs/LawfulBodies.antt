-- What runs ask of bodies, in a system of class texts that breaks no rule up to those of derivations, and none of bodies.
use Rattle.std.specs.Prelude.{List}
use Rattle.eif_base.specs.declared.root.Root.{Root}
use Rattle.eif_binding_laws.specs.WellFormed.{IsDerived}
use Rattle.eif_body_rules.specs.BodyRules.{GivenBodiesBroken}
use Rattle.eif_rules.specs.FaultForms.{IsNone}
use Rattle.eif_run_sound.specs.UniverseLaws.{BodyLaws}
use Rattle.eif_spelled_trees.specs.SpelledTrees.{AreSpelled}
use Rattle.eif_system.specs.Universe.{universe}
use Rattle.eif_tree.specs.Tree.{ClassT}

abbrev pub BodiesAreLawful : Type 0
BodiesAreLawful =
    (given : List ClassT) (root : Root) → AreSpelled given → IsDerived given root → IsNone (GivenBodiesBroken given)
    → BodyLaws (universe given)
