-- What runs ask of the kernel's classes, and with that of types, in a system without a breach of the universe, of features
-- and of derivations.
use Rattle.std.specs.Prelude.{List}
use Rattle.eif_base.specs.declared.root.Root.{Root}
use Rattle.eif_binding_laws.specs.WellFormed.{IsDerived}
use Rattle.eif_system.specs.Universe.{universe}
use Rattle.eif_tree.specs.Tree.{ClassT}
use Rattle.eif_meaning.specs.System.{system_over}
use Rattle.eif_run_laws.specs.SystemLaws.{KernelLaws, TypeLaws}
use Rattle.eif_run_sound.specs.UniverseLaws.{OpenTypeLaws}

-- P of the universe of given classes that break no rule up to those of derivations
abbrev pub OfDerived : (List ClassT → Type 0) → Type 0
OfDerived P = (given : List ClassT) (root : Root) → IsDerived given root → P (universe given)

-- no class inherits from one of the kernel's but ANY, which have no fields
abbrev pub KernelIsLawful : Type 0
KernelIsLawful = OfDerived (λ u. KernelLaws (system_over u))

-- closed types, and types of a class with actuals put in, are as runs ask
abbrev pub TypesHold : Type 0
TypesHold = OfDerived (λ u. TypeLaws (system_over u) × OpenTypeLaws u)
