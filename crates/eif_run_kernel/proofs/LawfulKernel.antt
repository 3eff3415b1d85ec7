-- What runs ask of the kernel's classes and of types, in a system that breaks no rule up to those of derivations.
use Rattle.std.proofs.Common.{List}
use Rattle.eif_base.specs.declared.root.Root.{Root}
use Rattle.eif_binding_laws.specs.WellFormed.{IsDerived}
use Rattle.eif_lineage_laws.proofs.WholeClasses.{has_order}
use Rattle.eif_meaning.specs.System.{system_over}
use Rattle.eif_run_kernel.proofs.Heirs.{no_heirs}
use Rattle.eif_run_kernel.proofs.KernelObjects.{fieldless, plain}
use Rattle.eif_run_laws.specs.SystemLaws.{KernelLaws, TypeLaws}
use Rattle.eif_run_sound.specs.UniverseLaws.{OpenTypeLaws}
use Rattle.eif_run_types.proofs.LawfulTypes.{laws, open_laws}
use Rattle.eif_system.specs.Universe.{universe}
use Rattle.eif_tree.specs.Tree.{ClassT}
use Rattle.eif_type_laws.proofs.ValidUniverses.{defined, clauses_valid}
use Rattle.eif_type_laws.proofs.WholeUniverses.{hierarchy}

module _ (given : List ClassT) (root : Root) (is : IsDerived given root) where
  pub kernel_laws : KernelLaws (system_over (universe given))
  kernel_laws = record {
    final = no_heirs given root is.universe;
    fieldless = fieldless given root is.universe;
    plain = plain given root is.universe;
  }

  pub type_laws : TypeLaws (system_over (universe given)) × OpenTypeLaws (universe given)
  type_laws =
      let u = universe given in
      let order = has_order given root is.universe in
      let h = hierarchy given root is.universe order.0 order.1 in
      let d = defined given root is.universe is.derivations in (
        laws u order.0 h d kernel_laws,
        open_laws u order.0 h d (clauses_valid given root is.universe is.derivations),
      )
