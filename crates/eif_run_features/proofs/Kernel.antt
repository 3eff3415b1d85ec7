-- The kernel's classes: basic ones are not deferred, and ANY has `out`.
use Rattle.std.proofs.Common.{◌≡◌, ℕ, ◌+◌, ◌≤◌, arith, Bool, true, false, List, [], Some, refl, sym, ap, subst, ◌∙◌}
use Rattle.std.proofs.lemmas.Bool.{eqb-true}
use Rattle.std.specs.Option.{option_map_or}
use Rattle.eif_ancestry.proofs.Members.{or_cases}
use Rattle.std.specs.Prelude.{not, ◌||◌, ◌&&◌, ◌==◌, slice_get}
use Rattle.eif_classes.specs.KernelNumbers.{any_number, integer_number, boolean_number, character_number, is_basic}
use Rattle.eif_classes.specs.Signatures.{Signature, signature}
use Rattle.eif_lineage_laws.proofs.KernelClasses.{of_each}
use Rattle.eif_lineage_laws.proofs.Unfolding.{unfolded}
use Rattle.eif_meaning.specs.KernelTypes.{string_type, out_name}
use Rattle.eif_meaning.specs.System.{system_over}
use Rattle.eif_run_laws.specs.ObjectTypes.{has_instances}
use Rattle.eif_system.specs.Graph.{IsOrder}
use Rattle.eif_system.specs.Inheritance.{graph_of}
use Rattle.eif_system.specs.Kernel.{kernel, kernel_count, any_class}
use Rattle.eif_system.specs.Lineage.{line, top, line_of}
use Rattle.eif_system.specs.Universe.{universe}
use Rattle.eif_tree.specs.Tree.{ClassT}
use Rattle.eif_binding_laws.proofs.FineClasses.{any_at}

-- ---- classes that have instances

-- given classes are not basic
not_basic : (d : ℕ) → kernel_count ≤ d → is_basic d ≡ true → ⊥
not_basic d le h = or_cases ⊥ ((d == integer_number) || (d == boolean_number)) (d == character_number) h
    (λ t. or_cases ⊥ (d == integer_number) (d == boolean_number) t
    (λ t. let e = eqb-true d integer_number t in omega arith)
    (λ t. let e = eqb-true d boolean_number t in omega arith))
    (λ t. let e = eqb-true d character_number t in omega arith)

-- basic classes are not deferred
basic_effective : (given : List ClassT) (d : ℕ) (c : ClassT) → slice_get (universe given) d ≡ Some c
    → is_basic d ≡ true
    → c.is_deferred ≡ false
basic_effective given = of_each given (λ d c. is_basic d ≡ true → c.is_deferred ≡ false)
    (record {
      any = λ h. refl;
      integer = λ h. refl;
      boolean = λ h. refl;
      character = λ h. refl;
      string = λ h. refl;
      array = λ h. refl;
    })
    (λ i c at h. absurd (not_basic (kernel_count + i) (omega arith) h))

-- nor are others that may have instances
pub instances_effective : (given : List ClassT) (d : ℕ) (c : ClassT) → slice_get (universe given) d ≡ Some c
    → has_instances (system_over (universe given)) d ≡ true
    → c.is_deferred ≡ false
instances_effective given d c at h =
    go (is_basic d) refl
    (sym (ap (λ o. is_basic d || option_map_or (λ (c : ClassT). not c.is_deferred && not (is_basic d)) o false) at) ∙ h)
  where
    creatable : (a b : Bool) → (not a && b) ≡ true → a ≡ false
    creatable false b h = refl
    creatable true b h = cc

    go : (b : Bool) → is_basic d ≡ b → (b || (not c.is_deferred && not (is_basic d))) ≡ true → c.is_deferred ≡ false
    go true e h = basic_effective given d c at e
    go false e h = creatable c.is_deferred (not (is_basic d)) h

-- ---- ANY

module _ (given : List ClassT) (order : List ℕ) (ordered : IsOrder (graph_of (universe given)) order) where
  any_line : line_of (universe given) 0 ≡ line 0 any_class top
  any_line = unfolded (universe given) order ordered 0 any_class (any_at given)

  abbrev text : Signature
  text = record { arguments = []; result = Some string_type }

  pub any_out : signature (universe given) (line_of (universe given) any_number) out_name ≡ Some text
  unfolding kernel
  any_out = subst (λ l. signature (universe given) l out_name ≡ Some text) (sym any_line) refl
