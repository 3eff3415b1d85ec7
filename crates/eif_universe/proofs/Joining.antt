-- The kernel's classes and the given ones in one list.
use Rattle.std.proofs.Common.{◌≡◌, ◌+◌, List, ◌++◌, length, map, take, drop, sym, ap, ◌∙◌, arith, length-append}
use Rattle.std.proofs.lemmas.List.{drop_at, length-map, map-append, take_at}
use Rattle.eif_system.specs.Kernel.{kernel, kernel_count}
use Rattle.eif_system.specs.Universe.{universe}
use Rattle.eif_tree.specs.Tree.{ClassT}
use Rattle.eif_tree.specs.View.{class_view}
use Rattle.eif_tree.specs.declared.class.ClassTree.{ClassTree}
use Rattle.eif_universe.specs.Universes.{HasKernel, given_in}
use Rattle.eif_universe.proofs.KernelCount.{length-kernel}

module _ (first given trees : List ClassTree) (k : map class_view first ≡ kernel) (j : trees ≡ first ++ given) where
  pub joined_universe : map class_view trees ≡ universe (map class_view given)
  joined_universe =
      ap (map class_view) j
      ∙ (map-append class_view first given ∙ ap (λ (ts : List ClassT). ts ++ map class_view given) k)

  first_length : length first ≡ kernel_count
  first_length = sym (length-map first class_view) ∙ (ap length k ∙ length-kernel)

  pub joined_length : length trees ≡ kernel_count + length given
  joined_length =
      let e : length trees ≡ length first + length given = ap length j ∙ length-append first given in
      let f = first_length in
      omega arith

  pub joined_rest : drop kernel_count trees ≡ given
  joined_rest = ap (drop kernel_count) j ∙ drop_at first given kernel_count first_length

  pub joined_kernel : HasKernel (map class_view trees)
  joined_kernel =
      ap (take kernel_count) joined_universe ∙ take_at kernel (map class_view given) kernel_count length-kernel

  pub joined_given : given_in (map class_view trees) ≡ map class_view given
  joined_given =
      ap (drop kernel_count) joined_universe ∙ drop_at kernel (map class_view given) kernel_count length-kernel
