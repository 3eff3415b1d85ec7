-- The root class by its number in the universe.
use Rattle.std.proofs.Common.{◌≡◌, ℕ, zero, suc, ◌+◌, ◌<◌, ◌≤◌, List, [], ◌∷◌, ◌++◌, length, Option, Some, None, refl, sym, ap, subst, ◌∙◌, arith, length-take, take}
use Rattle.std.specs.Prelude.{slice_get, is_some, is_none, if◌then◌else◌}
use Rattle.std.specs.Option.{option_and_then, option_map, option_map_or, option_or}
use Rattle.eif_base.specs.declared.root.Root.{Root}
use Rattle.eif_rules.specs.FaultForms.{fault_where}
use Rattle.eif_rules.specs.UniverseRules.{given_root_faults, no_root_class, root_class, root_class_faults, root_faults, root_number}
use Rattle.eif_system.specs.Kernel.{kernel, kernel_count}
use Rattle.eif_system.specs.Universe.{class_number, universe}
use Rattle.eif_tree.specs.Tree.{ClassT}
use Rattle.eif_universe.specs.Universes.{HasKernel, given_in}
use Rattle.eif_universe.proofs.FirstNamed.{class_number-append, class_number-within}
use Rattle.eif_universe.proofs.KernelCount.{length-kernel}
use Rattle.eif_universe.proofs.NoCircle.{universe_split}

after_kernel : (given : List ClassT) (i : ℕ) → slice_get (universe given) (kernel_count + i) ≡ slice_get given i
after_kernel given i = subst (λ n. slice_get (universe given) (n + i) ≡ slice_get given i) length-kernel (past kernel)
  where
    past : (xs : List ClassT) → slice_get (xs ++ given) (length xs + i) ≡ slice_get given i
    past [] = let e : 0 + i ≡ i = omega arith in ap (slice_get given) e
    past (x ∷ xs) = let e : length (x ∷ xs) + i ≡ suc (length xs + i) = omega arith in
        ap (slice_get (x ∷ (xs ++ given))) e ∙ past xs

module _ (given : List ClassT) (root : Root) where
  abbrev n : List ℕ
  n = root.class_name

  -- the root class, by the numbers of its name among the kernel's classes and the given ones
  abbrev by_numbers : Option ℕ → Option ℕ → Option ClassT
  by_numbers a b = option_and_then (slice_get given) (if is_some a then None else b)

  -- its number in the universe
  abbrev joined : Option ℕ → Option ℕ → Option ℕ
  joined a b = option_or a (option_map (λ d. length kernel + d) b)

  no_number : class_number (universe given) n ≡ None → root_class given root ≡ None
  no_number e = go (class_number kernel n) (class_number given n) (sym (class_number-append kernel given n) ∙ e)
    where
      go : (a b : Option ℕ) → joined a b ≡ None → by_numbers a b ≡ None
      go (Some k) b e = refl
      go None (Some k) e = cc
      go None None e = refl

  kernel_number : (k : ℕ) → class_number (universe given) n ≡ Some k → k < kernel_count →
      root_class given root ≡ None
  kernel_number k e near =
      go (class_number kernel n) (class_number given n) (sym (class_number-append kernel given n) ∙ e)
    where
      go : (a b : Option ℕ) → joined a b ≡ Some k → by_numbers a b ≡ None
      go (Some k) b e = refl
      go None (Some d) e = let q : length kernel + d ≡ k = cc in let l = length-kernel in absurd (omega arith)
      go None None e = refl

  given_number : (k : ℕ) → class_number (universe given) n ≡ Some k → kernel_count ≤ k →
      slice_get (universe given) k ≡ root_class given root
  given_number k e far = go (class_number kernel n) refl (class_number given n)
      (sym (class_number-append kernel given n) ∙ e)
    where
      go : (a : Option ℕ) → class_number kernel n ≡ a → (b : Option ℕ) → joined a b ≡ Some k →
          slice_get (universe given) k ≡ by_numbers a b
      go (Some m) h b e =
          let q : m ≡ k = cc in
          let w = class_number-within kernel n m h in
          let l = length-kernel in
          absurd (omega arith)
      go None h (Some d) e =
          let q : length kernel + d ≡ k = cc in
          let l = length-kernel in
          let s : k ≡ kernel_count + d = omega arith in
          ap (slice_get (universe given)) s ∙ after_kernel given d
      go None h None e = cc

  -- the faults where the root class isn't given
  pub none_given : root_class given root ≡ None → root_faults given root ≡ no_root_class root ∷ []
  none_given e = go (class_number kernel n) (class_number given n) refl e
    where
      go : (a b : Option ℕ) → class_number given n ≡ b → by_numbers a b ≡ None →
          fault_where (is_none (if is_some a then None else b)) (no_root_class root)
          ++ given_root_faults given (if is_some a then None else b) ≡ no_root_class root ∷ []
      go (Some k) b h e = refl
      go None None h e = refl
      go None (Some i) h e =
          let w = class_number-within given n i h in
          absurd (within given i w e)
        where
          within : (xs : List ClassT) (i : ℕ) → i < length xs → slice_get xs i ≡ None → ⊥
          within [] i w e = omega arith
          within (x ∷ xs) zero w e = cc
          within (x ∷ xs) (suc i) w e = within xs i (omega arith) e

  -- the faults where it is
  pub one_given : (c : ClassT) → Some c ≡ root_class given root → root_faults given root ≡ root_class_faults c
  one_given c e = go (root_number given root) e
    where
      go : (r : Option ℕ) → Some c ≡ option_and_then (slice_get given) r →
          fault_where (is_none r) (no_root_class root) ++ given_root_faults given r ≡ root_class_faults c
      go None e = cc
      go (Some i) e = ap (λ (o : Option ClassT). option_map_or root_class_faults o []) (sym e)

-- ---- in a universe that begins with the kernel

module _ (u : List ClassT) (root : Root) (h : HasKernel u) where
  as_split : (o : Option ℕ) → class_number u root.class_name ≡ o →
      class_number (universe (given_in u)) root.class_name ≡ o
  as_split o e = ap (λ (v : List ClassT). class_number v root.class_name) (universe_split u h) ∙ e

  pub root_unknown : class_number u root.class_name ≡ None → root_class (given_in u) root ≡ None
  root_unknown e = no_number (given_in u) root (as_split None e)

  pub root_of_kernel : (k : ℕ) → class_number u root.class_name ≡ Some k → k < kernel_count →
      root_class (given_in u) root ≡ None
  root_of_kernel k e near = kernel_number (given_in u) root k (as_split (Some k) e) near

  pub root_at : (k : ℕ) → class_number u root.class_name ≡ Some k → kernel_count ≤ k →
      slice_get u k ≡ root_class (given_in u) root
  root_at k e far =
      ap (λ (v : List ClassT). slice_get v k) (sym (universe_split u h))
      ∙ given_number (given_in u) root k (as_split (Some k) e) far

-- the given classes stand after the kernel's
pub given_place : (u : List ClassT) (i : ℕ) → HasKernel u → slice_get u (kernel_count + i) ≡ slice_get (given_in u) i
given_place u i h =
    ap (λ (v : List ClassT). slice_get v (kernel_count + i)) (sym (universe_split u h)) ∙ after_kernel (given_in u) i

pub kernel_fits : (u : List ClassT) → HasKernel u → kernel_count ≤ length u
kernel_fits u h =
    let e : length (take kernel_count u) ≡ kernel_count = ap (λ (v : List ClassT). length v) h ∙ length-kernel in
    let m = length-take kernel_count u in
    omega arith
