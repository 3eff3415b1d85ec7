-- The number of the root class among the classes of the universe, where the given ones stand behind the kernel's.
use Rattle.std.proofs.Common.{◌≡◌, ℕ, suc, ◌+◌, Bool, true, false, List, [], ◌∷◌, ◌++◌, length, Option, Some, None, refl, ap, subst, ◌∙◌, arith}
use Rattle.std.specs.Prelude.{if◌then◌else◌, is_some, slice_get}
use Rattle.std.specs.Option.{option_map}
use Rattle.std.specs.Str.{bytes_eq}
use Rattle.eif_base.specs.declared.root.Root.{Root}
use Rattle.eif_rules.specs.UniverseRules.{root_number}
use Rattle.eif_system.specs.Kernel.{kernel, kernel_count}
use Rattle.eif_system.specs.Universe.{universe, class_number}
use Rattle.eif_tree.specs.Tree.{ClassT}

number_or : (b : Bool) (front all : Option ℕ) (count i : ℕ)
    → is_some (if b then Some 0 else option_map suc front) ≡ false → (is_some front ≡ false → all ≡ Some (count + i))
    → (if b then Some 0 else option_map suc all) ≡ Some (suc count + i)
number_or true front all count i none h = cc
number_or false (Some k) all count i none h = cc
number_or false None all count i none h =
    let same : suc (count + i) ≡ suc count + i = omega arith in ap (option_map suc) (h refl) ∙ ap Some same

-- the number of a name that no class in front has
number_behind : (front given : List ClassT) (n : List ℕ) (i : ℕ) → is_some (class_number front n) ≡ false
    → class_number given n ≡ Some i → class_number (front ++ given) n ≡ Some (length front + i)
number_behind [] given n i none e = let same : i ≡ 0 + i = omega arith in e ∙ ap Some same
number_behind (x ∷ xs) given n i none e =
    number_or (bytes_eq x.name n) (class_number xs n) (class_number (xs ++ given) n) (length xs) i none
    (λ k. number_behind xs given n i k e)

numbered_or : (b : Bool) (o : Option ℕ) (x : ClassT) (xs : List ClassT) (i : ℕ)
    → ((k : ℕ) → o ≡ Some k → (c : ClassT) × (slice_get xs k ≡ Some c))
    → (if b then Some 0 else option_map suc o) ≡ Some i → (c : ClassT) × (slice_get (x ∷ xs) i ≡ Some c)
numbered_or true o x xs i h e =
    let q : 0 ≡ i = cc in (x, subst (λ i. slice_get (x ∷ xs) i ≡ Some x) q refl)
numbered_or false None x xs i h e = cc
numbered_or false (Some k) x xs i h e =
    let q : suc k ≡ i = cc in
    let c = h k refl in (c.0, subst (λ i. slice_get (x ∷ xs) i ≡ Some c.0) q c.1)

-- a number that a name has is that of a class
pub numbered : (given : List ClassT) (n : List ℕ) (i : ℕ)
    → class_number given n ≡ Some i → (c : ClassT) × (slice_get given i ≡ Some c)
numbered [] n i e = cc
numbered (x ∷ xs) n i e = numbered_or (bytes_eq x.name n) (class_number xs n) x xs i (numbered xs n) e

-- ---- the root class

-- where it is given it is no class of the kernel
number_cases : (b : Bool) (o : Option ℕ) (i : ℕ) → (if b then None else o) ≡ Some i → (b ≡ false) × (o ≡ Some i)
number_cases true o i h = cc
number_cases false o i h = (refl, h)

pub given_root : (given : List ClassT) (root : Root) (i : ℕ) → root_number given root ≡ Some i →
    class_number given root.class_name ≡ Some i
given_root given root i h =
    (number_cases (is_some (class_number kernel root.class_name)) (class_number given root.class_name) i h).1

pub root_number_is : (given : List ClassT) (root : Root) (i : ℕ) → root_number given root ≡ Some i →
    class_number (universe given) root.class_name ≡ Some (kernel_count + i)
unfolding kernel
root_number_is given root i h =
    let n = number_cases (is_some (class_number kernel root.class_name)) (class_number given root.class_name) i h in
    number_behind kernel given root.class_name i n.0 n.1
