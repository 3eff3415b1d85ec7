-- The classes of a universe: those of the kernel one by one, and the given ones.
use Rattle.std.proofs.Common.{◌≡◌, ℕ, zero, suc, ◌+◌, false, List, [], Some, refl, subst, arith}
use Rattle.std.proofs.lemmas.Option.{same_Some}
use Rattle.std.specs.List.{flat_map}
use Rattle.std.specs.Prelude.{slice_get, codes}
use Rattle.eif_rules.specs.UniverseRules.{formal_count, written_type_faults}
use Rattle.eif_system.specs.Graph.{parents_of}
use Rattle.eif_system.specs.Inheritance.{clauses, any_clause, graph_of}
use Rattle.eif_system.specs.Kernel.{kernel, kernel_count, any_name, any_class, character_class, string_class, array_class}
use Rattle.eif_system.specs.TreeForms.{nowhere, bare_class}
use Rattle.eif_system.specs.Universe.{universe, class_number, is_formal}
use Rattle.eif_system.specs.WrittenTypes.{present, nested, type_name, written_types}
use Rattle.eif_tree.specs.Tree.{ClassT}
use Rattle.eif_lineage_laws.specs.Universes.{NamesClass}
use Rattle.eif_lineage_laws.proofs.EachItem.{AllOf}

abbrev pub integer_class : ClassT
integer_class = bare_class nowhere (codes "integer")

abbrev pub boolean_class : ClassT
boolean_class = bare_class nowhere (codes "boolean")

-- P of each of the kernel's classes
pub record OfKernel (P : ℕ → ClassT → Type 0) : Type 0 where
  pub any : P 0 any_class
  pub integer : P 1 integer_class
  pub boolean : P 2 boolean_class
  pub character : P 3 character_class
  pub string : P 4 string_class
  pub array : P 5 array_class

pub of_each : (given : List ClassT) (P : ℕ → ClassT → Type 0) → OfKernel P →
    ((i : ℕ) (c : ClassT) → slice_get given i ≡ Some c → P (kernel_count + i) c) →
    (d : ℕ) (c : ClassT) → slice_get (universe given) d ≡ Some c → P d c
unfolding kernel
of_each given P k f zero c e = subst (P 0) (same_Some any_class c e) k.any
of_each given P k f (suc zero) c e = subst (P 1) (same_Some integer_class c e) k.integer
of_each given P k f (suc (suc zero)) c e = subst (P 2) (same_Some boolean_class c e) k.boolean
of_each given P k f (suc (suc (suc zero))) c e = subst (P 3) (same_Some character_class c e) k.character
of_each given P k f (suc (suc (suc (suc zero)))) c e = subst (P 4) (same_Some string_class c e) k.string
of_each given P k f (suc (suc (suc (suc (suc zero))))) c e = subst (P 5) (same_Some array_class c e) k.array
of_each given P k f (suc (suc (suc (suc (suc (suc i)))))) c e =
    let n : kernel_count + i ≡ suc (suc (suc (suc (suc (suc i))))) = omega arith in
    subst (λ d. P d c) n (f i c e)

module _ (given : List ClassT) where
  abbrev u : List ClassT
  u = universe given

  pub given_at : (i : ℕ) (c : ClassT) → slice_get given i ≡ Some c → slice_get u (kernel_count + i) ≡ Some c
  unfolding kernel
  given_at i c e =
      let n : suc (suc (suc (suc (suc (suc i))))) ≡ kernel_count + i = omega arith in
      subst (λ d. slice_get u d ≡ Some c) n e

  pub any_first : class_number u any_name ≡ Some 0
  unfolding kernel
  any_first = refl

  pub any_has_no_formal : formal_count u 0 ≡ 0
  unfolding kernel
  any_has_no_formal = refl

  pub any_parents : parents_of (graph_of u) 0 ≡ []
  unfolding kernel
  any_parents = refl

  -- ---- the kernel's classes break no rule

  pub kernel_names : OfKernel (λ d c. class_number u c.name ≡ Some d)
  unfolding kernel
  kernel_names =
      record { any = refl; integer = refl; boolean = refl; character = refl; string = refl; array = refl }

  pub kernel_types : OfKernel (λ d c. flat_map (written_type_faults u c) (written_types c) ≡ [])
  unfolding kernel
  kernel_types =
      record { any = refl; integer = refl; boolean = refl; character = refl; string = refl; array = refl }

  pub any_parent : (c : ClassT) → is_formal c any_name ≡ false → NamesClass u c any_clause.parent 0
  unfolding kernel
  any_parent c e = record { no_formal = e; number = refl; count = refl }

  abbrev pub NameClasses : ClassT → Type 0
  NameClasses c = AllOf (λ p. (k : ℕ) × NamesClass u c p.parent k) (clauses c)

  pub kernel_parents : OfKernel (λ d c. NameClasses c)
  kernel_parents = record {
    any = tt;
    integer = ((0, any_parent integer_class refl), tt);
    boolean = ((0, any_parent boolean_class refl), tt);
    character = ((0, any_parent character_class refl), tt);
    string = ((0, any_parent string_class refl), tt);
    array = ((0, any_parent array_class refl), tt);
  }

-- the types in the constraints of a class name no formal
abbrev pub NameNoFormal : ClassT → Type 0
NameNoFormal c =
    AllOf (λ f. AllOf (λ s. is_formal c (type_name s) ≡ false) (flat_map nested (present f.constraint))) c.formals

pub kernel_constraints : OfKernel (λ d c. NameNoFormal c)
kernel_constraints =
    record { any = tt; integer = tt; boolean = tt; character = tt; string = tt; array = (tt, tt) }
