-- The routines of the kernel's classes, whose declarations stand in step with the bodies that are built in.
use Rattle.std.proofs.Common.{◌≡◌, ℕ, ◌+◌, ◌<◌, ◌≤◌, Bool, true, false, List, [], ◌∷◌, Option, Some, None, refl, sym, ap, subst, ◌∙◌, arith}
use Rattle.std.proofs.lemmas.Bool.{eqb-true}
use Rattle.std.proofs.lemmas.Option.{same_Some}
use Rattle.std.specs.Option.{option_map}
use Rattle.std.specs.Prelude.{cond, find, slice_get, ◌==◌, if◌then◌else◌}
use Rattle.std.specs.Str.{bytes_eq}
use Rattle.eif_ancestry.proofs.Members.{or_false, is_false}
use Rattle.eif_tree.specs.Members.{has_name, declarations, body_of}
use Rattle.eif_tree.specs.Tree.{Inss, no_inss, DeclT, ClassT}
use Rattle.eif_system.specs.Kernel.{kernel, kernel_count, any_class, character_class, string_class, array_class}
use Rattle.eif_system.specs.TreeForms.{nowhere, named}
use Rattle.eif_system.specs.Universe.{universe}
use Rattle.eif_classes.specs.Features.{declaration_of}
use Rattle.eif_classes.specs.Signatures.{Signature, declared_signature}
use Rattle.eif_lineage_laws.proofs.KernelClasses.{OfKernel, of_each, integer_class, boolean_class}
use Rattle.eif_classes.specs.KernelNumbers.{any_number, character_number, string_number, array_number}
use Rattle.eif_meaning.specs.KernelBodies.{BuiltIn, KernelRoutine, kernel_routines, built_in_body}
use Rattle.eif_run_laws.specs.KernelSignatures.{class_with, signature_of}

-- ---- declarations and bodies in step

module _ (Is : DeclT → BuiltIn → Type 0) where
  -- as many, each declaration with the one name of the body in its place
  abbrev pub InStep : List DeclT → List KernelRoutine → Type 0
  InStep [] [] = Unit {0}
  InStep (x ∷ xs) (r ∷ rs) = (x.names ≡ named nowhere r.name ∷ []) × Is x r.body × InStep xs rs
  InStep _ _ = ⊥

  module _ (n : List ℕ) where
    abbrev declared_in : List DeclT → Option DeclT
    declared_in xs = find (λ x. has_name x.names n) xs

    abbrev built_in : List KernelRoutine → Option BuiltIn
    built_in rs = option_map (λ r. r.body) (find (λ r. bytes_eq r.name n) rs)

    same_name : (x : DeclT) (r : KernelRoutine) → x.names ≡ named nowhere r.name ∷ [] →
        has_name x.names n ≡ bytes_eq r.name n
    same_name x r e = ap (λ ns. has_name ns n) e ∙ or_false (bytes_eq r.name n)

    -- what is found under a name in both belongs together
    pub found_both : (xs : List DeclT) (rs : List KernelRoutine) → InStep xs rs → (y : DeclT) (b : BuiltIn) →
        declared_in xs ≡ Some y → built_in rs ≡ Some b → Is y b
    found_both [] [] h y b e f = cc
    found_both [] (r ∷ rs) h y b e f = absurd h
    found_both (x ∷ xs) [] h y b e f = absurd h
    found_both (x ∷ xs) (r ∷ rs) h y b e f =
        go (bytes_eq r.name n)
        (subst (λ q. cond q (Some x) (declared_in xs) ≡ Some y) (same_name x r h.0) e) f
        (λ e f. found_both xs rs h.2 y b e f)
      where
        go : (q : Bool) → cond q (Some x) (declared_in xs) ≡ Some y →
            option_map (λ r. r.body) (cond q (Some r) (find (λ r. bytes_eq r.name n) rs)) ≡ Some b →
            (declared_in xs ≡ Some y → built_in rs ≡ Some b → Is y b) → Is y b
        go true e f later = subst (λ y. Is y b) (same_Some x y e) (subst (Is x) (same_Some r.body b f) h.1)
        go false e f later = later e f

    -- and what is declared is built in
    pub found_built : (xs : List DeclT) (rs : List KernelRoutine) → InStep xs rs → (y : DeclT) →
        declared_in xs ≡ Some y → built_in rs ≡ None → ⊥
    found_built [] [] h y e f = cc
    found_built [] (r ∷ rs) h y e f = absurd h
    found_built (x ∷ xs) [] h y e f = absurd h
    found_built (x ∷ xs) (r ∷ rs) h y e f =
        go (bytes_eq r.name n)
        (subst (λ q. cond q (Some x) (declared_in xs) ≡ Some y) (same_name x r h.0) e) f
        (λ e f. found_built xs rs h.2 y e f)
      where
        go : (q : Bool) → cond q (Some x) (declared_in xs) ≡ Some y →
            option_map (λ r. r.body) (cond q (Some r) (find (λ r. bytes_eq r.name n) rs)) ≡ None →
            (declared_in xs ≡ Some y → built_in rs ≡ None → ⊥) → ⊥
        go true e f later = cc
        go false e f later = later e f

-- ---- the kernel's classes

-- no given class has a built-in body
none_built : (i : ℕ) (n : List ℕ) → built_in_body (kernel_count + i) n ≡ None
none_built i n =
    let d = kernel_count + i in
    ap (λ rs. option_map (λ r. r.body) (find (λ r. bytes_eq r.name n) rs))
    (chosen (d == any_number) (d == character_number) (d == string_number) (d == array_number) _ _ _ _
    (other any_number (omega arith)) (other character_number (omega arith)) (other string_number (omega arith))
    (other array_number (omega arith)))
  where
    other : (k : ℕ) → k < kernel_count → (kernel_count + i == k) ≡ false
    other k h = is_false (kernel_count + i == k) (λ t. let e = eqb-true (kernel_count + i) k t in omega arith)

    chosen : (p q r s : Bool) (ps qs rs ss : List KernelRoutine) → p ≡ false → q ≡ false → r ≡ false → s ≡ false →
        (if p then ps else if q then qs else if r then rs else if s then ss else []) ≡ []
    chosen false false false false ps qs rs ss e f g h = refl
    chosen true q r s ps qs rs ss e f g h = cc
    chosen false true r s ps qs rs ss e f g h = cc
    chosen false false true s ps qs rs ss e f g h = cc
    chosen false false false true ps qs rs ss e f g h = cc

-- of a declaration: the number of its class, its signature, its body
abbrev pub Text : Type 0
Text = ℕ × Signature × Inss

module _ (given : List ClassT) where
  abbrev u : List ClassT
  u = universe given

  -- the declaration x of the class c, which has the number d, is that of a built-in body
  abbrev pub IsBuilt : ℕ → ClassT → DeclT → BuiltIn → Type 0
  IsBuilt d c x b =
      let text : Text = (d, declared_signature u c x, body_of x.kind) in
      let kernel_text : Text = (class_with b, signature_of b, no_inss) in
      text ≡ kernel_text

  kernel_steps : OfKernel (λ d c. InStep (IsBuilt d c) (declarations c) (kernel_routines d))
  unfolding kernel
  kernel_steps = record {
    any = (refl, refl, (refl, refl, (refl, refl, tt)));
    integer = tt;
    boolean = tt;
    character = (refl, refl, tt);
    string = (refl, refl, (refl, refl, (refl, refl, (refl, refl, (refl, refl, tt)))));
    array = (refl, refl, (refl, refl, (refl, refl, (refl, refl, (refl, refl, (refl, refl, tt))))));
  }

  -- a built-in body has its declaration
  pub built_in_is : (d : ℕ) (c : ClassT) → slice_get u d ≡ Some c → (n : List ℕ) (x : DeclT) (b : BuiltIn) →
      declaration_of c n ≡ Some x → built_in_body d n ≡ Some b → IsBuilt d c x b
  built_in_is =
      of_each given
      (λ d c. (n : List ℕ) (x : DeclT) (b : BuiltIn) → declaration_of c n ≡ Some x → built_in_body d n ≡ Some b
      → IsBuilt d c x b)
      record {
        any = λ n x b e f. of_class 0 any_class kernel_steps.any n x b e f;
        integer = λ n x b e f. of_class 1 integer_class kernel_steps.integer n x b e f;
        boolean = λ n x b e f. of_class 2 boolean_class kernel_steps.boolean n x b e f;
        character = λ n x b e f. of_class 3 character_class kernel_steps.character n x b e f;
        string = λ n x b e f. of_class 4 string_class kernel_steps.string n x b e f;
        array = λ n x b e f. of_class 5 array_class kernel_steps.array n x b e f;
      }
      (λ i c at n x b e f. let z : None ≡ Some b = sym (none_built i n) ∙ f in cc)
    where
      of_class : (d : ℕ) (c : ClassT) → InStep (IsBuilt d c) (declarations c) (kernel_routines d) →
          (n : List ℕ) (x : DeclT) (b : BuiltIn) → declaration_of c n ≡ Some x → built_in_body d n ≡ Some b →
          IsBuilt d c x b
      of_class d c h n x b e f = found_both (IsBuilt d c) n (declarations c) (kernel_routines d) h x b e f

  -- a class that isn't the kernel's
  pub record IsGiven (d : ℕ) (c : ClassT) : Type 0 where
    pub behind : kernel_count ≤ d
    pub place : ℕ
    pub at : slice_get given place ≡ Some c

  -- what isn't built in is declared by a given class
  pub given_declares : (d : ℕ) (c : ClassT) → slice_get u d ≡ Some c → (n : List ℕ) (x : DeclT) →
      declaration_of c n ≡ Some x → built_in_body d n ≡ None → IsGiven d c
  given_declares =
      of_each given
      (λ d c. (n : List ℕ) (x : DeclT) → declaration_of c n ≡ Some x → built_in_body d n ≡ None → IsGiven d c)
      record {
        any = λ n x e f. of_class 0 any_class kernel_steps.any n x e f;
        integer = λ n x e f. of_class 1 integer_class kernel_steps.integer n x e f;
        boolean = λ n x e f. of_class 2 boolean_class kernel_steps.boolean n x e f;
        character = λ n x e f. of_class 3 character_class kernel_steps.character n x e f;
        string = λ n x e f. of_class 4 string_class kernel_steps.string n x e f;
        array = λ n x e f. of_class 5 array_class kernel_steps.array n x e f;
      }
      (λ i c at n x e f. record { behind = omega arith; place = i; at = at })
    where
      of_class : (d : ℕ) (c : ClassT) → InStep (IsBuilt d c) (declarations c) (kernel_routines d) →
          (n : List ℕ) (x : DeclT) → declaration_of c n ≡ Some x → built_in_body d n ≡ None → IsGiven d c
      of_class d c h n x e f = absurd (found_built (IsBuilt d c) n (declarations c) (kernel_routines d) h x e f)
