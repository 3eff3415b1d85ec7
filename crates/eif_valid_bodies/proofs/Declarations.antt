-- Declarations of classes without faults are valid.
use Rattle.std.proofs.Common.{arith, ◌≡◌, ℕ, zero, suc, ◌+◌, ◌<◌, ◌≤◌, Bool, true, false, List, [], ◌∷◌, ◌++◌, map, Option, Some, None, refl, sym, ap, subst, ◌∙◌, ◌⊎◌, inl, inr}
use Rattle.std.specs.Prelude.{◌||◌, if◌then◌else◌, flat_map, take, slice_get}
use Rattle.std.specs.List.{enumerate_from, find, list_any}
use Rattle.std.specs.Option.{option_map_or}
use Rattle.std.specs.Str.{bytes_eq}
use Rattle.std.proofs.lemmas.Slice.Eq.{bytes_eq-Decides}
use Rattle.eif_base.specs.Appends.{In}
use Rattle.eif_base.specs.declared.fault.Fault.{Fault}
use Rattle.eif_base.specs.Numbering.{is_among, IsNumbering}
use Rattle.eif_tree.specs.declared.tree.NameAt.{NameAt}
use Rattle.eif_tree.specs.Members.{declarations, has_name, result_name}
use Rattle.eif_tree.specs.Tree.{Inss, KindT, attribute, constant, deferred_body, routine, DeclT, ClassT}
use Rattle.eif_system.specs.Kernel.{kernel, kernel_count}
use Rattle.eif_system.specs.Universe.{universe}
use Rattle.eif_classes.specs.Features.{has_feature}
use Rattle.eif_classes.specs.Types.{TyT, is_self_initialising}
use Rattle.eif_rules.specs.FaultForms.{IsNone}
use Rattle.eif_body_rules.specs.BodyRules.{in_precondition, in_body, unset_at_end, unset_result, routine_faults, declaration_faults, class_body_faults, numbered_body_faults, body_faults, GivenBodiesBroken}
use Rattle.eif_body_rules.specs.EntityRules.{names_feature, repeated_entity, entity_rule, entity_faults}
use Rattle.eif_body_rules.specs.InstructionFaults.{assertion_faults, compound_faults}
use Rattle.eif_body_rules.specs.LocalFlow.{set_after_all}
use Rattle.eif_body_rules.specs.Settings.{Setting, Entity, entity_of}
use Rattle.eif_valid_bodies.specs.SetReads.{ResultIsSet}
use Rattle.eif_valid_bodies.specs.ValidBodies.{ValidEntities, ValidKind, ValidDeclaration, ValidClass}
use Rattle.eif_valid_bodies.proofs.Parts.{no_value, some_same, left_empty, right_empty, kept}
use Rattle.eif_valid_bodies.proofs.ReadsSet.{set_by}
use Rattle.eif_valid_bodies.proofs.Instructions.{body_valid}

-- ---- lists

-- none in all is none of each
each_empty : {A B : Type 0} (f : A → List B) (xs : List A) (i : ℕ) (x : A) → flat_map f xs ≡ []
    → slice_get xs i ≡ Some x
    → f x ≡ []
each_empty f [] i x h at = absurd (no_value at)
each_empty f (y ∷ xs) zero x h at = ap f (sym (some_same at)) ∙ left_empty (f y) (flat_map f xs) h
each_empty f (y ∷ xs) (suc i) x h at = each_empty f xs i x (right_empty (f y) (flat_map f xs) h) at

numbered : {A : Type 0} (n : ℕ) (xs : List A) (i : ℕ) (x : A) → slice_get xs i ≡ Some x
    → slice_get (enumerate_from n xs) i ≡ Some (n + i, x)
numbered n [] i x at = absurd (no_value at)
numbered n (y ∷ xs) zero x at =
    let same : y ≡ x = some_same at in
    let sum : n ≡ n + 0 = omega arith in
    rw same (ap (λ m. Some (m, x)) sum)
numbered n (y ∷ xs) (suc i) x at =
    let sum : n + 1 + i ≡ n + suc i = omega arith in
    numbered (n + 1) xs i x at ∙ ap (λ m. Some (m, x)) sum

-- what is found stands in the list, and passes the test
record Found {A : Type 0} (p : A → Bool) (xs : List A) (x : A) : Type 0 where
  i : ℕ
  at : slice_get xs i ≡ Some x
  passes : p x ≡ true

found : {A : Type 0} (p : A → Bool) (xs : List A) (x : A) → find p xs ≡ Some x → Found p xs x
found p [] x h = absurd (no_value h)
found p (y ∷ xs) x h = by_test (p y) refl h (found p xs x)
  where
    by_test : (b : Bool) → p y ≡ b → (if b then Some y else find p xs) ≡ Some x → (find p xs ≡ Some x → Found p xs x)
        → Found p (y ∷ xs) x
    by_test true is h later = let same : y ≡ x = some_same h in record { i = 0; at = h; passes = rw (sym same) is }
    by_test false is h later = let f : Found p xs x = later h in record { i = suc f.i; at = f.at; passes = f.passes }

none_at_all : (xs : List Fault) → ((f : Fault) → In xs f → ⊥) → xs ≡ []
none_at_all [] h = refl
none_at_all (f ∷ xs) h = absurd (h f (0, refl))

-- ---- entities

either_false : (a b : Bool) → (a || b) ≡ false → (a ≡ false) × (b ≡ false)
either_false true b h = cc
either_false false b h = (refl, h)

same_bytes : (x : List ℕ) → bytes_eq x x ≡ true
same_bytes x = (bytes_eq-Decides x x).1 refl

true_is_false : true ≡ false → ⊥
true_is_false h = cc

-- an earlier entity has another name
apart : (es : List Entity) (i j : ℕ) (d : Entity) (x : List ℕ) → i < j → slice_get es i ≡ Some d
    → list_any (λ d. bytes_eq d.name x) (take j es) ≡ false → d.name ≡ x → ⊥
apart [] i j d x le at none is = no_value at
apart (e ∷ es) i zero d x le at none is = omega arith
apart (e ∷ es) zero (suc j) d x le at none is =
    let same : e.name ≡ x = ap (λ e. e.name) (some_same at) ∙ is in
    let no : bytes_eq e.name x ≡ false = (either_false (bytes_eq e.name x) _ none).0 in
    true_is_false (sym (same_bytes x) ∙ (ap (λ y. bytes_eq y x) (sym same) ∙ no))
apart (e ∷ es) (suc i) (suc j) d x le at none is =
    let less : i < j = omega arith in
    apart es i j d x less at (either_false (bytes_eq e.name x) _ none).1 is

-- the entity with a name at that place
record Named (es : List Entity) (i : ℕ) (x : List ℕ) : Type 0 where
  it : Entity
  at : slice_get es i ≡ Some it
  is : it.name ≡ x

named : (es : List Entity) (i : ℕ) (x : List ℕ) → slice_get (map (λ e. e.name) es) i ≡ Some x → Named es i x
named [] i x h = absurd (no_value h)
named (e ∷ es) zero x h = record { it = e; at = refl; is = some_same h }
named (e ∷ es) (suc i) x h = let n : Named es i x = named es i x h in record { it = n.it; at = n.at; is = n.is }

module _ (s : Setting) (none : entity_faults s ≡ []) where
  rule_kept : (i : ℕ) (e : Entity) → slice_get s.entities i ≡ Some e
      → (has_feature s.line e.name ≡ false) × (list_any (λ d. bytes_eq d.name e.name) (take i s.entities) ≡ false)
  rule_kept i e at =
      let zero_plus : 0 + i ≡ i = omega arith in
      let here : slice_get (enumerate_from 0 s.entities) i ≡ Some (i, e) =
      numbered 0 s.entities i e at ∙ ap (λ m. Some (m, e)) zero_plus in
      let none_here : entity_rule s (i, e) ≡ [] =
      each_empty (entity_rule s) (enumerate_from 0 s.entities) i (i, e) none here in
      let first : names_feature s e ≡ [] = left_empty (names_feature s e) _ none_here in
      let second : repeated_entity s (take i s.entities) e ≡ [] = right_empty (names_feature s e) _ none_here in
      (kept (has_feature s.line e.name) _ first, kept _ _ second)

  no_feature : (x : List ℕ) (e : Entity) → entity_of s x ≡ Some e → has_feature s.line x ≡ false
  no_feature x e h =
      let f : Found (λ e. bytes_eq e.name x) s.entities e = found (λ e. bytes_eq e.name x) s.entities e h in
      let same : e.name ≡ x = (bytes_eq-Decides e.name x).0 f.passes in
      ap (has_feature s.line) (sym same) ∙ (rule_kept f.i e f.at).0

  later_apart : (i j : ℕ) (x : List ℕ) → i < j → Named s.entities i x → Named s.entities j x → ⊥
  later_apart i j x le m n =
      let none_before : list_any (λ d. bytes_eq d.name n.it.name) (take j s.entities) ≡ false =
      (rule_kept j n.it n.at).1 in
      apart s.entities i j m.it n.it.name le m.at none_before (m.is ∙ sym n.is)

  three_ways : (i j : ℕ) → (i < j) ⊎ ((i ≡ j) ⊎ (j < i))
  three_ways zero zero = inr (inl refl)
  three_ways zero (suc j) = inl (omega arith)
  three_ways (suc i) zero = inr (inr (omega arith))
  three_ways (suc i) (suc j) = by_ways (three_ways i j)
    where
      by_ways : (i < j) ⊎ ((i ≡ j) ⊎ (j < i)) → (suc i < suc j) ⊎ ((suc i ≡ suc j) ⊎ (suc j < suc i))
      by_ways (inl h) = inl (omega arith)
      by_ways (inr (inl h)) = inr (inl (ap suc h))
      by_ways (inr (inr h)) = inr (inr (omega arith))

  distinct : IsNumbering (map (λ e. e.name) s.entities)
  distinct i j x a b = by_ways (three_ways i j)
    where
      by_ways : (i < j) ⊎ ((i ≡ j) ⊎ (j < i)) → i ≡ j
      by_ways (inl h) = absurd (later_apart i j x h (named s.entities i x a) (named s.entities j x b))
      by_ways (inr (inl h)) = h
      by_ways (inr (inr h)) = absurd (later_apart j i x h (named s.entities j x b) (named s.entities i x a))

  entities_valid : ValidEntities s
  entities_valid = record { no_feature = no_feature; distinct = distinct }

-- ---- declarations

-- of a declaration with a name: the rule is asked at its first
at_end : (s : Setting) (body : Inss) (names : List NameAt) (n : List ℕ) (o : Option TyT) → has_name names n ≡ true
    → option_map_or (unset_result s names body) o [] ≡ [] → ResultIsSet (set_after_all [] body) o
at_end s body names n None is h = tt
at_end s body [] n (Some t) is h = cc
at_end s body (m ∷ names) n (Some t) is h =
    set_by (is_self_initialising t) (is_among (set_after_all [] body) result_name) _
    (left_empty (unset_at_end s body t m) _ h)

kind_valid : (s : Setting) (names : List NameAt) (n : List ℕ) (kind : KindT) → has_name names n ≡ true
    → routine_faults s names kind ≡ [] → ValidKind s kind
kind_valid s names n (routine locals body) is h = record {
  body_valid = body_valid s body (left_empty (compound_faults s [] [] body) _ h);
  result_set = at_end s body names n s.result is (right_empty (compound_faults s [] [] body) _ h);
}
kind_valid s names n attribute is h = tt
kind_valid s names n (constant x) is h = tt
kind_valid s names n deferred_body is h = tt

declaration_valid : (u : List ClassT) (d : ℕ) (c : ClassT) (x : DeclT) (n : List ℕ) → has_name x.names n ≡ true
    → declaration_faults u d c x ≡ [] → ValidDeclaration u d c x
declaration_valid u d c x n is h =
    let entities : List Fault = entity_faults (in_body u d c x) in
    let before : List Fault = assertion_faults (in_precondition u d c x) [] [] x.preconditions in
    let body : List Fault = routine_faults (in_body u d c x) x.names x.kind in
    let front : entities ++ before ++ body ≡ [] = left_empty (entities ++ before ++ body) _ h in
    let start : entities ++ before ≡ [] = left_empty (entities ++ before) body front in
    record {
      entities = entities_valid (in_body u d c x) (left_empty entities before start);
      body = kind_valid (in_body u d c x) x.names n x.kind is (right_empty (entities ++ before) body front);
    }

-- ---- classes

pub class_valid : (u : List ClassT) (d : ℕ) (c : ClassT) → class_body_faults u d c ≡ [] → ValidClass u d c
class_valid u d c h n x is =
    let f : Found (λ x. has_name x.names n) (declarations c) x =
    found (λ x. has_name x.names n) (declarations c) x is in
    declaration_valid u d c x n f.passes
    (each_empty (declaration_faults u d c) (declarations c) f.i x
    (left_empty (flat_map (declaration_faults u d c) (declarations c)) _ h) f.at)

given_valid : (given : List ClassT) → IsNone (GivenBodiesBroken given) → (i : ℕ) (c : ClassT)
    → slice_get given i ≡ Some c → ValidClass (universe given) (kernel_count + i) c
given_valid given none i c at =
    class_valid (universe given) (kernel_count + i) c
    (each_empty (numbered_body_faults (universe given)) (enumerate_from kernel_count given) i (kernel_count + i, c)
    (none_at_all (body_faults given) none) (numbered kernel_count given i c at))

-- a class behind the kernel's is a given one
behind : (given : List ClassT) (d : ℕ) (c : ClassT) → kernel_count ≤ d → slice_get (universe given) d ≡ Some c
    → (i : ℕ) × (kernel_count + i ≡ d) × (slice_get given i ≡ Some c)
unfolding kernel
behind given (suc (suc (suc (suc (suc (suc i)))))) c le at = (i, omega arith, at)
behind given zero c le at = let no : ⊥ = omega arith in absurd no
behind given (suc zero) c le at = let no : ⊥ = omega arith in absurd no
behind given (suc (suc zero)) c le at = let no : ⊥ = omega arith in absurd no
behind given (suc (suc (suc zero))) c le at = let no : ⊥ = omega arith in absurd no
behind given (suc (suc (suc (suc zero)))) c le at = let no : ⊥ = omega arith in absurd no
behind given (suc (suc (suc (suc (suc zero))))) c le at = let no : ⊥ = omega arith in absurd no

pub numbered_valid : (given : List ClassT) → IsNone (GivenBodiesBroken given) → (d : ℕ) (c : ClassT) → kernel_count ≤ d
    → slice_get (universe given) d ≡ Some c → ValidClass (universe given) d c
numbered_valid given none d c le at =
    let b : (i : ℕ) × (kernel_count + i ≡ d) × (slice_get given i ≡ Some c) = behind given d c le at in
    subst (λ d. ValidClass (universe given) d c) b.1 (given_valid given none b.0 c b.2)
