-- What is known, by facts of both of two lists.
use Rattle.std.proofs.Common.{◌≡◌, ℕ, Bool, true, false, List, [], ◌∷◌, ◌++◌, Option, Some, None, refl, sym, ap, ◌∙◌, inl, inr, ⊎_elim}
use Rattle.std.specs.Prelude.{◌⊎◌, ◌||◌, if◌then◌else◌}
use Rattle.std.specs.Str.{bytes_eq}
use Rattle.std.proofs.lemmas.Slice.Eq.{bytes_eq-Decides}
use Rattle.eif_base.specs.Numbering.{is_among}
use Rattle.eif_tree.specs.Tree.{Ex, ClassT}
use Rattle.eif_classes.specs.Types.{TyT}
use Rattle.eif_body_rules.specs.ExpressionTypes.{judge, facts, all_attached}
use Rattle.eif_body_rules.specs.Facts.{Fact, attached, usable, earlier, is_known_attached, usable_test}
use Rattle.eif_body_rules.specs.Settings.{Setting}
use Rattle.eif_body_rules.specs.TestRules.{test_names}
use Rattle.eif_meaning.specs.Values.{Value, State}
use Rattle.eif_meaning.specs.Calls.{is_void}
use Rattle.eif_valid_bodies.specs.KnownStays.{Fewer}
use Rattle.eif_valid_bodies.specs.Valid.{Valid}
use Rattle.eif_valid_bodies.proofs.TestsFree.{tests_free, told_is_own}
use Rattle.eif_run_sound.specs.Bodies.{Running}
use Rattle.eif_run_sound.specs.Invariant.{held_in, Held}
use Rattle.eif_run_sound.proofs.States.{or_cases, or_left, or_right}

-- ---- both lists

pub attached_append : (k l : List Fact) (x : List ℕ)
    → is_known_attached (k ++ l) x ≡ (is_known_attached k x || is_known_attached l x)
attached_append [] l x = refl
attached_append (attached y ∷ k) l x = or_ap (bytes_eq y x) _ _ _ (attached_append k l x)
  where
    or_ap : (a : Bool) (b c d : Bool) → b ≡ (c || d) → (a || b) ≡ ((a || c) || d)
    or_ap true b c d e = refl
    or_ap false b c d e = e
attached_append (usable y t ∷ k) l x = attached_append k l x

pub usable_left : (k l : List Fact) (x : List ℕ) → usable_test l x ≡ None → usable_test (k ++ l) x ≡ usable_test k x
usable_left [] l x e = e
usable_left (attached y ∷ k) l x e = usable_left k l x e
usable_left (usable y t ∷ k) l x e =
    ap (λ o. if bytes_eq y x then Some (earlier t o) else o) (usable_left k l x e)

if_none : {A : Type 0} (b : Bool) (a : A) (o p q : Option A) → (if b then Some a else o) ≡ None → (o ≡ None → p ≡ q)
    → (c : A) → (if b then Some c else p) ≡ q
if_none true a o p q h f c = cc
if_none false a o p q h f c = f h

pub usable_right : (k l : List Fact) (x : List ℕ) → usable_test k x ≡ None → usable_test (k ++ l) x ≡ usable_test l x
usable_right [] l x e = refl
usable_right (attached y ∷ k) l x e = usable_right k l x e
usable_right (usable y t ∷ k) l x e =
    if_none (bytes_eq y x) (earlier t (usable_test k x)) (usable_test k x) (usable_test (k ++ l) x)
    (usable_test l x) e
    (usable_right k l x) (earlier t (usable_test (k ++ l) x))

-- no name has a usable test in both
abbrev pub Apart : List Fact → List Fact → Type 0
Apart k l = (x : List ℕ) → (usable_test k x ≡ None) ⊎ (usable_test l x ≡ None)

module _ (u : List ClassT) (r : Running u) where
  pub held_none : (s : State) → Held u r [] s
  held_none s = record { attached = λ x h v e. cc; usable = λ x w t h e. cc }

  pub held_fewer : (k l : List Fact) (s : State) → Fewer k l → Held u r l s → Held u r k s
  held_fewer k l s f held = record {
    attached = λ x h v e. held.attached x (f.attached x h) v e;
    usable = λ x w t h e. held.usable x w t (f.usable x w h) e;
  }

  pub held_both : (k l : List Fact) (s : State) → Held u r k s → Held u r l s → Apart k l → Held u r (k ++ l) s
  held_both k l s f g apart = record {
    attached = λ x h v e.
        or_cases (is_known_attached k x) (is_known_attached l x) (sym (attached_append k l x) ∙ h)
        (λ q. f.attached x q v e) (λ q. g.attached x q v e);
    usable = λ x w t h e. ⊎_elim
        (λ none. g.usable x w t (sym (usable_right k l x none) ∙ h) e)
        (λ none. f.usable x w t (sym (usable_left k l x none) ∙ h) e)
        (apart x);
  }

  -- these names hold something else than Void
  pub held_attached : (xs : List (List ℕ)) (s : State)
      → ((x : List ℕ) → is_among xs x ≡ true → (v : Value) → held_in u r s x ≡ Some v → is_void v ≡ false)
      → Held u r (all_attached xs) s
  held_attached [] s f = held_none s
  held_attached (y ∷ ys) s f =
      let rest = held_attached ys s (λ x h. f x (or_right (bytes_eq x y) _ h)) in
      record {
        attached = λ x h v e. or_cases (bytes_eq y x) (is_known_attached (all_attached ys) x) h
            (λ q. f x (or_left (bytes_eq x y) _ (turned y x q)) v e) (λ q. rest.attached x q v e);
        usable = rest.usable;
      }
    where
      turned : (a b : List ℕ) → bytes_eq a b ≡ true → bytes_eq b a ≡ true
      turned a b e = (bytes_eq-Decides b a).1 (sym ((bytes_eq-Decides a b).0 e))

-- ---- an expression

none_or_some : {A : Type 0} (o : Option A) → (o ≡ None) ⊎ ((a : A) × (o ≡ Some a))
none_or_some None = inl refl
none_or_some (Some a) = inr (a, refl)

pub true_or_false : (b : Bool) → (b ≡ true) ⊎ (b ≡ false)
true_or_false true = inl refl
true_or_false false = inr refl

-- it tells of its own tests alone
pub told_none : (s : Setting) (k : List Fact) (n : List (List ℕ)) (b : Bool) (e : Ex) (x : List ℕ)
    → is_among (test_names e) x ≡ false → usable_test (facts s k n b e) x ≡ None
told_none s k n b e x h = ⊎_elim (λ none. none)
    (λ p. let q : true ≡ false = sym (told_is_own s k n b e x p.0 p.1) ∙ h in cc)
    (none_or_some (usable_test (facts s k n b e) x))

-- and not of what is known where it stands
pub told_apart : (s : Setting) (k : List Fact) (n : List (List ℕ)) (b : Bool) (e : Ex) (t : TyT)
    → Valid (judge s k n e) t → Apart k (facts s k n b e)
told_apart s k n b e t valid x = ⊎_elim
    (λ h. inl (tests_free s k n e t valid x h).0.no_test)
    (λ h. inr (told_none s k n b e x h))
    (true_or_false (is_among (test_names e) x))
