-- How additions to a list of faults are put together.
use Rattle.std.proofs.Common.{◌≡◌, ℕ, zero, suc, ◌+◌, List, [], ◌∷◌, ◌++◌, length, take, Some, refl, sym, ap, subst, ◌∙◌, append_assoc, arith}
use Rattle.std.specs.Prelude.{slice_get}
use Rattle.eif_base.specs.declared.fault.Fault.{Fault}
use Rattle.eif_base.specs.Appends.{In, Has, Appends, Extends, SomeOf}

in_left : (xs ys : List Fault) (f : Fault) (i : ℕ) → slice_get xs i ≡ Some f → slice_get (xs ++ ys) i ≡ Some f
in_left [] ys f i e = cc
in_left (x ∷ xs) ys f zero e = e
in_left (x ∷ xs) ys f (suc i) e = in_left xs ys f i e

in_right : (xs ys : List Fault) (f : Fault) → In ys f → In (xs ++ ys) f
in_right [] ys f h = h
in_right (x ∷ xs) ys f h = let r = in_right xs ys f h in (suc r.0, r.1)

in_cases : (P : Type 0) (xs ys : List Fault) (f : Fault) (i : ℕ) →
    slice_get (xs ++ ys) i ≡ Some f → (In xs f → P) → (In ys f → P) → P
in_cases P [] ys f i e a b = b (i, e)
in_cases P (x ∷ xs) ys f zero e a b = a (zero, e)
in_cases P (x ∷ xs) ys f (suc i) e a b = in_cases P xs ys f i e (λ r. a (suc r.0, r.1)) b

append_nil : (xs : List Fault) → xs ++ [] ≡ xs
append_nil [] = refl
append_nil (x ∷ xs) = ap (λ ys. x ∷ ys) (append_nil xs)

-- nothing is added, and nothing is broken
pub adds_none : (old : List Fault) (B : Fault → Type 0) → ((f : Fault) → B f → ⊥) → Appends old old B
adds_none old B none = record {
  more = [];
  is = sym (append_nil old);
  only = λ f h. let e = h.1 in cc;
  each = λ f b. absurd (none f b);
}

-- one fault is added
pub adds_one : (old : List Fault) (g : Fault) → Appends old (old ++ g ∷ []) (λ f. Some g ≡ Some f)
adds_one old g = record { more = g ∷ []; is = refl; only = λ f h. one h.0 f h.1; each = λ f e. (zero, e) }
  where
    one : (i : ℕ) (f : Fault) → slice_get (g ∷ []) i ≡ Some f → Some g ≡ Some f
    one zero f e = e
    one (suc i) f e = cc

-- one addition after another, where C is A or B
pub adds_both : (a b c : List Fault) (A B C : Fault → Type 0) →
    ((f : Fault) → A f → C f) → ((f : Fault) → B f → C f) →
    ((P : Type 0) (f : Fault) → C f → (A f → P) → (B f → P) → P) →
    Appends a b A → Appends b c B → Appends a c C
adds_both a b c A B C left right cases p q = record {
  more = p.more ++ q.more;
  is = q.is ∙ (ap (λ l. l ++ q.more) p.is ∙ append_assoc a p.more q.more);
  only = λ f h. in_cases (C f) p.more q.more f h.0 h.1 (λ r. left f (p.only f r)) (λ r. right f (q.only f r));
  each = λ f h. cases (In (p.more ++ q.more) f) f h
      (λ r. let i = p.each f r in (i.0, in_left p.more q.more f i.0 i.1))
      (λ r. in_right p.more q.more f (q.each f r));
}

-- one test of faults for another of the same faults
pub adds_as : (a b : List Fault) (A B : Fault → Type 0) →
    ((f : Fault) → A f → B f) → ((f : Fault) → B f → A f) → Appends a b A → Appends a b B
adds_as a b A B f g p = record {
  more = p.more;
  is = p.is;
  only = λ x h. f x (p.only x h);
  each = λ x h. p.each x (g x h);
}

-- a list is added
pub adds_list : (old new more : List Fault) → new ≡ old ++ more → Appends old new (In more)
adds_list old new more e = record { more = more; is = e; only = λ f h. h; each = λ f h. h }

-- what was added to no fault is all that there is
pub adds_to_none : (new : List Fault) (B : Fault → Type 0) → Appends [] new B → Has new B
adds_to_none new B p = record {
  only = λ f h. p.only f (subst (λ xs. In xs f) p.is h);
  each = λ f b. subst (λ xs. In xs f) (sym p.is) (p.each f b);
}

pub extends : (a b : List Fault) (A : Fault → Type 0) → Appends a b A → Extends a b
extends a b A p = record { more = p.more; is = p.is }

pub extends_along : (a b c : List Fault) (A : Fault → Type 0) → Appends a b A → c ≡ b → Extends a c
extends_along a b c A p e = record { more = p.more; is = e ∙ p.is }

-- items of a front
get_take : {A : Type 0} (xs : List A) (n i : ℕ) (x : A) → slice_get (take n xs) i ≡ Some x → slice_get xs i ≡ Some x
get_take [] zero i x e = cc
get_take [] (suc n) i x e = cc
get_take (y ∷ ys) zero i x e = cc
get_take (y ∷ ys) (suc n) zero x e = e
get_take (y ∷ ys) (suc n) (suc i) x e = get_take ys n i x e

take_more : {A : Type 0} (xs : List A) (n i : ℕ) (x : A) →
    slice_get (take n xs) i ≡ Some x → slice_get (take (suc n) xs) i ≡ Some x
take_more [] zero i x e = cc
take_more [] (suc n) i x e = cc
take_more (y ∷ ys) zero i x e = cc
take_more (y ∷ ys) (suc n) zero x e = e
take_more (y ∷ ys) (suc n) (suc i) x e = take_more ys n i x e

take_last : {A : Type 0} (xs : List A) (n : ℕ) (x : A) →
    slice_get xs n ≡ Some x → slice_get (take (suc n) xs) n ≡ Some x
take_last [] n x e = cc
take_last (y ∷ ys) zero x e = e
take_last (y ∷ ys) (suc n) x e = take_last ys n x e

take_cases : {A : Type 0} (P : Type 0) (xs : List A) (n : ℕ) (x : A) (i : ℕ) (y : A) →
    slice_get xs n ≡ Some x → slice_get (take (suc n) xs) i ≡ Some y →
    (slice_get (take n xs) i ≡ Some y → P) → (i ≡ n → x ≡ y → P) → P
take_cases P [] n x i y e h a b = cc
take_cases P (z ∷ zs) zero x zero y e h a b = let q : x ≡ y = cc in b refl q
take_cases P (z ∷ zs) zero x (suc i) y e h a b = cc
take_cases P (z ∷ zs) (suc n) x zero y e h a b = a h
take_cases P (z ∷ zs) (suc n) x (suc i) y e h a b = take_cases P zs n x i y e h a (λ p q. b (ap suc p) q)

take_all : {A : Type 0} (xs : List A) (n i : ℕ) (x : A) →
    length xs ≡ n → slice_get xs i ≡ Some x → slice_get (take n xs) i ≡ Some x
take_all [] n i x h e = cc
take_all (y ∷ ys) zero i x h e = absurd (omega arith)
take_all (y ∷ ys) (suc n) zero x h e = e
take_all (y ∷ ys) (suc n) (suc i) x h e = take_all ys n i x (omega arith) e

-- a loop over items: the start, a turn, the end
pub loop_starts : {A : Type 0} (old : List Fault) (xs : List A) (J : ℕ → A → Fault → Type 0) →
    Appends old old (SomeOf (take 0 xs) J)
loop_starts old xs J = adds_none old (SomeOf (take 0 xs) J) (λ f s. none xs s.i s.x s.at)
  where
    none : {A : Type 0} (xs : List A) (i : ℕ) (x : A) → slice_get (take 0 xs) i ≡ Some x → ⊥
    none [] i x e = cc
    none (y ∷ ys) i x e = cc

pub loop_goes_on : {A : Type 0} (a b c : List Fault) (xs : List A) (J : ℕ → A → Fault → Type 0) (n : ℕ) (x : A) →
    slice_get xs n ≡ Some x → Appends a b (SomeOf (take n xs) J) → Appends b c (J n x) →
    Appends a c (SomeOf (take (n + 1) xs) J)
loop_goes_on {A} a b c xs J n x e p q =
    let m : suc n ≡ n + 1 = omega arith in
    subst (λ m. Appends a c (SomeOf (take m xs) J)) m
    (adds_both a b c (SomeOf (take n xs) J) (J n x) (SomeOf (take (suc n) xs) J)
    (λ f s. record { i = s.i; x = s.x; at = take_more xs n s.i s.x s.at; judged = s.judged })
    (λ f j. record { i = n; x = x; at = take_last xs n x e; judged = j })
    (λ P f s l r. take_cases P xs n x s.i s.x e s.at
    (λ h. l (record { i = s.i; x = s.x; at = h; judged = s.judged }))
    (λ p q. r (subst (λ i. J i x f) p (subst (λ x. J s.i x f) (sym q) s.judged))))
    p q)

pub loop_ends : {A : Type 0} (a b : List Fault) (xs : List A) (J : ℕ → A → Fault → Type 0) (n : ℕ) →
    length xs ≡ n → Appends a b (SomeOf (take n xs) J) → Appends a b (SomeOf xs J)
loop_ends a b xs J n h p = adds_as a b (SomeOf (take n xs) J) (SomeOf xs J)
    (λ f s. record { i = s.i; x = s.x; at = get_take xs n s.i s.x s.at; judged = s.judged })
    (λ f s. record { i = s.i; x = s.x; at = take_all xs n s.i s.x h s.at; judged = s.judged })
    p
