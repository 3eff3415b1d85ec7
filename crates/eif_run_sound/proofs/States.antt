-- Later states, and the invariant in them.
use Rattle.std.proofs.Common.{◌≡◌, ℕ, Bool, true, false, List, [], ◌++◌, Option, Some, None, refl, sym, ap, subst, ◌∙◌}
use Rattle.std.specs.Prelude.{◌||◌}
use Rattle.std.specs.Str.{bytes_eq}
use Rattle.std.proofs.lemmas.List.Folds.{list_any-append}
use Rattle.eif_base.specs.Numbering.{is_among}
use Rattle.eif_tree.specs.Tree.{ClassT}
use Rattle.eif_classes.specs.Types.{TyT}
use Rattle.eif_body_rules.specs.Facts.{Fact, Usable, usable_test}
use Rattle.eif_flow_rules.specs.FieldSets.{FieldSet}
use Rattle.eif_meaning.specs.Values.{ClassType, Object, Seen, State, Does, ◌>>=◌}
use Rattle.eif_meaning.specs.System.{System, system_over}
use Rattle.eif_meaning.specs.Objects.{field_type}
use Rattle.eif_meaning.specs.Frames.{Entity, argument, local, entity}
use Rattle.eif_run_laws.specs.Holders.{IsSet, Fits, IsHeap, Stays, Grow}
use Rattle.eif_run_laws.specs.Steps.{Safe, heap_of, Extends}
use Rattle.eif_run_laws.proofs.Growing.{grow_same, grow_on, object_stays, fits_grown}
use Rattle.eif_run_laws.proofs.Keeps.{safe_after}
use Rattle.eif_run_sound.specs.Bodies.{Running, written, closed}
use Rattle.eif_run_sound.specs.Fields.{Ready}
use Rattle.eif_run_sound.specs.Invariant.{Shows, held_by, held_in, DenotesNothing, Held, Good, Later}

-- ---- tests

pub or_cases : {P : Type 0} (a b : Bool) → (a || b) ≡ true → (a ≡ true → P) → (b ≡ true → P) → P
or_cases true b h f g = f refl
or_cases false b h f g = g h

pub or_left : (a b : Bool) → a ≡ true → (a || b) ≡ true
or_left true b h = refl
or_left false b h = cc

pub or_right : (a b : Bool) → b ≡ true → (a || b) ≡ true
or_right true b h = refl
or_right false b h = h

pub or_false : (a b : Bool) → (a || b) ≡ false → (a ≡ false) × (b ≡ false)
or_false true b h = cc
or_false false b h = (refl, h)

-- ---- names

pub among_false : (xs ys : List (List ℕ)) (x : List ℕ) → is_among (xs ++ ys) x ≡ false
    → (is_among xs x ≡ false) × (is_among ys x ≡ false)
among_false xs ys x h = or_false (is_among xs x) (is_among ys x) (sym (list_any-append (bytes_eq x) xs ys) ∙ h)

pub among_neither : (xs ys : List (List ℕ)) (x : List ℕ) → is_among xs x ≡ false → is_among ys x ≡ false
    → is_among (xs ++ ys) x ≡ false
among_neither xs ys x h i =
    list_any-append (bytes_eq x) xs ys ∙ (ap (λ a. a || is_among ys x) h ∙ i)

pub among_cases : {P : Type 0} (xs ys : List (List ℕ)) (x : List ℕ) → is_among (xs ++ ys) x ≡ true
    → (is_among xs x ≡ true → P) → (is_among ys x ≡ true → P) → P
among_cases xs ys x h f g = or_cases (is_among xs x) (is_among ys x) (sym (list_any-append
    (bytes_eq x) xs ys) ∙ h) f g

pub among_left : (xs ys : List (List ℕ)) (x : List ℕ) → is_among xs x ≡ true → is_among (xs ++ ys) x ≡ true
among_left xs ys x h = list_any-append (bytes_eq x) xs ys ∙ or_left (is_among xs x) (is_among ys x) h

pub among_right : (xs ys : List (List ℕ)) (x : List ℕ) → is_among ys x ≡ true → is_among (xs ++ ys) x ≡ true
among_right xs ys x h = list_any-append (bytes_eq x) xs ys ∙ or_right (is_among xs x) (is_among ys x) h

-- ---- steps in turn

pub chain : {A B : Type 0} (m : Does A) (f : A → Does B) (s : State) (P : State → A → Type 0) (Q : State → B → Type 0)
    → Safe (m s) P → ((t : State) (a : A) → P t a → Safe (f a t) Q) → Safe ((m >>= f) s) Q
chain m f s P Q h k = safe_after (m s) (λ t a. f a t) P Q h k

-- ---- later states

pub later_same : (names : List (List ℕ)) (s : State) → Later names s s
later_same names s = record { grown = grow_same (heap_of s); local = λ x. refl; result = refl; test = λ x h. refl }

pub later_on : (ms ns : List (List ℕ)) (s t v : State) → Later ms s t → Later ns t v → Later (ms ++ ns) s v
later_on ms ns s t v f g = record {
  grown = grow_on (heap_of s) (heap_of t) (heap_of v) f.grown g.grown;
  local = λ x. g.local x ∙ f.local x;
  result = g.result ∙ f.result;
  test = λ x h. let p = among_false ms ns x h in g.test x p.1 ∙ f.test x p.0;
}

pub later_within : (ms ns : List (List ℕ)) (s t : State)
    → ((x : List ℕ) → is_among ns x ≡ false → is_among ms x ≡ false) → Later ms s t → Later ns s t
later_within ms ns s t w f =
    record { grown = f.grown; local = f.local; result = f.result; test = λ x h. f.test x (w x h) }

pub later_extends : (system : System) (names : List (List ℕ)) (s t : State) → Extends system s t → Later names s t
later_extends system names s t e = record {
  grown = e.grown;
  local = λ x. ap (λ (v : State). v.local x) e.rest;
  result = ap (λ (v : State). v.result) e.rest;
  test = λ x h. ap (λ (v : State). v.test x) e.rest;
}

-- a step that changes the store alone, after others
pub later_then : (system : System) (names : List (List ℕ)) (s t v : State) → Later names s t → Extends system t v
    → Later names s v
later_then system names s t v f e = record {
  grown = grow_on (heap_of s) (heap_of t) (heap_of v) f.grown e.grown;
  local = λ x. ap (λ (v : State). v.local x) e.rest ∙ f.local x;
  result = ap (λ (v : State). v.result) e.rest ∙ f.result;
  test = λ x h. ap (λ (v : State). v.test x) e.rest ∙ f.test x h;
}

module _ (u : List ClassT) (r : Running u) where
  held_by_later : (names : List (List ℕ)) (s t : State) (x : List ℕ) (e : Option Entity) → Later names s t
      → held_by u r t x e ≡ held_by u r s x e
  held_by_later names s t x None l = refl
  held_by_later names s t x (Some (argument a)) l = refl
  held_by_later names s t x (Some (local a)) l = l.local x

  pub held_in_later : (names : List (List ℕ)) (s t : State) (x : List ℕ) → Later names s t
      → held_in u r t x ≡ held_in u r s x
  held_in_later names s t x l = held_by_later names s t x (entity r.declaration.tree x) l

  pub shows_grown : (h k : List Object) (t : TyT) (w : Seen) → Grow h k → Shows u r h t w → Shows u r k t w
  shows_grown h k t w g s = record {
    fits = fits_grown (system_over u) h k
        (closed r t) w.value g s.fits;
    seen = s.seen;
  }

  -- what is known stays so, but for tests whose locals are bound anew
  pub held_later : (k : List Fact) (names : List (List ℕ)) (s t : State) → Held u r k s → Later names s t
      → ((x : List ℕ) (w : Usable) → usable_test k x ≡ Some w → is_among names x ≡ false) → Held u r k t
  held_later k names s t held l apart = record {
    attached = λ x h v e. held.attached x h v (sym (held_in_later names s t x l) ∙ e);
    usable = λ x w a e is.
        let p = held.usable x w a e is in
        (p.0, l.test x (apart x w e) ∙ p.1, shows_grown (heap_of s) (heap_of t) a p.0 l.grown p.2);
  }

  pub ready_stays : (f : FieldSet) (o p : Object) → Stays o p → Ready u f o → Ready u f p
  ready_stays f o p s ready = λ n t e h.
      s.set n (ready n t (ap (λ (d : ClassType). field_type (system_over u) d.class_number n) (sym s.made) ∙ e) h)

  -- the invariant in a later state, in which its test locals and what is known are told
  pub good_later : (k l : List Fact) (set : List (List ℕ)) (f : FieldSet) (names : List (List ℕ)) (s t : State)
      → Good u r k set f s → Later names s t → IsHeap (system_over u) (heap_of t)
      → ((x : List ℕ) (w : Seen) → t.test x ≡ Some w
      → Fits (system_over u) (heap_of t) (closed r w.type) w.value × DenotesNothing u r x)
      → Held u r l t → Good u r l set f t
  good_later k l set f names s t g later heap tests held =
      let h = heap_of s in let i = heap_of t in
      let p = object_stays h i later.grown r.current g.object g.there in
      record {
        heap = heap;
        object = p.0;
        there = p.1;
        made = p.2.made ∙ g.made;
        ready = ready_stays f g.object p.0 p.2 g.ready;
        arguments = λ x a e. let v = g.arguments x a e in
            (v.0, v.1, fits_grown (system_over u) h i (closed r (written u r a)) v.0 later.grown v.2);
        locals = λ x a e v is. fits_grown (system_over u) h i (closed r (written u r a)) v later.grown
            (g.locals x a e v (sym (later.local x) ∙ is));
        locals_set = λ x a e is. subst IsSet (sym (later.local x)) (g.locals_set x a e is);
        result = λ a e v is. fits_grown (system_over u) h i (closed r (written u r a)) v later.grown
            (g.result a e v (sym later.result ∙ is));
        result_set = λ a e is. subst IsSet (sym later.result) (g.result_set a e is);
        tests = tests;
        known = held;
      }

  -- nothing but the store has changed
  pub good_extends : (k : List Fact) (set : List (List ℕ)) (f : FieldSet) (s t : State)
      → Good u r k set f s → Extends (system_over u) s t → Good u r k set f t
  good_extends k set f s t g e =
      let later = later_extends (system_over u) [] s t e in
      good_later k k set f [] s t g later e.heap
      (λ x w is. let p = g.tests x w (sym (later.test x refl) ∙ is) in
      (fits_grown (system_over u) (heap_of s) (heap_of t) (closed r w.type) w.value later.grown p.0, p.1))
      (held_later k [] s t g.known later (λ x w is. refl))

  pub good_known : (k l : List Fact) (set : List (List ℕ)) (f : FieldSet) (s : State)
      → Good u r k set f s → Held u r l s → Good u r l set f s
  good_known k l set f s g held = record {
    heap = g.heap;
    object = g.object;
    there = g.there;
    made = g.made;
    ready = g.ready;
    arguments = g.arguments;
    locals = g.locals;
    locals_set = g.locals_set;
    result = g.result;
    result_set = g.result_set;
    tests = g.tests;
    known = held;
  }

  -- other fields are known to be set
  pub good_ready : (k : List Fact) (set : List (List ℕ)) (f g : FieldSet) (s : State)
      → (a : Good u r k set f s) → Ready u g a.object → Good u r k set g s
  good_ready k set f g s a ready = record {
    heap = a.heap;
    object = a.object;
    there = a.there;
    made = a.made;
    ready = ready;
    arguments = a.arguments;
    locals = a.locals;
    locals_set = a.locals_set;
    result = a.result;
    result_set = a.result_set;
    tests = a.tests;
    known = a.known;
  }
