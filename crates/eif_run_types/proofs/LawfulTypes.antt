-- What runs ask of types.
use Rattle.std.proofs.Common.{◌≡◌, ℕ, zero, suc, ◌==◌, ◌<◌, ◌≤◌, Bool, true, false, List, length, Option, Some, None, refl, sym, ap, subst, ◌∙◌, arith}
use Rattle.std.specs.Prelude.{is_some, slice_get, ◌&&◌, ◌||◌, not}
use Rattle.std.specs.Option.{option_map, option_map_or, option_and_then}
use Rattle.std.proofs.lemmas.Bool.{eqb-true}
use Rattle.std.proofs.lemmas.Option.{slice_get_within, same_Some}
use Rattle.eif_tree.specs.declared.tree.Mark.{Mark}
use Rattle.eif_tree.specs.declared.tree.Mark.TheVariants.{Plain, Attached, Detachable}
use Rattle.eif_tree.specs.Tree.{FormalT, ClassT}
use Rattle.eif_classes.specs.Ancestry.{ancestor}
use Rattle.eif_classes.specs.Conformance.{class_conforms, conforms, closed_conforms}
use Rattle.eif_classes.specs.Constraints.{formal_constraint, constraint, base_type, is_attached_class, is_attached}
use Rattle.eif_classes.specs.Resolution.{own_formals}
use Rattle.eif_classes.specs.KernelNumbers.{is_basic}
use Rattle.eif_classes.specs.Types.{TyT, class_type, formal_type, none_type, Actuals, no_actuals, and_actual, formals_from, same_mark, marked, attached_form, put_in, put_in_all, actual_at}
use Rattle.eif_meaning.specs.Values.{ClassType, Object}
use Rattle.eif_meaning.specs.System.{system_over}
use Rattle.eif_meaning.specs.Objects.{type_of}
use Rattle.eif_rules.specs.UniverseRules.{formal_count}
use Rattle.eif_run_laws.specs.ObjectTypes.{takes_void, Suit, IsMade, Over}
use Rattle.eif_run_laws.specs.SystemLaws.{KernelLaws, TypeLaws}
use Rattle.eif_run_sound.specs.UniverseLaws.{IsTypeIn, OpenTypeLaws}
use Rattle.eif_type_laws.specs.ClassTypes.{IsSomething, actual_count, IsOf, AreOf, constraints_of, Meet, EachClause, IsValidClause, IsHierarchy, Defined}
use Rattle.eif_type_laws.proofs.ClassConformance.{above_detachable, constraint_closed, meets_at, opened, shut, remarked, both_marked, both_put, by_constraint}
use Rattle.eif_type_laws.proofs.Conforming as conforming
use Rattle.eif_type_laws.proofs.TypesKept.{marked_of, actual_of, put_all_of, closed_put}
use Rattle.eif_type_laws.proofs.Ancestors.{ancestor_of}
use Rattle.eif_type_laws.proofs.Validity.{ancestor_valid}
use Rattle.eif_type_laws.proofs.Closed.{closed_substituted}
use Rattle.eif_type_laws.proofs.Substitution.{count_put, count_formals, put_formals}
use Rattle.eif_run_sound.proofs.Flows.{and_left, and_right}
use Rattle.eif_run_types.proofs.ClosedTypes.{count_is, all_closed_is, there, are_closed, suit_meets}

module _ (u : List ClassT) (order : List ℕ) (is : IsHierarchy u order) (defined : Defined u) where
  transitive : (a b c : TyT) → closed_conforms u a b ≡ true → closed_conforms u b c ≡ true
      → closed_conforms u a c ≡ true
  transitive (class_type k m xs) (class_type j n ys) c h g =
      conforming.transitive u order is defined 0 (class_type k m xs) (class_type j n ys) c h g
  transitive (class_type k m xs) (formal_type j n) c h g = cc
  transitive (class_type k m xs) none_type c h g = cc
  transitive none_type (class_type j n ys) (class_type l o zs) h g =
      above_detachable n o h (opened u j n ys l o zs g).marks
  transitive none_type (class_type j n ys) (formal_type l o) h g = cc
  transitive none_type (class_type j n ys) none_type h g = cc
  transitive none_type (formal_type j n) c h g = cc
  transitive none_type none_type c h g = cc
  transitive (formal_type i m) (class_type j n ys) c h g = cc
  transitive (formal_type i m) (formal_type j n) c h g = cc
  transitive (formal_type i m) none_type c h g = cc

  void : (a b : TyT) → closed_conforms u a b ≡ true → takes_void a ≡ true → takes_void b ≡ true
  void (class_type k m xs) (class_type j n ys) h e = above_detachable m n e (opened u k m xs j n ys h).marks
  void (class_type k m xs) (formal_type j n) h e = cc
  void (class_type k m xs) none_type h e = refl
  void none_type (class_type j n ys) h e = h
  void none_type (formal_type j n) h e = cc
  void none_type none_type h e = refl
  void (formal_type i m) (class_type j n ys) h e = cc
  void (formal_type i m) (formal_type j n) h e = cc
  void (formal_type i m) none_type h e = cc

  attached : (o : Object) (t : TyT) → closed_conforms u (type_of o) t ≡ true
      → closed_conforms u (type_of o) (attached_form t) ≡ true
  attached o (class_type k m ts) h =
      remarked u o.made.class_number Attached o.made.actuals k m ts Attached Attached refl h
  attached o (formal_type i m) h = cc
  attached o none_type h = cc

  down : (o : Object) (k : ℕ) (m : Mark) (xs : Actuals) → closed_conforms u (type_of o) (class_type k m xs) ≡ true
      → Over (system_over u) o.made k xs
  down o k m xs h =
      let i = opened u o.made.class_number Attached o.made.actuals k m xs h in
      record { derived = i.ts; gives = i.gives; is = i.puts }

  -- ---- the formals of a class, with actuals put in

  own_by : (o : Option ClassT) (xs : Actuals) → actual_count xs ≡ actual_count
      (option_map_or own_formals o no_actuals)
      → put_in_all xs (option_map_or own_formals o no_actuals) ≡ xs
  own_by None no_actuals e = refl
  own_by None (and_actual x xs) e = absurd (omega arith)
  own_by (Some c) xs e =
      subst (λ n. put_in_all xs (formals_from 0 n) ≡ xs) (e ∙ count_formals 0 (length c.formals)) (put_formals xs)

  own_put : (k : ℕ) (xs : Actuals) → actual_count xs ≡ actual_count ((system_over u).formals k)
      → put_in_all xs ((system_over u).formals k) ≡ xs
  own_put k xs e = own_by (slice_get u k) xs e

  reflexive : (o : Object) → IsMade (system_over u) o.made → closed_conforms u (type_of o) (type_of o) ≡ true
  reflexive o made =
      let k = o.made.class_number in
      shut u k Attached o.made.actuals k Attached o.made.actuals record {
        marks = refl;
        ts = (system_over u).formals k;
        gives = made.there;
        puts = own_put k o.made.actuals made.suit.count;
      }

  pub laws : KernelLaws (system_over u) → TypeLaws (system_over u)
  laws kernel = record {
    kernel = kernel;
    transitive = transitive;
    void = void;
    same = reflexive;
    marks = λ o d m xs h. remarked u o.made.class_number Attached o.made.actuals d Attached xs Attached m refl h;
    attached = attached;
    down = down;
  }

  -- ---- types of a class, with actuals put in

  in_range : (d i : ℕ) → is_some (constraint u d i) ≡ true → i < formal_count u d
  in_range d i h = by (slice_get u d) h
    where
      by : (o : Option ClassT)
          → is_some (option_and_then (λ c. option_map (formal_constraint u c) (slice_get c.formals i)) o) ≡ true
          → i < option_map_or (λ (c : ClassT). length c.formals) o 0
      by None h = cc
      by (Some c) h = there (slice_get c.formals i) refl h
        where
          there : (f : Option FormalT) → slice_get c.formals i ≡ f
              → is_some (option_map (formal_constraint u c) f) ≡ true
              → i < length c.formals
          there None e h = cc
          there (Some f) e h = slice_get_within c.formals i f e

  -- an actual of a class that it suits, with a mark
  module _ (k : ℕ) (xs : Actuals) (s : Suit (system_over u) k xs) where
    are : AreOf u 0 xs
    are = all_closed_is u order is xs s.closed

    actual_is : (i : ℕ) → is_some (constraint u k i) ≡ true → IsSomething (actual_at xs i) × IsOf u 0 (actual_at xs i)
    actual_is i h =
        let n = in_range k i h in
        let e : actual_count xs ≡ formal_count u k = s.count ∙ count_is u k in
        actual_of u 0 xs i are (omega arith)

    -- it conforms to the constraint, with one mark on both
    meets : (i : ℕ) (t : TyT) (m : Mark) → constraint u k i ≡ Some t
        → closed_conforms u (marked m (actual_at xs i)) (marked m t) ≡ true
    meets i t m e =
        let a = actual_is i (ap is_some e) in
        let b = constraint_closed u k i t (is.constraints k) e in
        both m (actual_at xs i) t a.0 b.0 a.1 b.1 (s.meet i t e)
      where
        both : (m : Mark) (a b : TyT) → IsSomething a → IsSomething b → IsOf u 0 a → IsOf u 0 b
            → closed_conforms u a b ≡ true
            → closed_conforms u (marked m a) (marked m b) ≡ true
        both Plain a b p q f g h = h
        both Attached (class_type c m ts) (class_type d n us) p q f g h = both_marked u Attached (class_type c m ts)
            (class_type d n us) h
        both Detachable (class_type c m ts) (class_type d n us) p q f g h = both_marked u Detachable
            (class_type c m ts) (class_type d n us) h
        both Attached (formal_type i m) b p q f g h = absurd (omega arith)
        both Attached none_type b p q f g h = absurd p
        both Attached (class_type c m ts) (formal_type j n) p q f g h = absurd (omega arith)
        both Attached (class_type c m ts) none_type p q f g h = absurd q
        both Detachable (formal_type i m) b p q f g h = absurd (omega arith)
        both Detachable none_type b p q f g h = absurd p
        both Detachable (class_type c m ts) (formal_type j n) p q f g h = absurd (omega arith)
        both Detachable (class_type c m ts) none_type p q f g h = absurd q

    closes : (a b : TyT) → conforms u k a b ≡ true → closed_conforms u (put_in xs a) (put_in xs b) ≡ true
    closes (class_type c m ts) (class_type d n us) h = both_put u xs (class_type c m ts) (class_type d n us) h
    closes (class_type c m ts) (formal_type j n) h = cc
    closes (class_type c m ts) none_type h = cc
    closes (formal_type i m) (formal_type j n) h =
        let p = in_range k i (and_left (is_some (constraint u k i)) _ h) in
        let r = and_right (is_some (constraint u k i)) _ h in
        let q : j < formal_count u k = subst (λ j. j < formal_count u k) (eqb-true i j (and_left (i == j) _ r)) p in
        closed_substituted u order is defined k k xs are (suit_meets u order is k xs s k) (formal_type i m)
        (formal_type j n) p q h
    closes (formal_type i m) (class_type d n us) h =
        let b = by_constraint u k i m d n us h in
        let c = constraint_closed u k i b.t (is.constraints k) b.is in
        transitive (marked m (actual_at xs i)) (marked m b.t) (put_in xs (class_type d n us)) (meets i b.t m b.is)
        (below (marked m b.t) (marked_of u 0 m b.t c.1) (class_type d n us) b.below)
      where
        below : (a : TyT) → IsOf u 0 a → (b : TyT) → class_conforms (ancestor u) a b ≡ true
            → closed_conforms u a (put_in xs b) ≡ true
        below (class_type c o ts) p b h =
            subst (λ a. closed_conforms u a (put_in xs b) ≡ true) (closed_put u xs (class_type c o ts) p)
            (both_put u xs (class_type c o ts) b h)
        below (formal_type j o) p b h = cc
        below none_type p b h = cc
    closes (formal_type i m) none_type h = cc
    closes none_type (class_type d n us) h = h
    closes none_type (formal_type j n) h =
        let a = actual_is j (and_left (is_some (constraint u k j)) _ h) in
        detachable n (actual_at xs j) (and_right (is_some (constraint u k j)) _ h) a.0 a.1
      where
        detachable : (n : Mark) (a : TyT) → same_mark n Detachable ≡ true → IsSomething a → IsOf u 0 a
            → closed_conforms u none_type (marked n a) ≡ true
        detachable Detachable (class_type c m ts) e p q = refl
        detachable Detachable (formal_type j m) e p q = absurd (omega arith)
        detachable Detachable none_type e p q = absurd p
        detachable Plain a e p q = cc
        detachable Attached a e p q = cc
    closes none_type none_type h = cc

    -- ---- marks

    attached_takes : (t : TyT) → is_attached u k t ≡ true → is_some (base_type u k t) ≡ true
        → takes_void (put_in xs t) ≡ false
    attached_takes (class_type d Attached ts) a b = refl
    attached_takes (class_type d Plain ts) a b = cc
    attached_takes (class_type d Detachable ts) a b = cc
    attached_takes (formal_type i Detachable) a b = cc
    attached_takes (formal_type i Attached) a b =
        let p = actual_is i b in go (actual_at xs i) p.0 p.1
      where
        go : (x : TyT) → IsSomething x → IsOf u 0 x → takes_void (marked Attached x) ≡ false
        go (class_type d m ts) p q = refl
        go (formal_type j m) p q = absurd (omega arith)
        go none_type p q = absurd p
    attached_takes (formal_type i Plain) a b = by (constraint u k i) refl a
      where
        below : (x : TyT) (c : TyT) → closed_conforms u x c ≡ true → is_attached_class c ≡ true → takes_void x ≡ false
        below (class_type d Attached ts) c h e = refl
        below (class_type d Plain ts) (class_type q Attached us) h e = refl
        below (class_type d Detachable ts) (class_type q Attached us) h e =
            let m = (opened u d Detachable ts q Attached us h).marks in cc
        below (class_type d Detachable ts) (class_type q Plain us) h e = cc
        below (class_type d Detachable ts) (class_type q Detachable us) h e = cc
        below (class_type d Detachable ts) (formal_type j m) h e = cc
        below (class_type d Detachable ts) none_type h e = cc
        below (class_type d Plain ts) (class_type q Plain us) h e = cc
        below (class_type d Plain ts) (class_type q Detachable us) h e = cc
        below (class_type d Plain ts) (formal_type j m) h e = cc
        below (class_type d Plain ts) none_type h e = cc
        below none_type (class_type q Attached us) h e = cc
        below none_type (class_type q Plain us) h e = cc
        below none_type (class_type q Detachable us) h e = cc
        below none_type (formal_type j m) h e = cc
        below none_type none_type h e = cc
        below (formal_type j m) (class_type q o us) h e = cc
        below (formal_type j m) (formal_type q o) h e = cc
        below (formal_type j m) none_type h e = cc

        by : (o : Option TyT) → constraint u k i ≡ o → option_map_or is_attached_class o false ≡ true
            → takes_void (actual_at xs i) ≡ false
        by None e a = cc
        by (Some c) e a = below (actual_at xs i) c (s.meet i c e) a
    attached_takes none_type a b = cc

    -- ---- the class above an object

    base : (o : Object) (t : TyT) → closed_conforms u (type_of o) (put_in xs t) ≡ true
        → (b : ℕ) (m : Mark) (ys : Actuals) → base_type u k t ≡ Some (class_type b m ys)
        → Over (system_over u) o.made b (put_in_all xs ys)
    base o (class_type d n ts) h b m ys e =
        down o b m (put_in_all xs ys) (subst (λ t. closed_conforms u (type_of o) (put_in xs t) ≡ true)
        (same_Some _ _ e) h)
    base o (formal_type i n) h b m ys e = by n (marked n (class_type b m ys)) refl
      where
        closed : IsOf u 0 (class_type b m ys)
        closed = (constraint_closed u k i (class_type b m ys) (is.constraints k) e).1

        further : closed_conforms u (type_of o) (marked n (class_type b m ys)) ≡ true
        further = transitive (type_of o) (marked n (actual_at xs i)) (marked n (class_type b m ys)) h (meets i
            (class_type b m ys) n e)

        put : closed_conforms u (type_of o) (put_in xs (marked n (class_type b m ys))) ≡ true
        put =
            subst (λ t. closed_conforms u (type_of o) t ≡ true)
            (sym (closed_put u xs (marked n (class_type b m ys)) (marked_of u 0 n
            (class_type b m ys) closed))) further

        by : (l : Mark) (t : TyT) → t ≡ marked n (class_type b m ys)
            → Over (system_over u) o.made b (put_in_all xs ys)
        by l t q = go n put
          where
            go : (l : Mark) → closed_conforms u (type_of o) (put_in xs (marked l (class_type b m ys))) ≡ true
                → Over (system_over u) o.made b (put_in_all xs ys)
            go Plain h = down o b m (put_in_all xs ys) h
            go Attached h = down o b Attached (put_in_all xs ys) h
            go Detachable h = down o b Detachable (put_in_all xs ys) h
    base o none_type h b m ys e = cc

  -- ---- actuals of ancestors, and of types

  module _ (valid : EachClause u (IsValidClause u)) where
    -- actuals that meet constraints in a class, with those of the class put in
    put_suits : (k c : ℕ) (xs ys : Actuals) → Suit (system_over u) k xs → AreOf u (formal_count u k) ys
        → actual_count ys ≡ formal_count u c → Meet u k ys (constraints_of u c)
        → Suit (system_over u) c (put_in_all xs ys)
    put_suits k c xs ys s of_class count meet =
        let e : actual_count xs ≡ formal_count u k = s.count ∙ count_is u k in
        let enough : formal_count u k ≤ actual_count xs = omega arith in
        let closed = put_all_of u 0 (formal_count u k) xs (all_closed_is u order is xs s.closed) enough ys of_class in
        record {
          closed = are_closed u order is (put_in_all xs ys) closed;
          count = count_put xs ys ∙ (count ∙ sym (count_is u c));
          meet = λ i t h.
              let b = constraint_closed u c i t (is.constraints c) h in
              subst (λ a. closed_conforms u a t ≡ true) (sym (actual_in xs ys i))
              (subst (λ b. closed_conforms u (put_in xs (actual_at ys i)) b ≡ true) (closed_put u xs t b.1)
              (closes k xs s (actual_at ys i) t (meets_at u c k ys i t meet h)));
        }
      where
        actual_in : (xs ys : Actuals) (i : ℕ) → actual_at (put_in_all xs ys) i ≡ put_in xs (actual_at ys i)
        actual_in xs no_actuals i = refl
        actual_in xs (and_actual y ys) zero = refl
        actual_in xs (and_actual y ys) (suc i) = actual_in xs ys i

    above : (t : ClassType) → IsMade (system_over u) t → (k : ℕ) (xs : Actuals) → Over (system_over u) t k xs
        → Suit (system_over u) k xs
    above t made k xs over =
        let of_class = ancestor_of u order is t.class_number k over.derived over.gives in
        let meet = ancestor_valid u order is defined valid t.class_number k over.derived over.gives in
        subst (Suit (system_over u) k) over.is
        (put_suits t.class_number k t.actuals over.derived made.suit of_class.0 of_class.1 meet.0)

    up : (o : Object) → IsMade (system_over u) o.made → (k : ℕ) (xs : Actuals) → Over (system_over u) o.made k xs
        → closed_conforms u (type_of o) (class_type k Attached xs) ≡ true
    up o made k xs over =
        shut u o.made.class_number Attached o.made.actuals k Attached xs
        (record { marks = refl; ts = over.derived; gives = over.gives; puts = over.is })

    own : (k : ℕ) (text : ClassT) → slice_get u k ≡ Some text → (xs : Actuals) → Suit (system_over u) k xs
        → put_in_all xs (own_formals text) ≡ xs
    own k text at xs s =
        subst (λ o. put_in_all xs (option_map_or own_formals o no_actuals) ≡ xs) at (own_put k xs s.count)

    made_of : (k : ℕ) (xs : Actuals) → Suit (system_over u) k xs → (d : ℕ) (m : Mark) (ys : Actuals)
        → IsTypeIn u k (class_type d m ys) → (text : ClassT) → slice_get u d ≡ Some text → text.is_deferred ≡ false
        → IsMade (system_over u) (record { class_number = d; actuals = put_in_all xs ys })
    made_of k xs s d m ys typed text at effective = record {
      there = there u order is d typed.0.0;
      instances = instance (is_basic d) refl;
      suit = put_suits k d xs ys s typed.0.2 typed.0.1 typed.1.0;
    }
      where
        instance : (b : Bool) → is_basic d ≡ b → (b || (system_over u).is_creatable d) ≡ true
        instance true e = refl
        instance false e =
            ap (λ o. option_map_or (λ (c : ClassT). not c.is_deferred && not (is_basic d)) o false) at
            ∙ (ap (λ a. not a && not (is_basic d)) effective ∙ ap (λ b. not b) e)

    pub open_laws : OpenTypeLaws u
    open_laws = record {
      closes = closes;
      attached = attached_takes;
      base = base;
      above = above;
      up = up;
      own = own;
      made = made_of;
    }
