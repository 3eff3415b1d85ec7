-- What stays known along instructions.
use Rattle.std.proofs.Common.{◌≡◌, ℕ, Bool, true, false, List, [], ◌∷◌, ◌++◌, Option, Some, None, refl, sym, ap, ◌∙◌}
use Rattle.std.specs.Prelude.{if◌then◌else◌, not, ◌&&◌, ◌||◌}
use Rattle.std.specs.Str.{bytes_eq}
use Rattle.std.proofs.lemmas.List.Folds.{list_any-append}
use Rattle.std.proofs.lemmas.Slice.Eq.{bytes_eq-Decides}
use Rattle.eif_base.specs.Numbering.{is_among}
use Rattle.eif_tree.specs.Tree.{Ex, Exs, Ins, assign, call, create, choose, loop, check, Inss, no_inss, and_ins, Branches, no_branches, and_branch, Otherwise, no_else, else_part}
use Rattle.eif_classes.specs.Types.{TyT}
use Rattle.eif_body_rules.specs.ExpressionTypes.{judge, type_of, told}
use Rattle.eif_body_rules.specs.Facts.{Fact, attached, usable, Usable, is_known_attached, earlier, usable_test, forgotten}
use Rattle.eif_body_rules.specs.KnownFacts.{assigned, assigned_in, assigned_by_branches, assigned_otherwise, without, learned, has_attached_type, known_after, known_after_all, known_in_loop, known_where}
use Rattle.eif_body_rules.specs.Settings.{Setting, is_local}
use Rattle.eif_body_rules.specs.TestRules.{test_names}
use Rattle.eif_valid_bodies.specs.KnownStays.{Fewer}
use Rattle.eif_valid_bodies.specs.Valid.{Valid}
use Rattle.eif_valid_bodies.proofs.Parts.{no_value}
use Rattle.eif_valid_bodies.proofs.TestsFree.{tests_free, none_told}

-- ---- truth values

both_true : (a b : Bool) → (a && b) ≡ true → (a ≡ true) × (b ≡ true)
both_true true b h = (refl, h)
both_true false b h = cc

true_both : (a b : Bool) → a ≡ true → b ≡ true → (a && b) ≡ true
true_both true b p q = q
true_both false b p q = cc

-- no local of both lists
not_either : (l a b : Bool) → not (l && (a || b)) ≡ true → (not (l && a) ≡ true) × (not (l && b) ≡ true)
not_either false a b h = (refl, refl)
not_either true true b h = cc
not_either true false b h = (refl, h)

neither : (l a b : Bool) → not (l && a) ≡ true → not (l && b) ≡ true → not (l && (a || b)) ≡ true
neither false a b p q = refl
neither true true b p q = cc
neither true false b p q = q

-- ---- facts that are forgotten

attached_kept : (b : Bool) (y : List ℕ) (k : List Fact) (x : List ℕ)
    → usable_test (if b then attached y ∷ k else k) x ≡ usable_test k x
attached_kept true y k x = refl
attached_kept false y k x = refl

-- tests stay
forgotten_usable : (gone : List ℕ → Bool) (k : List Fact) (x : List ℕ)
    → usable_test (forgotten gone k) x ≡ usable_test k x
forgotten_usable gone [] x = refl
forgotten_usable gone (attached y ∷ k) x =
    attached_kept (not (gone y)) y (forgotten gone k) x ∙ forgotten_usable gone k x
forgotten_usable gone (usable y t ∷ k) x =
    ap (λ o. if bytes_eq y x then Some (earlier t o) else o) (forgotten_usable gone k x)

-- of names the others
dropped : (gone : List ℕ → Bool) (y x : List ℕ) (b g known now : Bool) → bytes_eq y x ≡ b → gone y ≡ g
    → now ≡ (known && not (gone x)) → (if not g then b || now else now) ≡ ((b || known) && not (gone x))
dropped gone y x true true known now eq is h =
    let same : gone x ≡ true = ap gone (sym ((bytes_eq-Decides y x).0 eq)) ∙ is in
    h ∙ (ap (λ c. known && not c) same ∙ (none known ∙ ap (λ c. not c) (sym same)))
  where
    none : (a : Bool) → (a && false) ≡ false
    none true = refl
    none false = refl
dropped gone y x true false known now eq is h =
    let same : gone x ≡ false = ap gone (sym ((bytes_eq-Decides y x).0 eq)) ∙ is in
    ap (λ c. not c) (sym same)
dropped gone y x false true known now eq is h = h
dropped gone y x false false known now eq is h = h

attached_if : (b : Bool) (y : List ℕ) (k : List Fact) (x : List ℕ)
    → is_known_attached (if b then attached y ∷ k else k) x
    ≡ (if b then bytes_eq y x || is_known_attached k x else is_known_attached k x)
attached_if true y k x = refl
attached_if false y k x = refl

forgotten_attached : (gone : List ℕ → Bool) (k : List Fact) (x : List ℕ)
    → is_known_attached (forgotten gone k) x ≡ (is_known_attached k x && not (gone x))
forgotten_attached gone [] x = refl
forgotten_attached gone (attached y ∷ k) x =
    attached_if (not (gone y)) y (forgotten gone k) x
    ∙ dropped gone y x (bytes_eq y x) (gone y) (is_known_attached k x)
    (is_known_attached (forgotten gone k) x) refl refl
    (forgotten_attached gone k x)
forgotten_attached gone (usable y t ∷ k) x = forgotten_attached gone k x

-- ---- facts of two lists

both_attached : (k l : List Fact) (x : List ℕ) → is_known_attached k x ≡ true → is_known_attached (k ++ l) x ≡ true
both_attached [] l x h = cc
both_attached (attached y ∷ k) l x h = by_case (bytes_eq y x) h (both_attached k l x)
  where
    by_case : (b : Bool) → (b || is_known_attached k x) ≡ true
        → (is_known_attached k x ≡ true → is_known_attached (k ++ l) x ≡ true)
        → (b || is_known_attached (k ++ l) x) ≡ true
    by_case true h more = refl
    by_case false h more = more h
both_attached (usable y t ∷ k) l x h = both_attached k l x h

both_usable : (k l : List Fact) (x : List ℕ) → usable_test l x ≡ None → usable_test (k ++ l) x ≡ usable_test k x
both_usable [] l x h = h
both_usable (attached y ∷ k) l x h = both_usable k l x h
both_usable (usable y t ∷ k) l x h = ap (λ o. if bytes_eq y x then Some (earlier t o) else o) (both_usable k l x h)

-- ---- one list of facts says no more than another

fewer_same : (k : List Fact) → Fewer k k
fewer_same k = record { attached = λ x h. h; usable = λ x u h. h }

fewer_more : (k l m : List Fact) → Fewer k l → Fewer l m → Fewer k m
fewer_more k l m p q =
    record { attached = λ x h. q.attached x (p.attached x h); usable = λ x u h. q.usable x u (p.usable x u h) }

module _ (s : Setting) where
  -- x is no local of the list
  abbrev Stays : List (List ℕ) → List ℕ → Type 0
  Stays xs x = not (is_local s x && is_among xs x) ≡ true

  stays_both : (xs ys : List (List ℕ)) (x : List ℕ) → Stays (xs ++ ys) x → Stays xs x × Stays ys x
  stays_both xs ys x h =
      not_either (is_local s x) (is_among xs x) (is_among ys x)
      (ap (λ b. not (is_local s x && b)) (sym (list_any-append (bytes_eq x) xs ys)) ∙ h)

  without_usable : (xs : List (List ℕ)) (k : List Fact) (x : List ℕ) → usable_test (without s xs k) x ≡ usable_test k x
  unfolding without
  without_usable xs k x = forgotten_usable (λ x. is_local s x && is_among xs x) k x

  in_without : (xs : List (List ℕ)) (k : List Fact) (x : List ℕ) → is_known_attached k x ≡ true → Stays xs x
      → is_known_attached (without s xs k) x ≡ true
  unfolding without
  in_without xs k x p q =
      forgotten_attached (λ x. is_local s x && is_among xs x) k x ∙ true_both (is_known_attached k x) _ p q

  from_without : (xs : List (List ℕ)) (k : List Fact) (x : List ℕ) → is_known_attached (without s xs k) x ≡ true
      → (is_known_attached k x ≡ true) × Stays xs x
  unfolding without
  from_without xs k x h =
      both_true (is_known_attached k x) _
      (sym (forgotten_attached (λ x. is_local s x && is_among xs x) k x) ∙ h)

  -- of fewer facts, without more names
  fewer_without : (xs ys : List (List ℕ)) (k l : List Fact) → ((x : List ℕ) → Stays xs x → Stays ys x) → Fewer k l
      → Fewer (without s xs k) (without s ys l)
  fewer_without xs ys k l less p = record {
    attached =
        λ x h.
        let there : (is_known_attached k x ≡ true) × Stays xs x = from_without xs k x h in
        in_without ys l x (p.attached x there.0) (less x there.1);
    usable = λ x u h. without_usable ys l x ∙ p.usable x u (sym (without_usable xs k x) ∙ h);
  }

  -- nothing more is known without some names
  fewer_all : (xs : List (List ℕ)) (k : List Fact) → Fewer (without s xs k) k
  fewer_all xs k = record {
    attached = λ x h. (from_without xs k x h).0;
    usable = λ x u h. sym (without_usable xs k x) ∙ h;
  }

  -- with the fact that a local is attached
  fewer_learned : (k : List Fact) (x : List ℕ) (b : Bool) → Fewer k (k ++ learned s x b)
  unfolding learned
  fewer_learned k x b = by_case (is_local s x && b)
    where
      by_case : (c : Bool) → Fewer k (k ++ (if c then attached x ∷ [] else []))
      by_case true = record {
        attached = λ y h. both_attached k (attached x ∷ []) y h;
        usable = λ y u h. both_usable k (attached x ∷ []) y refl ∙ h;
      }
      by_case false = record {
        attached = λ y h. both_attached k [] y h;
        usable = λ y u h. both_usable k [] y refl ∙ h;
      }

  -- ---- conditions

  pub fewer_where : (k : List Fact) (b : Bool) (e : Ex) (t : TyT) → Valid (judge s k [] e) t
      → Fewer k (known_where s k b e)
  fewer_where k b e t v = record {
    attached = λ x h. both_attached k (told s k b e) x h;
    usable = λ x u h. both_usable k (told s k b e) x (none_told s k [] b e x (no_test x u h)) ∙ h;
  }
    where
      no_test : (x : List ℕ) (u : Usable) → usable_test k x ≡ Some u → is_among (test_names e) x ≡ false
      no_test x u h = by_case (is_among (test_names e) x) refl
        where
          by_case : (c : Bool) → is_among (test_names e) x ≡ c → c ≡ false
          by_case false is = refl
          by_case true is = absurd (no_value (sym (tests_free s k [] e t v x is).0.no_test ∙ h))

  -- ---- instructions

  fewer_after : (k : List Fact) (i : Ins) → Fewer (without s (assigned i) k) (known_after s k i)
  fewer_after k (assign x e) =
      fewer_learned (without s (x.name ∷ []) k) x.name (has_attached_type s (type_of s k e))
  fewer_after k (create p w x y args) = fewer_learned (without s (x.name ∷ []) k) x.name true
  fewer_after k (call e) = fewer_all [] k
  fewer_after k (choose bs o) = fewer_same (known_after s k (choose bs o))
  fewer_after k (loop start claims exit body variant) =
      fewer_same (known_after s k (loop start claims exit body variant))
  fewer_after k (check claims) = fewer_all [] k

  -- without names of two lists, what is known behind the first is known without the second
  fewer_then : (xs ys : List (List ℕ)) (k l : List Fact) → Fewer (without s xs k) l
      → Fewer (without s (xs ++ ys) k) (without s ys l)
  fewer_then xs ys k l p = record {
    attached =
        λ x h.
        let there : (is_known_attached k x ≡ true) × Stays (xs ++ ys) x = from_without (xs ++ ys) k x h in
        let each : Stays xs x × Stays ys x = stays_both xs ys x there.1 in
        in_without ys l x (p.attached x (in_without xs k x there.0 each.0)) each.1;
    usable =
        λ x u h.
        without_usable ys l x
        ∙ p.usable x u (without_usable xs k x ∙ (sym (without_usable (xs ++ ys) k x) ∙ h));
  }

  pub fewer_behind : (k : List Fact) (is : Inss) → Fewer (without s (assigned_in is) k) (known_after_all s k is)
  fewer_behind k no_inss = fewer_all [] k
  fewer_behind k (and_ins i is) =
      fewer_more (without s (assigned i ++ assigned_in is) k) (without s (assigned_in is) (known_after s k i)) _
      (fewer_then (assigned i) (assigned_in is) k (known_after s k i) (fewer_after k i))
      (fewer_behind (known_after s k i) is)

  -- ---- branches

  pub fewer_branch : (k : List Fact) (e : Ex) (is : Inss) (bs : Branches) (o : Otherwise) (t : TyT)
      → Valid (judge s k [] e) t
      → Fewer (known_after s k (choose (and_branch e is bs) o)) (known_after_all s (known_where s k true e) is)
  fewer_branch k e is bs o t v =
      let first : List (List ℕ) = assigned_in is in
      let rest : List (List ℕ) = assigned_by_branches bs in
      let other : List (List ℕ) = assigned_otherwise o in
      fewer_more (without s (first ++ rest ++ other) k) (without s first (known_where s k true e)) _
      (fewer_without (first ++ rest ++ other) first k (known_where s k true e)
      (λ x h. (stays_both first rest x (stays_both (first ++ rest) other x h).0).0) (fewer_where k true e t v))
      (fewer_behind (known_where s k true e) is)

  pub fewer_later : (k : List Fact) (e : Ex) (is : Inss) (bs : Branches) (o : Otherwise) (t : TyT)
      → Valid (judge s k [] e) t
      → Fewer (known_after s k (choose (and_branch e is bs) o)) (known_after s (known_where s k false e) (choose bs o))
  fewer_later k e is bs o t v =
      let first : List (List ℕ) = assigned_in is in
      let rest : List (List ℕ) = assigned_by_branches bs in
      let other : List (List ℕ) = assigned_otherwise o in
      fewer_without (first ++ rest ++ other) (rest ++ other) k (known_where s k false e)
      (λ x h. joined first rest other x h) (fewer_where k false e t v)
    where
      joined : (first rest other : List (List ℕ)) (x : List ℕ) → Stays (first ++ rest ++ other) x
          → Stays (rest ++ other) x
      joined first rest other x h =
          let front : Stays (first ++ rest) x × Stays other x = stays_both (first ++ rest) other x h in
          ap (λ b. not (is_local s x && b)) (list_any-append (bytes_eq x) rest other)
          ∙ neither (is_local s x) (is_among rest x) (is_among other x) (stays_both first rest x front.0).1 front.1

  pub fewer_else : (k : List Fact) (is : Inss)
      → Fewer (known_after s k (choose no_branches (else_part is))) (known_after_all s k is)
  fewer_else k is = fewer_behind k is

  pub fewer_none : (k : List Fact) → Fewer (known_after s k (choose no_branches no_else)) k
  fewer_none k = fewer_all [] k

  -- ---- loops

  pub fewer_first : (k : List Fact) (start body : Inss)
      → Fewer (known_in_loop s k start body) (known_after_all s k start)
  fewer_first k start body = fewer_all (assigned_in body) (known_after_all s k start)

  -- what is known without some names is known without them again
  fewer_again : (xs : List (List ℕ)) (k : List Fact) → Fewer (without s xs k) (without s xs (without s xs k))
  fewer_again xs k = record {
    attached = λ x h. in_without xs (without s xs k) x h (from_without xs k x h).1;
    usable = λ x u h. without_usable xs (without s xs k) x ∙ h;
  }

  pub fewer_next : (k : List Fact) (start : Inss) (exit : Ex) (body : Inss) (t : TyT)
      → Valid (judge s (known_in_loop s k start body) [] exit) t
      → Fewer (known_in_loop s k start body)
      (known_after_all s (known_where s (known_in_loop s k start body) false exit) body)
  fewer_next k start exit body t v =
      let at : List Fact = known_in_loop s k start body in
      let names : List (List ℕ) = assigned_in body in
      fewer_more at (without s names at) _ (fewer_again names (known_after_all s k start))
      (fewer_more (without s names at) (without s names (known_where s at false exit)) _
      (fewer_without names names at (known_where s at false exit) (λ x h. h) (fewer_where at false exit t v))
      (fewer_behind (known_where s at false exit) body))

  pub fewer_last : (k : List Fact) (start : Inss) (claims : Exs) (exit : Ex) (body : Inss) (variant : Option Ex)
      → Fewer (known_after s k (loop start claims exit body variant)) (known_in_loop s k start body)
  fewer_last k start claims exit body variant =
      fewer_then (assigned_in start) (assigned_in body) k (known_after_all s k start) (fewer_behind k start)
