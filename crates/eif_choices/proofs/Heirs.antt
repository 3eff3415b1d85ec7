-- What becomes of a feature of an ancestor by all clauses of a class.
use Rattle.std.proofs.Common.{◌≡◌, ℕ, ◌+◌, List, [], ◌∷◌, ◌++◌, length, drop, map, Option, Some, None, refl, sym, ap, ap₂, subst, ◌∙◌, arith}
use Rattle.std.specs.Prelude.{slice_get}
use Rattle.std.specs.List.{cons_option}
use Rattle.std.specs.Option.{option_map, option_map_or, option_to_list}
use Rattle.std.specs.List.Sorted.{IsStrictlySortedBy}
use Rattle.std.specs.Ordering.{nat_cmp}
use Rattle.std.proofs.lemmas.List.{append_assoc, append-nil, drop_all, drop_more, map-append}
use Rattle.std.proofs.lemmas.Option.{get_or_from_slice_get, slice_get_within}
use Rattle.eif_base.specs.declared.class_id.ClassId.{ClassId}
use Rattle.eif_base.specs.declared.feat_id.FeatId.{FeatId}
use Rattle.eif_choices.specs.Ancestors.{classes_by}
use Rattle.eif_choices.specs.Candidacy.{Adds, AreCandidates, AreFinals, AreReached, by_each, candidate_by, finals_at, reached_by}
use Rattle.eif_choices.proofs.Lines.{parent_line}
use Rattle.eif_classes.specs.Binding.{bind, candidates, reach, reached}
use Rattle.eif_classes.specs.Descent.{above, all_above, class_of}
use Rattle.eif_classes.specs.Features.{names}
use Rattle.eif_classes.specs.Names.{final_name, name_cmp, name_set}
use Rattle.eif_classes.specs.RisingLists.{in_order}
use Rattle.eif_heirs.specs.Clauses.{ups_in, IsClause}
use Rattle.eif_heirs.specs.Heirs.{IsHeir}
use Rattle.eif_heirs.specs.declared.clauses.Clause.{Clause}
use Rattle.eif_heirs.specs.declared.heir.Heir.{Heir}
use Rattle.eif_rows.specs.AncestorRows.{IsAncestorRow}
use Rattle.eif_rows.specs.Numbers.{class_numbers, feature_numbers, names_of}
use Rattle.eif_rows.specs.Systems.{IsSystem}
use Rattle.eif_rows.proofs.ClassSets.{rising-names}
use Rattle.eif_rows.proofs.Matches.{length-Match, map-from_Match, Match-at, Match-at_second, Match-weaken}
use Rattle.eif_rows.proofs.NameSets.{names_of-in_order}
use Rattle.eif_rows.proofs.Searching.{map_itself}
use Rattle.eif_system.specs.Inheritance.{clauses, parent_number}
use Rattle.eif_system.specs.Lineage.{Line, Ups, up, top, line_by, ups_by, line_of}
use Rattle.eif_tree.specs.Tree.{ParentT, ClassT}
use Rattle.eif_tree.specs.View.{class_view}

drop_at_place : {A : Type 0} (xs : List A) (j : ℕ) (x : A) → slice_get xs j ≡ Some x → drop j xs ≡ x ∷ drop (j + 1) xs
drop_at_place xs j x e =
    drop_more xs j x (slice_get_within xs j x e) ∙ ap (λ y. y ∷ drop (j + 1) xs) (get_or_from_slice_get xs j x x e)

-- the clauses of the class c from that number on
abbrev pub ups_from : List ClassT → ClassT → ℕ → Ups
ups_from u c j = ups_by (λ p. line_by (line_of u) (parent_number u c p)) (drop j (clauses c))

-- the clause of an heir with that number
record IsClauseAt (u : List ClassT) (h : Heir) (j : ℕ) (x : Clause) : Type 0 where
  pub p : ParentT
  pub is : IsClause u (class_view h.tree.now) x p
  pub finals : AreFinals h.names.items (finals_at h j) x
  pub first : ups_from u (class_view h.tree.now) j
      ≡ up p (line_of u x.parent.0) (ups_from u (class_view h.tree.now) (j + 1))

clause_at : (u : List ClassT) (h : Heir) → IsHeir u h → (j : ℕ) (x : Clause) → slice_get h.clauses.items j ≡ Some x
    → IsClauseAt u h j x
clause_at u h is j x e =
    let c = class_view h.tree.now in
    let found = Match-at (IsClause u c) h.clauses.items (clauses c) is.clauses_are j x e in
    let finals = Match-at_second (λ fs x. AreFinals h.names.items fs.items x) h.finals.items h.clauses.items is.finals_are
    j x e in
    let here : finals_at h j ≡ finals.0.items = ap (λ o. option_map_or (λ fs. fs.items) o []) finals.1 in
    record {
      p = found.0;
      is = found.2;
      finals = ap (names_of h.names.items) here ∙ finals.2;
      first = ap (ups_by (λ p. line_by (line_of u) (parent_number u c p))) (drop_at_place (clauses c) j found.0 found.1)
          ∙ ap (λ o. up found.0 (line_by (line_of u) o) (ups_from u c (j + 1))) found.2.parent_is;
    }

-- ---- names

-- so far: those by the clauses before that number
abbrev pub AreSoFar : (ParentT → Line → List ℕ → List (List ℕ)) → Heir → ℕ → ℕ → ℕ → List FeatId → Type 0
AreSoFar part h k i j fs =
    (u : List ClassT) (m : List ℕ) → IsSystem u → IsHeir u h → slice_get (names (line_of u k)) i ≡ Some m
    → names_of h.names.items fs ++ map Some (by_each part (ups_from u (class_view h.tree.now) j) m)
    ≡ map Some (by_each part (ups_in u (class_view h.tree.now)) m)

module _ (part : ParentT → Line → List ℕ → List (List ℕ)) (h : Heir) (k i : ℕ) where
  pub none_so_far : (fs : List FeatId) → fs ≡ [] → AreSoFar part h k i 0 fs
  none_so_far fs none = λ u m s is at.
      ap (λ fs. names_of h.names.items fs ++ map Some (by_each part (ups_in u (class_view h.tree.now)) m)) none

  pub more_so_far : (j : ℕ) (x : Clause) (old new : List FeatId) → slice_get h.clauses.items j ≡ Some x
      → Adds part x (finals_at h j) k i old new → AreSoFar part h k i j old → AreSoFar part h k i (j + 1) new
  more_so_far j x old new e adds so_far = λ u m s is at.
      let c = class_view h.tree.now in
      let ns = h.names.items in
      let clause = clause_at u h is j x e in
      let here = part clause.p (line_of u x.parent.0) m in
      let rest = by_each part (ups_from u c (j + 1)) m in
      ap (λ zs. zs ++ map Some rest) (adds u c clause.p ns m s clause.is clause.finals at)
      ∙ (append_assoc (names_of ns old) (map Some here) (map Some rest)
      ∙ (ap (λ zs. names_of ns old ++ zs) (sym (map-append Some here rest))
      ∙ (ap (λ ups. names_of ns old ++ map Some (by_each part ups m)) (sym clause.first)
      ∙ so_far u m s is at)))

  pub all_so_far : (j : ℕ) (fs : List FeatId) → length h.clauses.items ≡ j → AreSoFar part h k i j fs
      → (u : List ClassT) (m : List ℕ) → IsSystem u → IsHeir u h → slice_get (names (line_of u k)) i ≡ Some m
      → names_of h.names.items fs ≡ map Some (by_each part (ups_in u (class_view h.tree.now)) m)
  all_so_far j fs long so_far = λ u m s is at.
      let c = class_view h.tree.now in
      let n : length (clauses c) ≡ j =
      sym (length-Match (IsClause u c) h.clauses.items (clauses c) is.clauses_are) ∙ long in
      sym (append-nil (names_of h.names.items fs))
      ∙ (ap (λ ps. names_of h.names.items fs
      ++ map Some (by_each part (ups_by (λ p. line_by (line_of u) (parent_number u c p)) ps) m))
      (sym (drop_all j (clauses c) (omega arith)))
      ∙ so_far u m s is at)

by_each-candidates : (k : ℕ) (ups : Ups) (m : List ℕ) → by_each (candidate_by k) ups m ≡ candidates ups k m
by_each-candidates k top m = refl
by_each-candidates k (up p l rest) m =
    in_front (option_map (final_name p) (bind l k m)) (by_each (candidate_by k) rest m)
    ∙ ap (cons_option (option_map (final_name p) (bind l k m))) (by_each-candidates k rest m)
  where
    in_front : (o : Option (List ℕ)) (ms : List (List ℕ)) → option_to_list o ++ ms ≡ cons_option o ms
    in_front None ms = refl
    in_front (Some n) ms = refl

by_each-reached : (k : ℕ) (ups : Ups) (m : List ℕ) → by_each (reached_by k) ups m ≡ reached ups k m
by_each-reached k top m = refl
by_each-reached k (up p l rest) m =
    ap (λ ms. map (final_name p) (reach l k m) ++ ms) (by_each-reached k rest m)

module _ (h : Heir) (k i j : ℕ) (long : length h.clauses.items ≡ j) where
  pub candidates_are : (fs : List FeatId) → AreSoFar (candidate_by k) h k i j fs → AreCandidates h k i fs
  candidates_are fs so_far = λ u m s is at.
      all_so_far (candidate_by k) h k i j fs long so_far u m s is at
      ∙ ap (map Some) (by_each-candidates k (ups_in u (class_view h.tree.now)) m)

  pub reached_are : (fs ordered : List FeatId) → AreSoFar (reached_by k) h k i j fs
      → feature_numbers ordered ≡ in_order nat_cmp (feature_numbers fs) → AreReached h k i ordered
  reached_are fs ordered so_far is_ordered = λ u m s is at.
      let ups = ups_in u (class_view h.tree.now) in
      names_of-in_order h.names.items
      (subst (IsStrictlySortedBy name_cmp) (sym is.names_are) (rising-names (line_of u h.class_id.0))) fs ordered
      (by_each (reached_by k) ups m) (all_so_far (reached_by k) h k i j fs long so_far u m s is at) is_ordered
      ∙ ap (λ ms. map Some (name_set ms)) (by_each-reached k ups m)

-- ---- proper ancestors

abbrev pub AreClassesSoFar : Heir → ℕ → List ClassId → Type 0
AreClassesSoFar h j ks =
    (u : List ClassT) → IsSystem u → IsHeir u h
    → class_numbers ks ++ all_above (ups_from u (class_view h.tree.now) j)
    ≡ all_above (ups_in u (class_view h.tree.now))

ancestors_by_row : (u : List ClassT) (c : ClassT) (x : Clause) (p : ParentT) → IsSystem u → IsClause u c x p
    → (rest : List ℕ) → cons_option (class_of (line_of u x.parent.0)) (above (line_of u x.parent.0) ++ rest)
    ≡ classes_by x ++ rest
ancestors_by_row u c x p s is rest =
    let l = line_of u x.parent.0 in
    ap₂ (λ o ks. cons_option o (ks ++ rest)) (parent_line u s c p x.parent.0 is.parent_is)
    (sym (map-from_Match (λ r. r.class_id.0) (λ k. k) x.row.now.ancestors.items (above l)
    (Match-weaken (IsAncestorRow u l) (λ r k. r.class_id.0 ≡ k) (λ r k a. a.class) x.row.now.ancestors.items (above l)
    is.row_is.ancestors_are)
    ∙ map_itself (above l)))

module _ (h : Heir) where
  pub no_classes_so_far : (ks : List ClassId) → ks ≡ [] → AreClassesSoFar h 0 ks
  no_classes_so_far ks none = λ u s is. ap (λ ks. class_numbers ks ++ all_above (ups_in u (class_view h.tree.now))) none

  pub more_classes_so_far : (j : ℕ) (x : Clause) (old new : List ClassId) → slice_get h.clauses.items j ≡ Some x
      → class_numbers new ≡ class_numbers old ++ classes_by x → AreClassesSoFar h j old
      → AreClassesSoFar h (j + 1) new
  more_classes_so_far j x old new e added so_far = λ u s is.
      let c = class_view h.tree.now in
      let clause = clause_at u h is j x e in
      let rest = all_above (ups_from u c (j + 1)) in
      ap (λ zs. zs ++ rest) added
      ∙ (append_assoc (class_numbers old) (classes_by x) rest
      ∙ (ap (λ zs. class_numbers old ++ zs)
      (sym (ancestors_by_row u c x clause.p s clause.is rest) ∙ ap all_above (sym clause.first))
      ∙ so_far u s is))

  pub above_are : (j : ℕ) (ks ordered : List ClassId) → length h.clauses.items ≡ j → AreClassesSoFar h j ks
      → class_numbers ordered ≡ in_order nat_cmp (class_numbers ks)
      → (u : List ClassT) → IsSystem u → IsHeir u h → class_numbers ordered ≡ above (line_of u h.class_id.0)
  above_are j ks ordered long so_far is_ordered = λ u s is.
      let c = class_view h.tree.now in
      let n : length (clauses c) ≡ j =
      sym (length-Match (IsClause u c) h.clauses.items (clauses c) is.clauses_are) ∙ long in
      let all : class_numbers ks ≡ all_above (ups_in u c) =
      sym (append-nil (class_numbers ks))
      ∙ (ap (λ ps. class_numbers ks ++ all_above (ups_by (λ p. line_by (line_of u) (parent_number u c p)) ps))
      (sym (drop_all j (clauses c) (omega arith)))
      ∙ so_far u s is) in
      is_ordered ∙ (ap (in_order nat_cmp) all ∙ ap above (sym is.line_is))
