-- What becomes of the features of one ancestor in a class, feature by feature, and of all ancestors.
use Rattle.std.proofs.Common.{◌≡◌, ◌≢◌, ℕ, ◌+◌, ◌<◌, ◌≤◌, false, List, [], ◌∷◌, ◌++◌, length, take, map, Option, Some, Vec, Global, refl, sym, ap, ap₂, subst, ◌∙◌, arith}
use Rattle.std.specs.Prelude.{◌==◌, if◌then◌else◌, flat_map, slice_get}
use Rattle.std.specs.Option.{option_and_then, option_map, option_to_list}
use Rattle.std.proofs.lemmas.List.{append-nil, append_assoc, length-map, map-append, take_all, take_more}
use Rattle.std.proofs.lemmas.Option.{get_or_from_slice_get, same_Some, slice_get-map, slice_get_within}
use Rattle.eif_base.specs.declared.class_id.ClassId.{ClassId}
use Rattle.eif_base.specs.declared.feat_id.FeatId.{FeatId}
use Rattle.eif_choices.specs.Ancestors.{IsAncestorChoice}
use Rattle.eif_choices.specs.Candidacy.{AreCandidates, AreReached}
use Rattle.eif_choices.specs.Chosen.{AreChoices}
use Rattle.eif_choices.specs.Picked.{clause_trees, picked_feature, selection}
use Rattle.eif_choices.specs.declared.ancestor.AncestorChoices.{AncestorChoices}
use Rattle.eif_choices.specs.declared.choices.Choices.{Choices}
use Rattle.eif_choices.proofs.Lines.{differ, order_in}
use Rattle.eif_choices.proofs.Picking.{picked_named}
use Rattle.eif_classes.specs.Binding.{bind, candidates, is_selected_in, own_name, picked, reach, reached}
use Rattle.eif_classes.specs.Descent.{above}
use Rattle.eif_classes.specs.Features.{names}
use Rattle.eif_classes.specs.Names.{name_cmp, name_set}
use Rattle.eif_feature_rules.specs.SelectionRules as rules
use Rattle.eif_heirs.specs.Clauses.{ups_in, IsClause}
use Rattle.eif_heirs.specs.Heirs.{IsHeir}
use Rattle.eif_heirs.specs.RowsAbove.{AreRowsAbove}
use Rattle.eif_heirs.specs.declared.heir.Heir.{Heir}
use Rattle.eif_lineage_laws.proofs.Descending.{listed_is_above}
use Rattle.eif_rows.specs.AncestorRows.{IsAncestorRow, reached_at}
use Rattle.eif_rows.specs.Matched.{Match}
use Rattle.eif_rows.specs.Numbers.{class_numbers, name_of, names_of}
use Rattle.eif_rows.specs.Rows.{IsRow}
use Rattle.eif_rows.specs.Systems.{IsSystem}
use Rattle.eif_rows.specs.declared.ancestor_row.AncestorRow.{AncestorRow}
use Rattle.eif_rows.specs.declared.row.Row.{Row}
use Rattle.eif_rows.proofs.ClassSets.{rising-names}
use Rattle.eif_rows.proofs.Matches.{map-from_Match, Match-from_places, Match-push, Match-weaken}
use Rattle.eif_rows.proofs.NameSets.{is_member-from_place}
use Rattle.eif_rows.proofs.Searching.{map_itself}
use Rattle.eif_system.specs.Graph.{is_member}
use Rattle.eif_system.specs.Inheritance.{clauses}
use Rattle.eif_system.specs.Lineage.{line, line_of}
use Rattle.eif_tree.specs.Tree.{ClassT}
use Rattle.eif_tree.specs.View.{class_view, parent_view}
use Rattle.std.specs.List.Sorted.{IsStrictlySortedBy}

map_map : {A B C : Type 0} (f : A → B) (g : B → C) (xs : List A) → map g (map f xs) ≡ map (λ x. g (f x)) xs
map_map f g [] = refl
map_map f g (x ∷ xs) = ap (λ ys. g (f x) ∷ ys) (map_map f g xs)

-- ---- one ancestor

module _ (u : List ClassT) (h : Heir) (k : ℕ) (s : IsSystem u) (is : IsHeir u h) (other : h.class_id.0 ≢ k) where
  apart : (h.class_id.0 == k) ≡ false
  apart = differ h.class_id.0 k other

  -- what of the ancestor's names becomes by the clauses of the class
  bind_is : (m : List ℕ) → bind (line_of u h.class_id.0) k m
      ≡ picked (clauses (class_view h.tree.now)) (candidates (ups_in u (class_view h.tree.now)) k m)
  bind_is m =
      let c = class_view h.tree.now in
      let ups = ups_in u c in
      ap (λ l. bind l k m) is.line_is
      ∙ ap (λ b. if b then own_name (line h.class_id.0 c ups) m else picked (clauses c) (candidates ups k m)) apart

  reach_is : (m : List ℕ) → reach (line_of u h.class_id.0) k m
      ≡ name_set (reached (ups_in u (class_view h.tree.now)) k m)
  reach_is m =
      let c = class_view h.tree.now in
      let ups = ups_in u c in
      ap (λ l. reach l k m) is.line_is
      ∙ ap (λ b. if b then option_to_list (own_name (line h.class_id.0 c ups) m) else name_set (reached ups k m)) apart

  trees_are : clause_trees h.clauses.items ≡ clauses (class_view h.tree.now)
  trees_are =
      let c = class_view h.tree.now in
      map-from_Match (λ x. parent_view x.tree.now) (λ p. p) h.clauses.items (clauses c)
      (Match-weaken (IsClause u c) (λ x p. parent_view x.tree.now ≡ p) (λ x p i. i.tree_is) h.clauses.items (clauses c)
      is.clauses_are)
      ∙ map_itself (clauses c)

  -- the pick among the candidates for a feature
  pick_is : (fs : List FeatId) (m : List ℕ)
      → names_of h.names.items fs ≡ map Some (candidates (ups_in u (class_view h.tree.now)) k m)
      → option_and_then (name_of (names (line_of u h.class_id.0)))
      (picked_feature (selection h.clauses.items h.names.items) fs)
      ≡ bind (line_of u h.class_id.0) k m
  pick_is fs m e =
      let c = class_view h.tree.now in
      let ms = candidates (ups_in u c) k m in
      let up = subst (IsStrictlySortedBy name_cmp) (sym is.names_are) (rising-names (line_of u h.class_id.0)) in
      ap (λ ns. option_and_then (name_of ns) (picked_feature (selection h.clauses.items h.names.items) fs))
      (sym is.names_are)
      ∙ (picked_named h.names.items up (clauses c) (selection h.clauses.items h.names.items)
      (ap (λ ps. map (is_selected_in ps) h.names.items) trees_are) fs ms e
      ∙ sym (bind_is m))

  -- the candidates for each feature, and the row that is made of them
  pub choice_is : (r : AncestorChoices) → length r.candidates.items ≡ length (names (line_of u k))
      → ((i : ℕ) (fs : Vec FeatId Global) → slice_get r.candidates.items i ≡ Some fs → AreCandidates h k i fs.items)
      → r.row.class_id.0 ≡ k
      → r.row.bound.items
      ≡ map (λ fs. picked_feature (selection h.clauses.items h.names.items) fs.items) r.candidates.items
      → ((i : ℕ) → i < length r.candidates.items → AreReached h k i (reached_at r.row i))
      → IsAncestorChoice u h k r
  choice_is r long each class bound all =
      let l = line_of u h.class_id.0 in
      let ups = ups_in u (class_view h.tree.now) in
      let ms = names (line_of u k) in
      let cands = r.candidates.items in
      let they_go : Match (λ fs m. names_of h.names.items fs.items ≡ map Some (candidates ups k m)) cands ms =
      Match-from_places (λ fs m. names_of h.names.items fs.items ≡ map Some (candidates ups k m)) cands ms long
      (λ i fs m e at. each i fs e u m s is at) in
      record {
        candidates_are = map-from_Match (λ fs. names_of h.names.items fs.items) (λ m. map Some (candidates ups k m))
            cands ms they_go;
        row_is = record {
          class = class;
          bound = ap (map (option_and_then (name_of (names l)))) bound
              ∙ (map_map (λ fs. picked_feature (selection h.clauses.items h.names.items) fs.items)
              (option_and_then (name_of (names l))) cands
              ∙ map-from_Match (λ fs. option_and_then (name_of (names l))
              (picked_feature (selection h.clauses.items h.names.items) fs.items)) (bind l k) cands ms
              (Match-weaken (λ fs m. names_of h.names.items fs.items ≡ map Some (candidates ups k m)) (λ fs m.
              option_and_then (name_of (names l)) (picked_feature (selection h.clauses.items h.names.items) fs.items)
              ≡ bind l k m) (λ fs m g. pick_is fs.items m g) cands ms they_go));
          reached = λ i m at.
              let there = slice_get_within ms i m at in
              let within : i < length cands = omega arith in
              ap (λ ns. names_of ns (reached_at r.row i)) (sym is.names_are)
              ∙ (all i within u m s is at ∙ ap (map Some) (sym (reach_is m)));
        };
      }

-- ---- all ancestors

flat_push : {A B : Type 0} (f : A → List B) (xs : List A) (x : A) → flat_map f (xs ++ x ∷ []) ≡ flat_map f xs ++ f x
flat_push f [] x = append-nil (f x)
flat_push f (y ∷ xs) x =
    ap (λ ys. f y ++ ys) (flat_push f xs x) ∙ sym (append_assoc (f y) (flat_map f xs) (f x))

-- of these ancestors
pub record AreFirstChoices (u : List ClassT) (h : Heir) (ks : List ℕ) (cands : List (Vec FeatId Global))
    (ancestors : List AncestorRow) : Type 0 where
  pub candidates_are : map (λ fs. names_of h.names.items fs.items) cands
      ≡ map (map Some) (rules.choices u (ups_in u (class_view h.tree.now)) ks)
  pub ancestors_are : Match (IsAncestorRow u (line_of u h.class_id.0)) ancestors ks

-- of the first ancestors, before that place
abbrev pub AreSoFar : List (Option Row) → Heir → List ClassId → ℕ → List (Vec FeatId Global) → List AncestorRow → Type 0
AreSoFar rows h ks j cands ancestors =
    (u : List ClassT) → IsSystem u → IsHeir u h → AreRowsAbove u rows h.class_id.0
    → AreFirstChoices u h (take j (class_numbers ks)) cands ancestors

module _ (rows : List (Option Row)) (h : Heir) (ks : List ClassId) where
  pub none_so_far : AreSoFar rows h ks 0 [] []
  none_so_far = λ u s is above. record { candidates_are = refl; ancestors_are = tt }

  row_of : (u : List ClassT) (k : ℕ) (row r : Row) → slice_get rows k ≡ Some (Some row)
      → slice_get rows k ≡ Some (Some r) → IsRow u k r → IsRow u k row
  row_of u k row r e f is =
      subst (IsRow u k) (same_Some r row (same_Some (Some r) (Some row) (sym f ∙ e))) is

  pub more_so_far : ((u : List ClassT) → IsSystem u → IsHeir u h → class_numbers ks ≡ above (line_of u h.class_id.0))
      → (j : ℕ) (k : ClassId) (row : Row) (r : AncestorChoices) (cands : List (Vec FeatId Global))
      (ancestors : List AncestorRow) → slice_get ks j ≡ Some k → slice_get rows k.0 ≡ Some (Some row)
      → ((u : List ClassT) → IsSystem u → IsHeir u h → IsRow u k.0 row → h.class_id.0 ≢ k.0
      → IsAncestorChoice u h k.0 r)
      → AreSoFar rows h ks j cands ancestors
      → AreSoFar rows h ks (j + 1) (cands ++ r.candidates.items) (ancestors ++ r.row ∷ [])
  more_so_far are j k row r cands ancestors at there choice so_far = λ u s is above.
      let l = line_of u h.class_id.0 in
      let ups = ups_in u (class_view h.tree.now) in
      let place : slice_get (class_numbers ks) j ≡ Some k.0 =
      slice_get-map (λ k. k.0) ks j ∙ ap (option_map (λ k. k.0)) at in
      let member = ap (is_member k.0) (sym (are u s is)) ∙ is_member-from_place (class_numbers ks) j k.0 place in
      let kept = above k.0 member in
      let order = order_in u s in
      let proper = listed_is_above u order.0 order.1 h.class_id.0 k.0 (class_view h.tree.now) is.class_is member in
      let here = choice u s is (row_of u k.0 row kept.0 there kept.1 kept.2) proper.other in
      let before = so_far u s is above in
      let numbers : take (j + 1) (class_numbers ks) ≡ take j (class_numbers ks) ++ k.0 ∷ [] =
      take_more (class_numbers ks) j k.0 (slice_get_within (class_numbers ks) j k.0 place)
      ∙ ap (λ x. take j (class_numbers ks) ++ x ∷ []) (get_or_from_slice_get (class_numbers ks) j k.0 k.0 place) in
      record {
        candidates_are = map-append (λ fs. names_of h.names.items fs.items) cands r.candidates.items
            ∙ (ap₂ ◌++◌ before.candidates_are (here.candidates_are
            ∙ sym (map_map (candidates ups k.0) (map Some) (names (line_of u k.0))))
            ∙ (sym (map-append (map Some) (rules.choices u ups (take j (class_numbers ks)))
            (map (candidates ups k.0) (names (line_of u k.0))))
            ∙ ap (map (map Some)) (sym (ap (rules.choices u ups) numbers
            ∙ flat_push (λ k. map (candidates ups k) (names (line_of u k))) (take j (class_numbers ks)) k.0))));
        ancestors_are = subst (λ ns. Match (IsAncestorRow u l) (ancestors ++ r.row ∷ []) ns) (sym numbers)
            (Match-push (IsAncestorRow u l) ancestors (take j (class_numbers ks)) r.row k.0 before.ancestors_are
            here.row_is);
      }

  pub all_so_far : ((u : List ClassT) → IsSystem u → IsHeir u h → class_numbers ks ≡ above (line_of u h.class_id.0))
      → (j : ℕ) (r : Choices) → r.above.items ≡ ks → length ks ≤ j
      → AreSoFar rows h ks j r.candidates.items r.ancestors.items
      → (u : List ClassT) → IsSystem u → IsHeir u h → AreRowsAbove u rows h.class_id.0
      → AreChoices u (line_of u h.class_id.0) (ups_in u (class_view h.tree.now)) r
  all_so_far are j r same long so_far = λ u s is above_rows.
      let l = line_of u h.class_id.0 in
      let ups = ups_in u (class_view h.tree.now) in
      let found = so_far u s is above_rows in
      let count = length-map ks (λ k. k.0) in
      let numbers : take j (class_numbers ks) ≡ above l = take_all j (class_numbers ks) (omega arith) ∙ are u s is in
      record {
        above_are = ap class_numbers same ∙ are u s is;
        candidates_are = ap (λ ns. map (λ fs. names_of ns fs.items) r.candidates.items) (sym is.names_are)
            ∙ (found.candidates_are ∙ ap (λ ks. map (map Some) (rules.choices u ups ks)) numbers);
        ancestors_are = subst (λ ns. Match (IsAncestorRow u l) r.ancestors.items ns) numbers found.ancestors_are;
      }
