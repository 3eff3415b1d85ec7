-- What the row of a clause's class says of a feature of an ancestor, and what becomes of it by the clause.
use Rattle.std.proofs.Common.{◌≡◌, ℕ, false, List, [], ◌∷◌, ◌++◌, map, Option, Some, None, refl, sym, ap, ap₂, subst, ◌∙◌}
use Rattle.std.specs.Prelude.{◌==◌, slice_get}
use Rattle.std.specs.List.{cons_option, filter_map}
use Rattle.std.specs.Option.{option_and_then, option_map, option_to_list}
use Rattle.std.proofs.lemmas.List.{map-append}
use Rattle.std.proofs.lemmas.Option.{get_or_from_slice_get, same_Some, slice_get-map}
use Rattle.eif_adapt.specs.Adaptations.{Adaptation, adapted, entry_view}
use Rattle.eif_base.specs.declared.feat_id.FeatId.{FeatId}
use Rattle.eif_choices.specs.Candidacy.{IsBoundIn, AreReachedIn, AreFinals, Adds, candidate_by, finals_of, reached_by}
use Rattle.eif_choices.proofs.Lines.{bind_none, bind_own, no_descent, parent_line, reach_none, reach_own}
use Rattle.eif_classes.specs.Binding.{bind, reach}
use Rattle.eif_classes.specs.Descent.{above, descends}
use Rattle.eif_classes.specs.Features.{features, names}
use Rattle.eif_classes.specs.Names.{final_name}
use Rattle.eif_feature_rules.specs.ParentFeatures.{parent_feature, parent_features}
use Rattle.eif_heirs.specs.Clauses.{IsClause}
use Rattle.eif_heirs.specs.declared.clauses.Clause.{Clause}
use Rattle.eif_rows.specs.AncestorRows.{IsAncestorRow, bound_at, reached_at}
use Rattle.eif_rows.specs.Numbers.{name_of, names_of}
use Rattle.eif_rows.specs.Rows.{IsRow}
use Rattle.eif_rows.specs.Systems.{IsSystem}
use Rattle.eif_rows.specs.declared.ancestor_row.AncestorRow.{AncestorRow}
use Rattle.eif_rows.proofs.NameSets.{is_among-from_place}
use Rattle.eif_system.specs.Graph.{is_member}
use Rattle.eif_system.specs.Lineage.{Line, line_of}
use Rattle.eif_tree.specs.Tree.{ParentT, ClassT}

-- ---- by the row of an ancestor

get_some : {A B : Type 0} (f : A → B) (o : Option A) (y : B) → option_map f o ≡ Some y
    → (x : A) × (o ≡ Some x) × (f x ≡ y)
get_some f None y e = absurd (cc)
get_some f (Some x) y e = (x, refl, same_Some (f x) y e)

bound_by_row : (u : List ClassT) (l : Line) (k : ℕ) (r : AncestorRow) → IsAncestorRow u l r k → (i : ℕ) (m : List ℕ)
    → slice_get (names (line_of u k)) i ≡ Some m → option_and_then (name_of (names l)) (bound_at r i) ≡ bind l k m
bound_by_row u l k r is i m at =
    let made = slice_get-map (λ f. option_and_then (name_of (names l)) f) r.bound.items i in
    let there = slice_get-map (bind l k) (names (line_of u k)) i ∙ ap (option_map (bind l k)) at in
    let found = get_some (λ f. option_and_then (name_of (names l)) f) (slice_get r.bound.items i) (bind l k m)
    (sym made ∙ (ap (λ xs. slice_get xs i) is.bound ∙ there)) in
    ap (option_and_then (name_of (names l))) (get_or_from_slice_get r.bound.items i found.0 None found.1) ∙ found.2

-- ---- in the class of a clause

module _ (x : Clause) (k i : ℕ) where
  -- a feature of the clause's class itself
  pub bound_itself : (f : FeatId) → f.0 ≡ i → x.parent.0 ≡ k → IsBoundIn x k i (Some f)
  bound_itself f number same = λ u c p m s is at.
      let here : slice_get (names (line_of u x.parent.0)) i ≡ Some m =
      subst (λ k. slice_get (names (line_of u k)) i ≡ Some m) (sym same) at in
      let named : slice_get (names (line_of u x.parent.0)) f.0 ≡ Some m =
      ap (slice_get (names (line_of u x.parent.0))) number ∙ here in
      named
      ∙ sym (subst (λ k. bind (line_of u x.parent.0) k m ≡ Some m) same
      (bind_own (line_of u x.parent.0) x.parent.0 m (parent_line u s c p x.parent.0 is.parent_is)
      (is_among-from_place (names (line_of u x.parent.0)) i m here)))

  pub reached_itself : (f : FeatId) → f.0 ≡ i → x.parent.0 ≡ k → AreReachedIn x k i (f ∷ [])
  reached_itself f number same = λ u c p m s is at.
      let here : slice_get (names (line_of u x.parent.0)) i ≡ Some m =
      subst (λ k. slice_get (names (line_of u k)) i ≡ Some m) (sym same) at in
      let named : slice_get (names (line_of u x.parent.0)) f.0 ≡ Some m =
      ap (slice_get (names (line_of u x.parent.0))) number ∙ here in
      ap (λ o. o ∷ []) named
      ∙ ap (map Some) (sym (subst (λ k. reach (line_of u x.parent.0) k m ≡ m ∷ []) same
      (reach_own (line_of u x.parent.0) x.parent.0 m (parent_line u s c p x.parent.0 is.parent_is)
      (is_among-from_place (names (line_of u x.parent.0)) i m here))))

  -- one of a proper ancestor
  pub bound_above : (r : AncestorRow)
      → ((u : List ClassT) (d : ℕ) → IsRow u d x.row.now → IsAncestorRow u (line_of u d) r k)
      → IsBoundIn x k i (bound_at r i)
  bound_above r found = λ u c p m s is at.
      bound_by_row u (line_of u x.parent.0) k r (found u x.parent.0 is.row_is) i m at

  pub reached_above : (r : AncestorRow)
      → ((u : List ClassT) (d : ℕ) → IsRow u d x.row.now → IsAncestorRow u (line_of u d) r k)
      → AreReachedIn x k i (reached_at r i)
  reached_above r found = λ u c p m s is at. (found u x.parent.0 is.row_is).reached i m at

  -- one of another class
  apart : (x.parent.0 == k) ≡ false
      → ((u : List ClassT) (d : ℕ) → IsRow u d x.row.now → is_member k (above (line_of u d)) ≡ false)
      → (u : List ClassT) (c : ClassT) (p : ParentT) → IsSystem u → IsClause u c x p
      → descends (line_of u x.parent.0) k ≡ false
  apart other none u c p s is =
      no_descent (line_of u x.parent.0) x.parent.0 k (parent_line u s c p x.parent.0 is.parent_is) other
      (none u x.parent.0 is.row_is)

  pub unbound : (x.parent.0 == k) ≡ false
      → ((u : List ClassT) (d : ℕ) → IsRow u d x.row.now → is_member k (above (line_of u d)) ≡ false)
      → IsBoundIn x k i None
  unbound other none = λ u c p m s is at.
      sym (bind_none (line_of u x.parent.0) k m (apart other none u c p s is))

  pub unreached : (x.parent.0 == k) ≡ false
      → ((u : List ClassT) (d : ℕ) → IsRow u d x.row.now → is_member k (above (line_of u d)) ≡ false)
      → AreReachedIn x k i []
  unreached other none = λ u c p m s is at.
      ap (map Some) (sym (reach_none (line_of u x.parent.0) k m (apart other none u c p s is)))

-- ---- what the clause makes of it

map_map : {A B C : Type 0} (f : A → B) (g : B → C) (xs : List A) → map g (map f xs) ≡ map (λ x. g (f x)) xs
map_map f g [] = refl
map_map f g (x ∷ xs) = ap (λ ys. g (f x) ∷ ys) (map_map f g xs)

-- the names of the clause's class go with their final names
finals_are : (u : List ClassT) (c : ClassT) (p : ParentT) (x : Clause) → IsClause u c x p → (ns : List (List ℕ))
    (fs : List FeatId) → AreFinals ns fs x
    → names_of ns fs ≡ map (λ n. Some (final_name p n)) (names (line_of u x.parent.0))
finals_are u c p x is ns fs finals =
    let l = line_of u x.parent.0 in
    let final : Adaptation → Option (List ℕ) = λ a. Some a.final_name in
    finals
    ∙ (sym (map_map entry_view final x.adapted.items)
    ∙ (ap (map final) is.adapted_is
    ∙ (map_map (adapted p) final (parent_features l)
    ∙ (map_map parent_feature (λ f. Some (final_name p f.name)) (features l)
    ∙ sym (map_map (λ f. f.name) (λ n. Some (final_name p n)) (features l))))))

module _ (p : ParentT) (ns names : List (List ℕ)) (fs : List FeatId)
    (are : names_of ns fs ≡ map (λ n. Some (final_name p n)) names) where
  final_at : (j : ℕ)
      → option_map (name_of ns) (slice_get fs j) ≡ option_map (λ n. Some (final_name p n)) (slice_get names j)
  final_at j =
      sym (slice_get-map (name_of ns) fs j)
      ∙ (ap (λ xs. slice_get xs j) are ∙ slice_get-map (λ n. Some (final_name p n)) names j)

  one_more : (a : Option FeatId) (b : Option (List ℕ)) (gs : List FeatId) (ms : List (List ℕ))
      → option_map (name_of ns) a ≡ option_map (λ n. Some (final_name p n)) b
      → names_of ns gs ≡ map Some (map (final_name p) ms)
      → names_of ns (cons_option a gs) ≡ map Some (map (final_name p) (cons_option b ms))
  one_more None None gs ms e rest = rest
  one_more None (Some m) gs ms e rest = absurd (cc)
  one_more (Some f) None gs ms e rest = absurd (cc)
  one_more (Some f) (Some m) gs ms e rest =
      ap₂ ◌∷◌ (same_Some (name_of ns f) (Some (final_name p m)) e) rest

  -- the names that features of the clause's class have in the heir
  final_names : (gs : List FeatId)
      → names_of ns (finals_of fs gs)
      ≡ map Some (map (final_name p) (filter_map (name_of names) gs))
  final_names [] = refl
  final_names (g ∷ gs) =
      one_more (slice_get fs g.0) (name_of names g) (finals_of fs gs)
      (filter_map (name_of names) gs) (final_at g.0) (final_names gs)

-- names that are all there
all_named : (names : List (List ℕ)) (gs : List FeatId) (ms : List (List ℕ)) → names_of names gs ≡ map Some ms
    → filter_map (name_of names) gs ≡ ms
all_named names [] [] e = refl
all_named names [] (m ∷ ms) e = absurd (cc)
all_named names (g ∷ gs) [] e = absurd (cc)
all_named names (g ∷ gs) (m ∷ ms) e =
    let first : name_of names g ≡ Some m = cc in
    let rest : names_of names gs ≡ map Some ms = cc in
    ap₂ cons_option first (all_named names gs ms rest)

one_option : {A : Type 0} (o : Option A) → cons_option o [] ≡ option_to_list o
one_option None = refl
one_option (Some x) = refl

final_option : (p : ParentT) (o : Option (List ℕ))
    → map (final_name p) (cons_option o []) ≡ option_to_list (option_map (final_name p) o)
final_option p None = refl
final_option p (Some n) = refl

module _ (x : Clause) (finals : List FeatId) (k i : ℕ) (old new : List FeatId) where
  pub adds_candidate : (f : FeatId) → IsBoundIn x k i (Some f)
      → new ≡ old ++ option_to_list (slice_get finals f.0)
      → Adds (candidate_by k) x finals k i old new
  adds_candidate f bound e = λ u c p ns m s is are at.
      let l = line_of u x.parent.0 in
      ap (names_of ns) (e ∙ ap (λ gs. old ++ gs) (sym (one_option (slice_get finals f.0))))
      ∙ (map-append (name_of ns) old (finals_of finals (f ∷ []))
      ∙ ap (λ zs. names_of ns old ++ zs)
      (final_names p ns (names l) finals (finals_are u c p x is ns finals are) (f ∷ [])
      ∙ ap (map Some) (final_option p (name_of (names l) f)
      ∙ ap (λ o. option_to_list (option_map (final_name p) o)) (bound u c p m s is at))))

  pub adds_reached : (fs : List FeatId) → AreReachedIn x k i fs
      → new ≡ old ++ finals_of finals fs
      → Adds (reached_by k) x finals k i old new
  adds_reached fs reached e = λ u c p ns m s is are at.
      let l = line_of u x.parent.0 in
      ap (names_of ns) e
      ∙ (map-append (name_of ns) old (finals_of finals fs)
      ∙ ap (λ zs. names_of ns old ++ zs)
      (final_names p ns (names l) finals (finals_are u c p x is ns finals are) fs
      ∙ ap (λ ms. map Some (map (final_name p) ms)) (all_named (names l) fs (reach l k m) (reached u c p m s is at))))
