-- Selected names and candidates: by numbers and by names, by sets and by lists.
use Rattle.std.proofs.Common.{◌≡◌, ℕ, ◌+◌, ◌≤◌, Bool, true, false, List, [], ◌∷◌, ◌++◌, length, map, drop, Some, refl, sym, ap, ap₂, subst, ◌∙◌, arith}
use Rattle.std.proofs.lemmas.Bool.{eqb-true}
use Rattle.std.proofs.lemmas.List.{drop_all, drop_more}
use Rattle.std.proofs.lemmas.Option.{same_Some, slice_get_within, get_or_from_slice_get}
use Rattle.std.specs.List.{filter, flat_map, list_all}
use Rattle.std.specs.Prelude.{slice_get, not, ◌&&◌, ◌||◌, ◌==◌, is_none, if◌then◌else◌}
use Rattle.std.specs.Str.{bytes_eq}
use Rattle.eif_adapt.specs.Adaptations.{Adaptation, adapted, entry_view}
use Rattle.eif_adapt.specs.declared.adapted.AdaptedEntry.{AdaptedEntry}
use Rattle.eif_base.specs.declared.code.Code.TheVariants as Code
use Rattle.eif_base.specs.declared.fault.Fault.{Fault}
use Rattle.eif_base.specs.declared.feat_id.FeatId.{FeatId}
use Rattle.eif_base.specs.Numbering.{is_among}
use Rattle.eif_binding_laws.proofs.Searches.{bytes_same}
use Rattle.eif_classes.specs.Binding.{is_selected_in}
use Rattle.eif_classes.specs.Names.{are_several, agreed}
use Rattle.eif_feature_faults.specs.Candidates.{AreNamed, are_one}
use Rattle.eif_feature_faults.specs.Selected.{needless_by, clause_needless, undecided_by}
use Rattle.eif_feature_rules.specs.ClauseRules.{each_listed}
use Rattle.eif_feature_rules.specs.ParentFeatures.{ParentFeature, final_names, parent_features}
use Rattle.eif_feature_rules.specs.RuleForms.{each_clause, with_earlier}
use Rattle.eif_feature_rules.specs.SelectionRules.{needless_select, clause_selection_faults, undecided_version, is_choice, least}
use Rattle.eif_heirs.specs.Clauses.{IsClause}
use Rattle.eif_heirs.specs.declared.clauses.Clause.{Clause}
use Rattle.eif_rows.proofs.Matches.{length-Match}
use Rattle.eif_rows.specs.Matched.{Match}
use Rattle.eif_rows.specs.Numbers.{name_of, names_of}
use Rattle.eif_rules.specs.FaultForms.{fault_at, fault_where}
use Rattle.eif_system.specs.Inheritance.{clauses, parent_number}
use Rattle.eif_system.specs.Lineage.{line_by, ups_by, line_of}
use Rattle.eif_tree.specs.declared.tree.NameAt.{NameAt}
use Rattle.eif_tree.specs.Members.{has_name}
use Rattle.eif_tree.specs.Tree.{ParentT, ClassT}
use Rattle.eif_tree.specs.View.{parent_view}

-- ---- candidates by numbers

pub same_somes : {A B : Type 0} (f : A → B) (xs : List A) (ys : List B) → map (λ x. Some (f x)) xs ≡ map Some ys →
    map f xs ≡ ys
same_somes f [] [] h = refl
same_somes f [] (y ∷ ys) h = cc
same_somes f (x ∷ xs) [] h = cc
same_somes f (x ∷ xs) (y ∷ ys) h =
    let first : Some (f x) ≡ Some y = cc in
    let rest : map (λ x. Some (f x)) xs ≡ map Some ys = cc in
    ap₂ (λ z zs. z ∷ zs) (same_Some (f x) y first) (same_somes f xs ys rest)

module _ (names : List (List ℕ)) where
  -- names of one number are one
  same_name : (f : FeatId) (n : List ℕ) → name_of names f ≡ Some n → (fs : List FeatId) (ns : List (List ℕ)) →
      AreNamed names fs ns → list_all (λ g. f.0 == g.0) fs ≡ true → list_all (bytes_eq n) ns ≡ true
  same_name f n e [] [] h one = refl
  same_name f n e [] (m ∷ ns) h one = cc
  same_name f n e (g ∷ fs) [] h one = cc
  same_name f n e (g ∷ fs) (m ∷ ns) h one =
      let rest : names_of names fs ≡ map Some ns = cc in
      go (f.0 == g.0) refl one (λ t. same_name f n e fs ns rest t)
    where
      go : (b : Bool) → (f.0 == g.0) ≡ b → (b && list_all (λ g. f.0 == g.0) fs) ≡ true →
          (list_all (λ g. f.0 == g.0) fs ≡ true → list_all (bytes_eq n) ns ≡ true) →
          (bytes_eq n m && list_all (bytes_eq n) ns) ≡ true
      go true t one later =
          let here : name_of names g ≡ Some m = cc in
          let is : n ≡ m = same_Some n m (sym e ∙ (ap (slice_get names) (eqb-true f.0 g.0 t) ∙ here)) in
          ap₂ (λ a b. a && b) (subst (λ m. bytes_eq n m ≡ true) is (bytes_same n)) (later one)
      go false t one later = cc

  pub one_name : (fs : List FeatId) (ns : List (List ℕ)) → AreNamed names fs ns → are_one fs ≡ true → are_several ns ≡ false
  one_name [] [] h one = refl
  one_name [] (n ∷ ns) h one = cc
  one_name (f ∷ fs) [] h one = cc
  one_name (f ∷ fs) (n ∷ ns) h one =
      let here : name_of names f ≡ Some n = cc in
      let rest : names_of names fs ≡ map Some ns = cc in
      ap not (same_name f n here fs ns rest one)

pub none_undecided : (c : ClassT) (set ns : List (List ℕ)) → are_several ns ≡ false → undecided_by c set ns ≡ []
none_undecided c set ns h = ap (λ b. fault_where (b && is_none (agreed (filter (is_among set) ns)))
    (fault_at c Code.Vmrc 1 c.place (least ns))) h

-- ---- selected names

flat_same : {A : Type 0} (f g : A → List Fault) → ((x : A) → f x ≡ g x) → (xs : List A) → flat_map f xs ≡ flat_map g xs
flat_same f g same [] = refl
flat_same f g same (x ∷ xs) = ap₂ (λ (a b : List Fault). a ++ b) (same x) (flat_same f g same xs)

listed_same : (f g : List NameAt → NameAt → List Fault) → ((before : List NameAt) (n : NameAt) → f before n ≡ g before n) →
    (ns : List NameAt) → each_listed f ns ≡ each_listed g ns
listed_same f g same ns = flat_same (λ (x : List NameAt × NameAt). f x.0 x.1) (λ x. g x.0 x.1) (λ x. same x.0 x.1) (with_earlier ns)

pub needless_same : (c : ClassT) (choice a b : List (List ℕ)) → ((n : List ℕ) → is_among a n ≡ is_among b n) →
    (ns : List NameAt) → each_listed (needless_by c choice a) ns ≡ each_listed (needless_by c choice b) ns
needless_same c choice a b same ns = listed_same (needless_by c choice a) (needless_by c choice b)
    (λ before n. ap (λ (x : Bool). fault_where (x && not (has_name before n.name) && not (is_among choice n.name))
    (fault_at c Code.Vmss 3 n.place n.name)) (same n.name)) ns

finals_are : (p : ParentT) (es : List AdaptedEntry) (fs : List ParentFeature) → map entry_view es ≡ map (adapted p) fs →
    map (λ e. e.final_name) es ≡ final_names p fs
finals_are p [] [] h = refl
finals_are p [] (f ∷ fs) h = cc
finals_are p (e ∷ es) [] h = cc
finals_are p (e ∷ es) (f ∷ fs) h =
    let first : entry_view e ≡ adapted p f = cc in
    let rest : map entry_view es ≡ map (adapted p) fs = cc in
    ap₂ (λ (n : List ℕ) (ns : List (List ℕ)). n ∷ ns) (ap (λ (a : Adaptation). a.final_name) first) (finals_are p es fs rest)

module _ (u : List ClassT) (c : ClassT) (choice : List (List ℕ)) (choices : List (List (List ℕ)))
    (are : (n : List ℕ) → is_among choice n ≡ is_choice choices n) where
  abbrev select_by : List (List ℕ) → List NameAt → List Fault
  select_by finals ns = each_listed (needless_select c choices finals) ns

  chosen_same : (finals : List (List ℕ)) (ns : List NameAt) → each_listed (needless_by c choice finals) ns ≡ select_by finals ns
  chosen_same finals ns = listed_same (needless_by c choice finals) (needless_select c choices finals)
      (λ before n. ap (λ (x : Bool). fault_where (is_among finals n.name && not (has_name before n.name) && not x)
      (fault_at c Code.Vmss 3 n.place n.name)) (are n.name)) ns

  clause_is : (x : Clause) (p : ParentT) → IsClause u c x p →
      clause_needless c choice x ≡ clause_selection_faults c choices p (line_by (line_of u) (parent_number u c p))
  clause_is x p is =
      let finals = map (λ e. e.final_name) x.adapted.items in
      let there : finals ≡ final_names p (parent_features (line_by (line_of u) (parent_number u c p))) =
      finals_are p x.adapted.items (parent_features (line_of u x.parent.0)) is.adapted_is
      ∙ ap (λ o. final_names p (parent_features (line_by (line_of u) o))) (sym is.parent_is) in
      chosen_same finals x.tree.now.selects.items
      ∙ (ap (λ (q : ParentT). select_by finals q.selects) is.tree_is
      ∙ ap (λ fs. select_by fs p.selects) there)

  pub clauses_are : (xs : List Clause) (ps : List ParentT) → Match (IsClause u c) xs ps →
      flat_map (clause_needless c choice) xs
      ≡ each_clause (clause_selection_faults c choices) (ups_by (λ p. line_by (line_of u) (parent_number u c p)) ps)
  clauses_are [] [] h = refl
  clauses_are [] (p ∷ ps) h = absurd h
  clauses_are (x ∷ xs) [] h = absurd h
  clauses_are (x ∷ xs) (p ∷ ps) h = ap₂ (λ (a b : List Fault). a ++ b) (clause_is x p h.0) (clauses_are xs ps h.1)

-- ---- undecided candidates

filter_same : (f g : List ℕ → Bool) → ((n : List ℕ) → f n ≡ g n) → (ns : List (List ℕ)) → filter f ns ≡ filter g ns
filter_same f g same [] = refl
filter_same f g same (n ∷ ns) =
    ap₂ (λ (b : Bool) (ms : List (List ℕ)). if b then n ∷ ms else ms) (same n) (filter_same f g same ns)

pub undecided_same : (c : ClassT) (set : List (List ℕ)) → ((n : List ℕ) → is_among set n ≡ is_selected_in (clauses c) n) →
    (choices : List (List (List ℕ))) → flat_map (undecided_by c set) choices ≡ flat_map (undecided_version c) choices
undecided_same c set same choices = flat_same (undecided_by c set) (undecided_version c)
    (λ ns. ap (λ (ms : List (List ℕ)). fault_where (are_several ns && is_none (agreed ms))
    (fault_at c Code.Vmrc 1 c.place (least ns))) (filter_same (is_among set) (is_selected_in (clauses c)) same ns)) choices

pub trees_are : (u : List ClassT) (c : ClassT) (xs : List Clause) (ps : List ParentT) → Match (IsClause u c) xs ps →
    map (λ x. parent_view x.tree.now) xs ≡ ps
trees_are u c [] [] h = refl
trees_are u c [] (p ∷ ps) h = absurd h
trees_are u c (x ∷ xs) [] h = absurd h
trees_are u c (x ∷ xs) (p ∷ ps) h = ap₂ (λ (q : ParentT) (qs : List ParentT). q ∷ qs) h.0.tree_is (trees_are u c xs ps h.1)

or_on : (a b c : Bool) → ((a || b) || c) ≡ (b || (a || c))
or_on true true c = refl
or_on true false c = refl
or_on false b c = refl

-- the set takes the names of one choice more
pub choice_more : (old new : List (List ℕ)) (ns : List (List ℕ)) (rest : List (List (List ℕ))) (n : List ℕ) →
    is_among new n ≡ ((are_several ns && is_among ns n) || is_among old n) →
    (is_among new n || is_choice rest n) ≡ (is_among old n || is_choice (ns ∷ rest) n)
choice_more old new ns rest n e =
    ap (λ b. b || is_choice rest n) e ∙ or_on (are_several ns && is_among ns n) (is_among old n) (is_choice rest n)

-- ---- lists that are gone through beside others

-- the item at a place, and what is left behind it
pub left_at : {A : Type 0} (xs : List A) (i : ℕ) (x : A) → slice_get xs i ≡ Some x → drop i xs ≡ x ∷ drop (i + 1) xs
left_at xs i x at =
    drop_more xs i x (slice_get_within xs i x at)
    ∙ ap (λ y. y ∷ drop (i + 1) xs) (get_or_from_slice_get xs i x x at)

pub none_left_of : {A B : Type 0} (R : A → B → Type 0) (xs : List A) (ys : List B) (i : ℕ) → Match R xs ys → length xs ≤ i →
    drop i ys ≡ []
none_left_of R xs ys i all past = drop_all i ys (omega (arith, length-Match R xs ys all))
