-- What a class gives its proper ancestors, one after the other, and the faults of that.
use Rattle.std.proofs.Common.{◌≡◌, ◌≢◌, ℕ, ◌+◌, ◌<◌, List, [], ◌∷◌, ◌++◌, length, get_or, take, Option, Some, refl, sym, ap, subst, ◌∙◌}
use Rattle.std.specs.Prelude.{flat_map, slice_get}
use Rattle.std.specs.Option.{option_map, option_map_or}
use Rattle.std.proofs.lemmas.List.{flat_map_more}
use Rattle.std.proofs.lemmas.Option.{same_Some, slice_get-get_or, slice_get-map}
use Rattle.eif_base.specs.declared.class_id.ClassId.{ClassId}
use Rattle.eif_base.specs.declared.fault.Fault.{Fault}
use Rattle.eif_classes.specs.Ancestry.{common, ways}
use Rattle.eif_classes.specs.Descent.{above}
use Rattle.eif_classes.specs.Resolution.{own_formals}
use Rattle.eif_classes.specs.Types.{Actuals}
use Rattle.eif_derivations.specs.DerivationRows.{IsDerivation, IsDerivationRow}
use Rattle.eif_derivations.specs.ListNumbers.{Holds, Keeps}
use Rattle.eif_derivations.specs.ParentActuals.{AreClauseActuals, lines_over}
use Rattle.eif_derivations.specs.declared.clause.ClauseActuals.{ClauseActuals}
use Rattle.eif_derivations.specs.declared.derivation.Derivation.{Derivation}
use Rattle.eif_derivations.specs.declared.derivation.DerivationRow.{DerivationRow}
use Rattle.eif_derivations.proofs.DerivationLists.{clauses_still, derivations_still, holds_still}
use Rattle.eif_derivations.proofs.Systems.{gives_by_ways, line_is}
use Rattle.eif_derivations.proofs.Turns.{Match-more, take_place}
use Rattle.eif_feature_rules.specs.DerivationRules.{ancestor_faults, derivation_faults, name_of}
use Rattle.eif_rows.specs.Matched.{Match}
use Rattle.eif_rows.specs.Numbers.{class_numbers}
use Rattle.eif_rows.specs.Systems.{IsSystem}
use Rattle.eif_system.specs.Lineage.{line_of}
use Rattle.eif_tree.specs.Tree.{ClassT}

-- the number of what all ways give together is that of what the class gives
pub one_derivation : (u : List ClassT) → IsSystem u → (d : ℕ) (c : ClassT) → slice_get u d ≡ Some c
    → (lists : List Actuals) (x : Derivation) → d ≢ x.class_id.0 → (given : Option Actuals)
    → Holds lists x.actuals given → given ≡ common (ways u c (lines_over u c) x.class_id.0)
    → IsDerivation u lists d x x.class_id.0
one_derivation u s d c at lists x other given holds is = record {
  class = refl;
  actuals = subst (Holds lists x.actuals) (is ∙ sym (gives_by_ways u s d c at x.class_id.0 other)) holds;
}

-- the faults of the ancestor k of the class with the text c
abbrev pub faults_to : List ClassT → ClassT → ℕ → List Fault
faults_to u c k = ancestor_faults c (name_of u k) (ways u c (lines_over u c) k)

-- the faults of a class are those of its ancestors
pub faults_are : (u : List ClassT) → IsSystem u → (d : ℕ) (c : ClassT) → slice_get u d ≡ Some c
    → derivation_faults u (line_of u d) ≡ flat_map (faults_to u c) (above (line_of u d))
faults_are u s d c at =
    let is = line_is u s d c at in
    ap (derivation_faults u) is ∙ ap (λ l. flat_map (faults_to u c) (above l)) (sym is)

-- the row of a class, by its formals and what it gives its ancestors
pub row_is : (u : List ClassT) (d : ℕ) (c : ClassT) → slice_get u d ≡ Some c → (lists more : List Actuals)
    → Keeps lists more → (r : DerivationRow) (formals : Actuals) → Holds lists (Some r.own) (Some formals)
    → formals ≡ own_formals c → (ks : List ℕ) → ks ≡ above (line_of u d)
    → Match (IsDerivation u more d) r.ancestors.items ks → IsDerivationRow u more d r
row_is u d c at lists more keeps r formals holds own ks above_are given = record {
  own = λ c' here.
      let same : c ≡ c' = same_Some c c' (sym at ∙ here) in
      holds_still lists more keeps (Some r.own) (Some (own_formals c'))
      (subst (λ xs. Holds lists (Some r.own) (Some xs)) (own ∙ ap own_formals same) holds);
  ancestors_are = subst (Match (IsDerivation u more d) r.ancestors.items) above_are given;
}

module _ (u : List ClassT) (c : ClassT) (xs : List ClauseActuals) (start : List Actuals) (ks : List ℕ) where
  -- what the class with the text c gives these of its ancestors, before that place
  abbrev pub AreDerivationsSoFar : List Actuals → ℕ → List Derivation → Type 0
  AreDerivationsSoFar lists i ds =
      (d : ℕ) → IsSystem u → AreClauseActuals u start c xs → slice_get u d ≡ Some c
      → ((i k : ℕ) → slice_get ks i ≡ Some k → d ≢ k) → Match (IsDerivation u lists d) ds (take i ks)

  abbrev pub AreFaultsSoFar : List Fault → ℕ → List Fault → Type 0
  AreFaultsSoFar old i out =
      IsSystem u → AreClauseActuals u start c xs → out ≡ old ++ flat_map (faults_to u c) (take i ks)

  module _ (lists more : List Actuals) (kept : Keeps start lists) (keeps : Keeps lists more) (i k : ℕ)
      (here : slice_get ks i ≡ Some k) where
    pub one_derivation_more : (old new : List Derivation) → AreDerivationsSoFar lists i old
        → ((d : ℕ) → IsSystem u → AreClauseActuals u lists c xs → slice_get u d ≡ Some c → d ≢ k
        → (x : Derivation) × (new ≡ old ++ x ∷ []) × IsDerivation u more d x k)
        → AreDerivationsSoFar more (i + 1) new
    one_derivation_more old new so_far added = λ d s are at apart.
        let x = added d s (clauses_still start lists kept u c xs are) at (apart i k here) in
        Match-more (IsDerivation u more d) ks i old new x.0 k x.1 here
        (derivations_still lists more keeps u d old (take i ks) (so_far d s are at apart)) x.2

    pub one_fault_more : (old before after : List Fault) → AreFaultsSoFar old i before
        → (IsSystem u → AreClauseActuals u lists c xs → after ≡ before ++ faults_to u c k)
        → AreFaultsSoFar old (i + 1) after
    one_fault_more old before after so_far added = λ s are.
        added s (clauses_still start lists kept u c xs are)
        ∙ (ap (λ fs. fs ++ faults_to u c k) (so_far s are)
        ∙ (flat_map_more (faults_to u c) old (take i ks) k
        ∙ ap (λ ks. old ++ flat_map (faults_to u c) ks) (sym (take_place ks i k here))))

-- the name of a class of the universe
pub name_is : (u : List ClassT) (k : ℕ) (a : ClassT) → slice_get u k ≡ Some a → a.name ≡ name_of u k
name_is u k a at = sym (ap (λ o. option_map_or (λ (a : ClassT). a.name) o []) at)

-- the number of the class at a place
pub number_at : (ids : List ClassId) (i : ℕ) (none : ClassId) → i < length ids
    → slice_get (class_numbers ids) i ≡ Some (get_or ids i none).0
number_at ids i none within =
    slice_get-map (λ c. c.0) ids i ∙ ap (option_map (λ c. c.0)) (slice_get-get_or ids i none within)
