-- The clauses of a class while they are judged, one more after those so far.
use Rattle.std.proofs.Common.{◌≡◌, ℕ, List, [], ◌∷◌, ◌++◌, map, Option, Some, refl, sym, ap, subst, ◌∙◌, append_assoc}
use Rattle.std.specs.Prelude.{flat_map, not, ◌&&◌, slice_get}
use Rattle.std.proofs.lemmas.List.{append-nil, flat_map_more}
use Rattle.std.proofs.lemmas.Option.{same_Some}
use Rattle.eif_adapt.specs.Adaptations.{Adaptation, adapted, entry_view}
use Rattle.eif_adapt.specs.declared.adapted.AdaptedEntry.{AdaptedEntry}
use Rattle.eif_base.specs.Numbering.{is_among}
use Rattle.eif_base.specs.declared.code.Code.TheVariants as code
use Rattle.eif_base.specs.declared.fault.Fault.{Fault}
use Rattle.eif_feature_rules.specs.ClauseRules.{clause_faults, each_listed}
use Rattle.eif_feature_rules.specs.FeatureRules.{adaptation_faults, undeclared_redefine}
use Rattle.eif_feature_rules.specs.ParentFeatures.{ParentFeature, parent_features, final_names}
use Rattle.eif_feature_rules.specs.RuleForms.{each_clause}
use Rattle.eif_heirs.specs.AdaptedClauses.{row_features, faults_by, faults_in, IsParent, AreAdapted}
use Rattle.eif_heirs.specs.Clauses.{IsClause}
use Rattle.eif_heirs.specs.declared.clauses.Clause.{Clause}
use Rattle.eif_heirs.proofs.SeenRows.{row_features_are}
use Rattle.eif_rows.proofs.Matches.{Match-push}
use Rattle.eif_rows.specs.Matched.{Match}
use Rattle.eif_rows.specs.Rows.{IsRow}
use Rattle.eif_rows.specs.declared.row.Row.{Row}
use Rattle.eif_rules.specs.FaultForms.{fault_at, fault_where}
use Rattle.eif_system.specs.Lineage.{Line, line_by, ups_by, line_of}
use Rattle.eif_tree.specs.Members.{has_name, declared_names}
use Rattle.eif_tree.specs.Tree.{ParentT, ClassT}
use Rattle.eif_tree.specs.View.{parent_view}
use Rattle.eif_tree.specs.declared.tree.NameAt.{NameAt}

-- ---- final names

finals_viewed : (es : List AdaptedEntry)
    → map (λ (e : AdaptedEntry). e.final_name) es ≡ map (λ (a : Adaptation). a.final_name) (map entry_view es)
finals_viewed [] = refl
finals_viewed (e ∷ es) = ap (λ ns. e.final_name ∷ ns) (finals_viewed es)

finals_adapted : (p : ParentT) (fs : List ParentFeature)
    → map (λ (a : Adaptation). a.final_name) (map (adapted p) fs) ≡ final_names p fs
finals_adapted p [] = refl
finals_adapted p (f ∷ fs) = ap (λ ns. (adapted p f).final_name ∷ ns) (finals_adapted p fs)

-- the entries of a clause have its final names
finals_are : (p : ParentT) (fs : List ParentFeature) (es : List AdaptedEntry)
    → map entry_view es ≡ map (adapted p) fs → map (λ (e : AdaptedEntry). e.final_name) es ≡ final_names p fs
finals_are p fs es e = finals_viewed es ∙ (ap (map (λ (a : Adaptation). a.final_name)) e ∙ finals_adapted p fs)

-- sets of the same names are judged alike
judged_alike : (c : ClassT) (set names : List (List ℕ)) → ((n : List ℕ) → is_among set n ≡ is_among names n)
    → (ns : List NameAt) → each_listed (undeclared_redefine c set) ns ≡ each_listed (undeclared_redefine c names) ns
judged_alike c set names same ns =
    λ i. each_listed (λ earlier n.
    fault_where (same n.name i && not (has_name earlier n.name) && not (has_name (declared_names c) n.name))
    (fault_at c code.Vdrs 3 n.place n.name)) ns

-- the faults by the clause's text, and then those by what the class declares
pub clause_judged : (c : ClassT) (p : ParentT) (fs : List ParentFeature) (es : List AdaptedEntry)
    (set : List (List ℕ)) (old out new : List Fault) → map entry_view es ≡ map (adapted p) fs
    → ((n : List ℕ) → is_among set n ≡ is_among (map (λ (e : AdaptedEntry). e.final_name) es) n)
    → out ≡ old ++ clause_faults c.name p fs → new ≡ out ++ each_listed (undeclared_redefine c set) p.redefines
    → new ≡ old ++ faults_by c p fs
clause_judged c p fs es set old out new made has first more =
    let same : (n : List ℕ) → is_among set n ≡ is_among (final_names p fs) n =
    λ n. has n ∙ ap (λ ns. is_among ns n) (finals_are p fs es made) in
    more
    ∙ (ap (λ xs. xs ++ each_listed (undeclared_redefine c set) p.redefines) first
    ∙ (append_assoc old (clause_faults c.name p fs) (each_listed (undeclared_redefine c set) p.redefines)
    ∙ ap (λ xs. old ++ (clause_faults c.name p fs ++ xs)) (judged_alike c set (final_names p fs) same p.redefines)))

-- ---- clauses

module _ (u : List ClassT) (c : ClassT) where
  pub one_adapted : (rows : List (Option Row)) (p : ParentT) (x : Clause) (old out new : List Fault) (xs xs' : List Clause)
      (before : List ParentT) → IsParent u c rows p x.parent → slice_get rows x.parent.0 ≡ Some (Some x.row.now)
      → parent_view x.tree.now ≡ p → map entry_view x.adapted.items ≡ map (adapted p) (row_features x.row.now)
      → new ≡ out ++ faults_by c p (row_features x.row.now) → xs' ≡ xs ++ x ∷ []
      → AreAdapted u c old out xs before → AreAdapted u c old new xs' (before ++ p ∷ [])
  one_adapted rows p x old out new xs xs' before is here tree made judged pushed h =
      let k = x.parent.0 in
      let row : is.row.0 ≡ x.row.now = same_Some _ _ (same_Some _ _ (sym is.row.1 ∙ here)) in
      let row_is : IsRow u k x.row.now = subst (λ (r : Row). IsRow u k r) row is.row.2 in
      let seen : row_features x.row.now ≡ parent_features (line_of u k) =
      row_features_are u k is.text.0 x.row.now is.text.1 row_is in
      record {
        clauses_are = subst (λ (ys : List Clause). Match (IsClause u c) ys (before ++ p ∷ [])) (sym pushed)
            (Match-push (IsClause u c) xs before x p h.clauses_are record {
              tree_is = tree;
              parent_is = is.number;
              row_is = row_is;
              adapted_is = made ∙ ap (map (adapted p)) seen;
            });
        faults_are = judged
            ∙ (ap (λ (fs : List ParentFeature). out ++ faults_by c p fs) seen
            ∙ (ap (λ o. out ++ adaptation_faults c p (line_by (line_of u) o)) (sym is.number)
            ∙ (ap (λ (ys : List Fault). ys ++ faults_in u c p) h.faults_are
            ∙ flat_map_more (faults_in u c) old before p)));
      }

  pub nothing_adapted : (old : List Fault) (xs : List Clause) → xs ≡ [] → AreAdapted u c old old xs []
  nothing_adapted old xs is = record {
    clauses_are = subst (λ (ys : List Clause). Match (IsClause u c) ys []) (sym is) tt;
    faults_are = sym (append-nil old);
  }

-- the faults of all clauses, one after the other
pub each_clause_is : (judge : ParentT → Line → List Fault) (line : ParentT → Line) (ps : List ParentT)
    → flat_map (λ p. judge p (line p)) ps ≡ each_clause judge (ups_by line ps)
each_clause_is judge line [] = refl
each_clause_is judge line (p ∷ ps) = ap (λ fs. judge p (line p) ++ fs) (each_clause_is judge line ps)
