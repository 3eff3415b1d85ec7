-- What names are bound to where no class has a breach.
use Rattle.std.proofs.Common.{◌≡◌, ℕ, ◌<◌, true, false, List, [], ◌∷◌, ◌++◌, length, Some, refl, sym, ap, subst, ◌∙◌, arith}
use Rattle.std.proofs.lemmas.Bool.{ltb-true, eqb-true}
use Rattle.std.proofs.lemmas.Option.{slice_get_within}
use Rattle.std.specs.List.{flat_map}
use Rattle.std.specs.Prelude.{◌==◌, nat_lt}
use Rattle.eif_ancestry.proofs.Members.{or_cases}
use Rattle.eif_base.specs.declared.fault.Fault.{Fault}
use Rattle.eif_base.specs.declared.root.Root.{Root}
use Rattle.eif_binding_laws.proofs.Bound.{names_bound}
use Rattle.eif_binding_laws.proofs.FineClasses.{decided_by}
use Rattle.eif_classes.specs.Binding.{bind, candidates}
use Rattle.eif_classes.specs.Descent.{descends, above}
use Rattle.eif_classes.specs.Features.{has_feature, entries, features}
use Rattle.eif_feature_rules.specs.DeclarationRules.{declaration_faults}
use Rattle.eif_feature_rules.specs.FeaturePhases.{own_feature_faults, is_clean}
use Rattle.eif_feature_rules.specs.FeatureRules.{adaptation_faults, name_faults}
use Rattle.eif_feature_rules.specs.ReplicationRules.{replication_faults}
use Rattle.eif_feature_rules.specs.RuleForms.{each_clause}
use Rattle.eif_feature_rules.specs.SelectionRules.{choices, clause_selection_faults, is_undecided, undecided_version, selection_faults}
use Rattle.eif_lineage_laws.proofs.Descending.{lines_of}
use Rattle.eif_lineage_laws.proofs.NoFaults.{none_left, none_right}
use Rattle.eif_lineage_laws.proofs.Unfolding.{unfolded}
use Rattle.eif_lineage_laws.proofs.WholeClasses.{has_order}
use Rattle.eif_lineage_laws.specs.Lineages.{line_over}
use Rattle.eif_rules.specs.FaultForms.{IsNone}
use Rattle.eif_rules.specs.UniverseRules.{UniverseBroken}
use Rattle.eif_system.specs.Graph.{is_member}
use Rattle.eif_system.specs.Inheritance.{clauses}
use Rattle.eif_system.specs.Kernel.{kernel_count}
use Rattle.eif_system.specs.Lineage.{line_of}
use Rattle.eif_system.specs.Universe.{universe}
use Rattle.eif_table_laws.specs.WholeClasses.{is_whole}
use Rattle.eif_table_laws.proofs.KernelFeatures.{kernel_clean}
use Rattle.eif_table_laws.proofs.Wholeness.{and_first}
use Rattle.eif_tree.specs.Tree.{ClassT}

no_faults_of_none : (xs : List Fault) → (length xs == 0) ≡ true → xs ≡ []
no_faults_of_none [] h = refl
no_faults_of_none (x ∷ xs) h = absurd (omega (arith, eqb-true (length (x ∷ xs)) 0 h))

module _ (given : List ClassT) (root : Root) (sound : IsNone (UniverseBroken given root)) where
  abbrev u : List ClassT
  u = universe given

  -- a class without a breach has no fault
  pub clean_none : (d : ℕ) → is_clean u d ≡ true → own_feature_faults u (line_of u d) ≡ []
  clean_none d h = or_cases _ (nat_lt d kernel_count) (length (own_feature_faults u (line_of u d)) == 0) h
      (λ t. kernel_clean given root sound d (ltb-true d kernel_count t))
      (λ t. no_faults_of_none (own_feature_faults u (line_of u d)) t)

  -- the candidates of its ancestors' features are decided
  decided : (d : ℕ) (c : ClassT) → own_feature_faults u (line_over u d c) ≡ [] → (k : ℕ) (m : List ℕ) →
      is_member k (above (line_over u d c)) ≡ true → has_feature (line_of u k) m ≡ true →
      is_undecided (clauses c) (candidates (lines_of u c (clauses c)) k m) ≡ false
  decided d c none k m member has =
      let ups = lines_of u c (clauses c) in
      let l = line_over u d c in
      let adaptations = each_clause (adaptation_faults c) ups in
      let declarations = declaration_faults u c (entries ups) in
      let names = name_faults u c (features l) (above l) in
      let selections = selection_faults u c ups (above l) in
      let selected : selections ≡ [] = none_right (adaptations ++ declarations ++ names) selections
      (none_left (adaptations ++ declarations ++ names ++ selections) (replication_faults u c l (above l)) none) in
      decided_by u c ups (above l)
      (none_right (each_clause (clause_selection_faults c (choices u ups (above l))) ups)
      (flat_map (undecided_version c) (choices u ups (above l))) selected)
      k m member has

  pub whole_bound : ((d : ℕ) → d < length u → is_whole u d ≡ true) → (d k : ℕ) (m : List ℕ) →
      descends (line_of u d) k ≡ true → has_feature (line_of u k) m ≡ true →
      (n : List ℕ) × (bind (line_of u d) k m ≡ Some n) × (has_feature (line_of u d) n ≡ true)
  whole_bound whole d k m down has =
      let ordered = has_order given root sound in
      names_bound u ordered.0 ordered.1 (λ d c at k m member has.
      let line = unfolded u ordered.0 ordered.1 d c at in
      let clean = and_first (is_clean u d) _ (whole d (slice_get_within u d c at)) in
      decided d c (sym (ap (own_feature_faults u) line) ∙ clean_none d clean) k m
      (subst (λ l. is_member k (above l) ≡ true) line member) has)
      d k m down has
