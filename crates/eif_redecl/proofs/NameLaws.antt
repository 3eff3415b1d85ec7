-- What is judged of a name, by its declaration or its entries alone, and of all names.
use Rattle.std.proofs.Common.{◌≡◌, ℕ, ◌+◌, Bool, true, false, List, [], ◌∷◌, ◌++◌, map, take, Option, Some, None, refl, sym, ap, ap₂, ◌∙◌, append_assoc}
use Rattle.std.specs.Prelude.{flat_map, if◌then◌else◌, slice_get}
use Rattle.std.proofs.lemmas.List.{append-nil}
use Rattle.std.proofs.lemmas.List.Concat.{flat_map-append}
use Rattle.eif_base.specs.declared.code.Code.TheVariants as code
use Rattle.eif_base.specs.declared.fault.Fault.{Fault}
use Rattle.eif_base.specs.declared.root.Root.{Root}
use Rattle.eif_classes.specs.Entries.{Feature}
use Rattle.eif_classes.specs.Features.{features}
use Rattle.eif_feature_rules.specs.CreatorRules.{creation_faults, creator_faults, root_procedure_faults}
use Rattle.eif_feature_rules.specs.FeaturePhases.{signature_faults}
use Rattle.eif_feature_rules.specs.JoinRules.{SignedName, declaration_here, entry_faults, has_large_entry, join_faults, large_signature, signed_name, signed_name_faults, unequal_join, unfit_version}
use Rattle.eif_feature_rules.specs.RedeclarationRules.{redeclaration_faults}
use Rattle.eif_feature_rules.specs.RuleForms.{DeclaredName}
use Rattle.eif_lineage_laws.specs.Lineages.{line_over}
use Rattle.eif_redecl.proofs.Turns.{one_on_at}
use Rattle.eif_rules.specs.FaultForms.{fault_at, fault_where}
use Rattle.eif_system.specs.Lineage.{Line}
use Rattle.eif_tree.specs.Tree.{ClassT}

module _ (u : List ClassT) (d : ℕ) (c : ClassT) (x : SignedName) where
  abbrev by_size : Bool → List Fault
  by_size b = if b then large_signature c x else entry_faults u d c x (declaration_here c x.feature.name)

  pub large_is : has_large_entry x.entries ≡ true →
      fault_at c code.Xlim 9 c.place x.feature.name ∷ [] ≡ signed_name_faults u d c x
  large_is h =
      sym (ap by_size h ∙ ap (λ b. fault_where b (fault_at c code.Xlim 9 c.place x.feature.name)) h)

  pub declared_is : has_large_entry x.entries ≡ false → (n : DeclaredName) → declaration_here c x.feature.name ≡ Some n →
      redeclaration_faults u d c n x.entries ≡ signed_name_faults u d c x
  declared_is h n here = sym (ap by_size h ∙ ap (entry_faults u d c x) here)

  pub inherited_is : has_large_entry x.entries ≡ false → declaration_here c x.feature.name ≡ None →
      unfit_version u d c x ++ unequal_join c x ≡ signed_name_faults u d c x
  inherited_is h here = sym (ap by_size h ∙ ap (entry_faults u d c x) here)

-- ---- all names

module _ (u : List ClassT) (d : ℕ) (c : ClassT) where
  abbrev pub judged_in : Line → Feature → List Fault
  judged_in l x = signed_name_faults u d c (signed_name u l x)

  pub one_name_more : (l : Line) (old out new : List Fault) (i : ℕ) (x : Feature) → slice_get (features l) i ≡ Some x →
      new ≡ out ++ judged_in l x → out ≡ old ++ flat_map (judged_in l) (take i (features l)) →
      new ≡ old ++ flat_map (judged_in l) (take (i + 1) (features l))
  one_name_more l old out new i x at pushed so_far =
      one_on_at (λ fs. new ≡ old ++ flat_map (judged_in l) fs) (features l) i x at
      (pushed ∙ (ap (λ fs. fs ++ judged_in l x) so_far
      ∙ (append_assoc old (flat_map (judged_in l) (take i (features l))) (judged_in l x)
      ∙ ap (λ fs. old ++ fs)
      (ap (λ fs. flat_map (judged_in l) (take i (features l)) ++ fs) (sym (append-nil (judged_in l x)))
      ∙ sym (flat_map-append (judged_in l) (take i (features l)) (x ∷ []))))))

  mapped : {A B : Type 0} (f : A → B) (g : B → List Fault) (xs : List A) →
      flat_map (λ x. g (f x)) xs ≡ flat_map g (map f xs)
  mapped f g [] = refl
  mapped f g (x ∷ xs) = ap (λ fs. g (f x) ++ fs) (mapped f g xs)

  pub joins_are : (l : Line) → l ≡ line_over u d c → flat_map (judged_in l) (features l) ≡ join_faults u l
  joins_are l is =
      mapped (signed_name u l) (signed_name_faults u d c) (features l)
      ∙ (ap (λ l. flat_map (signed_name_faults u d c) (map (signed_name u l) (features l))) is
      ∙ sym (ap (join_faults u) is))

  -- ---- the phase

  pub phase_is : (root : Root) (l : Line) → l ≡ line_over u d c → (old a b new : List Fault) →
      a ≡ old ++ join_faults u l → b ≡ a ++ creator_faults u c l → new ≡ b ++ root_procedure_faults u root d c l →
      new ≡ old ++ signature_faults u root l
  phase_is root l is old a b new names creators procedure =
      let creation : creator_faults u c l ++ root_procedure_faults u root d c l ≡ creation_faults u root l =
      ap (λ l. creator_faults u c l ++ root_procedure_faults u root d c l) is ∙ sym (ap (creation_faults u root) is) in
      procedure
      ∙ (ap (λ fs. fs ++ root_procedure_faults u root d c l) (creators ∙ ap (λ fs. fs ++ creator_faults u c l) names)
      ∙ (append_assoc (old ++ join_faults u l) (creator_faults u c l) (root_procedure_faults u root d c l)
      ∙ (append_assoc old (join_faults u l) (creator_faults u c l ++ root_procedure_faults u root d c l)
      ∙ ap (λ fs. old ++ (join_faults u l ++ fs)) creation)))
