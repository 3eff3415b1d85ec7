-- The given classes are judged by the rules of signatures, piece by piece.
use Rattle.std.proofs.Common.{◌≡◌, ℕ, zero, suc, ◌+◌, ◌<◌, ◌≤◌, List, [], ◌∷◌, ◌++◌, length, min, Some, sym, ap, ap₂, subst, ◌∙◌, arith}
use Rattle.std.specs.Prelude.{flat_map, if◌then◌else◌, slice_get, slice_range}
use Rattle.std.specs.List.{enumerate_from}
use Rattle.std.proofs.lemmas.Bool.{le-ltb}
use Rattle.std.proofs.lemmas.List.{append-nil}
use Rattle.std.proofs.lemmas.List.FromFn.{length-enumerate_from}
use Rattle.std.proofs.lemmas.List.Concat.{flat_map-append}
use Rattle.eif_base.specs.Appends.{Has}
use Rattle.eif_base.specs.declared.fault.Fault.{Fault}
use Rattle.eif_base.specs.declared.root.Root.{Root}
use Rattle.eif_check.proofs.Phases.{has_in}
use Rattle.eif_check.specs.GivenSignatures.{signatures_at, signatures_between}
use Rattle.eif_feature_rules.specs.FeaturePhases.{DerivationsBroken, FeaturesBroken, SignaturesBroken, each_given, signature_faults}
use Rattle.eif_par.proofs.FlatPieces.{joined_flat}
use Rattle.eif_par.proofs.Fronts.{range_next, range_none}
use Rattle.eif_par.specs.Pieces.{ArePieces}
use Rattle.eif_redecl.specs.SignaturePhase.{class_signature_faults}
use Rattle.eif_rows.specs.Systems.{IsSystem}
use Rattle.eif_rules.specs.FaultForms.{IsNone}
use Rattle.eif_rules.specs.UniverseRules.{UniverseBroken}
use Rattle.eif_signatures.specs.DerivedSystems.{IsDerivedUniverse}
use Rattle.eif_system.specs.Kernel.{kernel, kernel_count}
use Rattle.eif_system.specs.Lineage.{line_of}
use Rattle.eif_system.specs.Universe.{universe}
use Rattle.eif_tables.specs.TablesOf.{AreTables}
use Rattle.eif_tables.specs.declared.tables.Tables.{Tables}
use Rattle.eif_tree.specs.Tree.{ClassT}
use Rattle.eif_types.specs.TypeTables.{AreTypes}
use Rattle.eif_types.specs.declared.types.Types.{Types}
use Rattle.eif_types.proofs.Outcome.{same_given}
use Rattle.eif_universe.specs.Universes.{given_in}

module _ (u : List ClassT) (system : IsSystem u) where
  -- a universe is that of its given classes
  pub universe_is : u ≡ universe (given_in u)
  universe_is = system.is ∙ ap universe (sym (same_given u system))

-- classes that break no rule up to those of derivations, with their tables and their types
pub derived_given : (u : List ClassT) (tables : Tables) (types : Types) (root : Root) → IsSystem u →
    IsNone (UniverseBroken (given_in u) root) → IsNone (FeaturesBroken (given_in u)) →
    IsNone (DerivationsBroken (given_in u)) → AreTables u tables → AreTypes u types → IsDerivedUniverse u tables types
derived_given u tables types root system sound features derivations tables_are types_are = record {
  given = given_in u;
  root = root;
  is = universe_is u system;
  derived = record { universe = sound; features = features; derivations = derivations };
  tables_are = tables_are;
  types_are = types_are;
}

-- ---- the given classes in turn

-- the kernel stands before them
module _ (u : List ClassT) (system : IsSystem u) where
  behind : length (universe system.given) ≡ kernel_count + length system.given
  unfolding kernel
  behind = omega arith

  pub given_long : length u ≡ kernel_count + length (given_in u)
  given_long = ap length system.is ∙ (behind ∙ ap (λ cs. kernel_count + length cs) (sym (same_given u system)))

numbered_at : (cs : List ClassT) (n i : ℕ) → i < length cs →
    (c : ClassT) × (slice_get (enumerate_from n cs) i ≡ Some (n + i, c))
numbered_at [] n i below = absurd (omega arith)
numbered_at (c ∷ cs) n zero below = let e : n ≡ n + 0 = omega arith in (c, ap (λ k. Some (k, c)) e)
numbered_at (c ∷ cs) n (suc i) below =
    let r = numbered_at cs (n + 1) i (omega arith) in
    let e : n + 1 + i ≡ n + suc i = omega arith in
    (r.0, r.1 ∙ ap (λ k. Some (k, r.0)) e)

module _ (u : List ClassT) (root : Root) where
  abbrev numbered : List (ℕ × ClassT)
  numbered = enumerate_from 0 (given_in u)

  pub none_between : (first : ℕ) → [] ≡ signatures_between u root first first
  none_between first = ap (flat_map (signatures_at u root)) (sym (range_none numbered first))

  given_faults : (i : ℕ) → class_signature_faults u root (kernel_count + i)
      ≡ signature_faults u root (line_of u (kernel_count + i))
  given_faults i =
      ap (λ b. if b then [] else signature_faults u root (line_of u (kernel_count + i)))
      (le-ltb (kernel_count + i) kernel_count (omega arith))

  -- one class more
  pub one_between : (first i : ℕ) (old new : List Fault) → first ≤ i → i < length (given_in u) →
      new ≡ old ++ class_signature_faults u root (kernel_count + i) → old ≡ signatures_between u root first i →
      new ≡ signatures_between u root first (i + 1)
  one_between first i old new le below pushed so_far =
      let c = numbered_at (given_in u) 0 i below in
      let place : 0 + i ≡ i = omega arith in
      let at : slice_get numbered i ≡ Some (i, c.0) = c.1 ∙ ap (λ k. Some (k, c.0)) place in
      pushed
      ∙ (ap₂ ◌++◌ so_far (given_faults i ∙ sym (append-nil (signatures_at u root (i, c.0))))
      ∙ (sym (flat_map-append (signatures_at u root) (slice_range numbered first i) ((i, c.0) ∷ []))
      ∙ ap (flat_map (signatures_at u root)) (sym (range_next numbered first i (i, c.0) le at))))

  abbrev gives : ℕ → ℕ → List Fault → Type 0
  gives first past out = out ≡ signatures_between u root first past

  -- the faults of all pieces are those of the phase
  pub all_between : IsSystem u → (count workers : ℕ) (outs : List (List Fault)) (list : List Fault) → 1 ≤ workers →
      count ≡ length (given_in u) → ArePieces gives count (min workers count) outs → list ≡ flat_map (λ q. q) outs →
      Has list (SignaturesBroken (given_in u) root)
  all_between system count workers outs list some is pieces joined =
      let same : count ≡ length numbered = is ∙ sym (length-enumerate_from 0 (given_in u)) in
      let flat = joined_flat gives (λ (q : List Fault). q) (signatures_at u root) numbered (λ first past out e. e) workers
      outs some (subst (λ n. ArePieces gives n (min workers n) outs) same pieces) in
      has_in list (each_given (λ u l. signature_faults u root l) (given_in u))
      (joined ∙ (flat ∙ ap (λ v. flat_map (signatures_at v root) numbered) (universe_is u system)))
