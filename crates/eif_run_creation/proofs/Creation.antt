-- What runs ask of creation.
use Rattle.std.proofs.Common.{◌≡◌, ℕ, Bool, true, false, inl, inr, List, [], ◌∷◌, Option, Some, None, refl, sym, ap, subst, ◌∙◌}
use Rattle.std.specs.Prelude.{slice_get, not, ◌&&◌, ◌||◌, if◌then◌else◌}
use Rattle.std.specs.List.{list_any}
use Rattle.std.specs.Option.{option_map_or, option_and_then}
use Rattle.std.specs.Str.{bytes_eq}
use Rattle.std.proofs.lemmas.Bool.{eq-eqb, or_left, or_right, or_cases}
use Rattle.std.proofs.lemmas.Option.{same_Some}
use Rattle.eif_base.specs.declared.root.Root.{Root}
use Rattle.eif_tree.specs.Tree.{ClassT}
use Rattle.eif_system.specs.Lineage.{line_of}
use Rattle.eif_system.specs.Universe.{universe}
use Rattle.eif_classes.specs.Ancestry.{ancestor}
use Rattle.eif_classes.specs.Binding.{bind}
use Rattle.eif_classes.specs.Clients.{is_client}
use Rattle.eif_classes.specs.Creators.{Creator, creators}
use Rattle.eif_classes.specs.Entries.{Declaration, declared_as}
use Rattle.eif_classes.specs.Features.{is_attribute, has_feature, origin}
use Rattle.eif_classes.specs.KernelNumbers.{is_basic}
use Rattle.eif_classes.specs.Resolution.{own_formals}
use Rattle.eif_classes.specs.Signatures.{Signature, signature}
use Rattle.eif_classes.specs.Types.{TyT, Actuals, no_actuals, put_in_all}
use Rattle.eif_feature_rules.specs.CreatorRules.{is_creator}
use Rattle.eif_flow_rules.specs.CallPaths.{IsOneOf}
use Rattle.eif_flow_rules.specs.MetNeeds.{BodyLaws}
use Rattle.eif_flow_rules.specs.VersionFlows.{body_in, version_flow, declared_above}
use Rattle.eif_flow_rules_laws.proofs.Meeting.{needs_are_met}
use Rattle.eif_meaning.specs.Values.{ClassType}
use Rattle.eif_meaning.specs.System.{system_over}
use Rattle.eif_lineage_laws.proofs.EachItem.{all_from}
use Rattle.eif_lineage_laws.specs.Lineages.{line_over}
use Rattle.eif_binding_laws.proofs.Bound.{bound_by, bind_by}
use Rattle.eif_binding_laws.proofs.Creating.{IsProcedure, creators_procedures}
use Rattle.eif_binding_laws.proofs.Settings.{order_of, IsSetting, setting}
use Rattle.eif_run_laws.specs.ObjectTypes.{IsMade, Over}
use Rattle.eif_run_sound.specs.Bodies.{IsRoutine}
use Rattle.eif_run_sound.specs.Fields.{due}
use Rattle.eif_run_sound.specs.UniverseLaws.{IsServed, IsReadAs, IsAnswered, all_closed, maybe_closed, IsCreator, CreationLaws}
use Rattle.eif_run_sound.proofs.Flows.{and_left}
use Rattle.eif_run_creation.specs.LawfulCreation.{IsCreated, CreationIsLawful}
use Rattle.eif_run_creation.proofs.Bodies.{above_is}
use Rattle.eif_run_creation.proofs.CleanCreators.{creator_has, IsClean, are_clean}
use Rattle.eif_run_creation.proofs.Closing.{closed}
use Rattle.eif_run_creation.proofs.DueFields as fields

-- what is available to some class is a creator
available : (u : List ClassT) (k : ℕ) (n : List ℕ) (xs : List Creator)
    → list_any (λ x. bytes_eq x.name n && is_client u x.clients k) xs ≡ true
    → list_any (λ x. bytes_eq x.name n) xs ≡ true
available u k n [] h = cc
available u k n (x ∷ xs) h =
    elim (or_cases (bytes_eq x.name n && is_client u x.clients k) _ h) [
      | inl t ↦ or_left (bytes_eq x.name n) _ (and_left (bytes_eq x.name n) (is_client u x.clients k) t)
      | inr t ↦ or_right (bytes_eq x.name n) _ (available u k n xs t)
    ]

-- a class that may have instances and is not basic
record IsThere (u : List ClassT) (d : ℕ) : Type 0 where
  pub class : ClassT
  pub at : slice_get u d ≡ Some class
  pub effective : class.is_deferred ≡ false

not_true : (a b : Bool) → (not a && b) ≡ true → a ≡ false
not_true true b h = cc
not_true false b h = refl

creatable : (u : List ClassT) (d : ℕ) (b : Bool) → is_basic d ≡ b → b ≡ false
    → (b || (system_over u).is_creatable d) ≡ true → IsThere u d
creatable u d true e f h = cc
creatable u d false e f h = by (slice_get u d) refl h
  where
    by : (o : Option ClassT) → slice_get u d ≡ o
        → option_map_or (λ (c : ClassT). not c.is_deferred && not (is_basic d)) o false ≡ true → IsThere u d
    by None at h = cc
    by (Some c) at h =
        record { class = c; at = at; effective = not_true c.is_deferred (not (is_basic d)) h }

-- what is taken under a test is what is there
own_bound : (b : Bool) (m n : List ℕ) → (if b then Some m else None) ≡ Some n → m ≡ n
own_bound true m n h = same_Some m n h
own_bound false m n h = cc

-- where no result is wanted no field serves
no_field_serves : (u : List ClassT) (t : ClassType) (n : List ℕ) (y : Declaration) (args : List TyT) (r : Option TyT)
    → r ≡ None → IsReadAs u t n y args r → ⊥
no_field_serves u t n y args None e w = w.result_fits
no_field_serves u t n y args (Some a) e w = cc

module _ (given : List ClassT) (root : Root) (is : IsCreated given root) where
  abbrev u : List ClassT
  u = universe given

  abbrev pub order : List ℕ
  order = order_of given root is.well_formed.derived

  pub set : IsSetting u order
  set = setting given root is.well_formed.derived

  -- ---- creators

  procedure : (d : ℕ) (n : List ℕ) → is_creator (line_of u d) n ≡ true → IsProcedure u (line_of u d) n
  procedure d n h =
      creator_has (IsProcedure u (line_of u d)) (creators (line_of u d)) n
      (all_from (λ (x : Creator). IsProcedure u (line_of u d) x.name) (creators (line_of u d))
      (λ i x e. creators_procedures given root is.well_formed d i x e)) h

  module _ (t : ClassType) (made : IsMade (system_over u) t) (real : is_basic t.class_number ≡ false) where
    there : IsThere u t.class_number
    there = creatable u t.class_number (is_basic t.class_number) refl real made.instances

    itself : Over (system_over u) t t.class_number t.actuals
    itself = record {
      derived = (system_over u).formals t.class_number;
      gives = made.there;
      is = ap (λ o. put_in_all t.actuals (option_map_or own_formals o no_actuals)) there.at
          ∙ is.types.own t.class_number there.class there.at t.actuals made.suit;
    }

    -- a name that is bound in its own class
    bound_to_itself : (m n : List ℕ) → bind (line_of u t.class_number) t.class_number m ≡ Some n → m ≡ n
    bound_to_itself m n h =
        let d = t.class_number in
        own_bound (has_feature (line_over u d there.class) m) m n
        (sym (bind_by u order set.hierarchy.ordered d there.class d m there.at
        ∙ ap (bound_by u order set.hierarchy.ordered d there.class d m) (eq-eqb d d refl)) ∙ h)

    clean : (n : List ℕ) → is_creator (line_of u t.class_number) n ≡ true → (y : Declaration)
        → origin (line_of u t.class_number) n ≡ Some (declared_as y) → is_attribute y.tree.kind ≡ false
        → IsClean u t.class_number y
    clean n h y o k =
        are_clean given root order set.hierarchy.ordered is.creation t.class_number there.class there.at
        there.effective n h y
        (ap (option_and_then body_in) o ∙ ap (λ b. if b then None else Some y) k)

    served : (n : List ℕ) (args : List TyT) (y : Declaration) → is_creator (line_of u t.class_number) n ≡ true
        → origin (line_of u t.class_number) n ≡ Some (declared_as y)
        → IsServed u t y args None → IsCreator u t n args
    served n args y h o s =
        let w = clean n h y o s.routine.no_field in
        record { version = y; version_is = o; serves = s; met = w.met; sets_all = w.sets_all }

    answered : (n : List ℕ) (args : List TyT) (r : Option TyT) → r ≡ None
        → is_creator (line_of u t.class_number) n ≡ true
        → IsAnswered u t t.class_number n args r → IsCreator u t n args
    answered n args r none h w =
        let o : origin (line_of u t.class_number) n ≡ Some (declared_as w.version) =
        ap (origin (line_of u t.class_number)) (bound_to_itself n w.name w.bound) ∙ w.version_is in
        elim w.serves [
          | inl f ↦ absurd (no_field_serves u t w.name w.version args r none f)
          | inr s ↦ served n args w.version h o (subst (IsServed u t w.version args) none s)
        ]

    pub creator_is : (n : List ℕ) (g : Signature) → is_creator (line_of u t.class_number) n ≡ true
        → signature u (line_of u t.class_number) n ≡ Some g
        → IsCreator u t n (all_closed t.actuals g.arguments)
    creator_is n g h sig =
        let p = procedure t.class_number n h in
        let none : g.result ≡ None =
        ap (λ (g : Signature). g.result) (same_Some g p.0 (sym sig ∙ p.1)) ∙ p.2 in
        answered n (all_closed t.actuals g.arguments) (maybe_closed t.actuals g.result)
        (ap (maybe_closed t.actuals) none) h
        (is.features.answered t made t.class_number t.actuals itself n g sig)

  -- ---- bodies

  laws : (d : ℕ) → BodyLaws (due u d) (version_flow u (line_of u d)) (declared_above u (line_of u d))
  laws d =
      needs_are_met.0 (due u d) (version_flow u (line_of u d)) (declared_above u (line_of u d))
      (closed u order set d)

  body : (d : ℕ) (y : Declaration) → IsRoutine u y → (xs : Actuals) → ancestor u d y.class_number ≡ Some xs
      → IsOneOf (declared_above u (line_of u d)) y
  body d y r xs gives =
      above_is u order set.hierarchy set.defined d y
      record { class = r.text; at = r.at; declares = r.declares; actuals = xs; gives = gives }

  pub creation_laws : CreationLaws u
  creation_laws = record {
    creators = λ t made real k n g h sig.
        creator_is t made real n g (available u k n (creators (line_of u t.class_number)) h) sig;
    due_or_set = fields.due_or_set u;
    needs = λ d y r xs gives f w. (laws d).needs y f (body d y r xs gives) w;
    sets = λ d y r xs gives f. (laws d).sets y f (body d y r xs gives);
  }

pub creation_is_lawful : CreationIsLawful
creation_is_lawful given root is = creation_laws given root is
