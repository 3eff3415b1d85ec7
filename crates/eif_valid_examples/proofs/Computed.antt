-- A system whose lists of faults are empty, and whose classes stand behind their parents, breaks no rule.
use Rattle.std.proofs.Common.{◌≡◌, ℕ, zero, suc, ◌+◌, ◌<◌, ◌≤◌, eqb, Bool, true, false, List, [], ◌∷◌, length, get_or, Some, inl, inr, refl, sym, ap, subst, ◌∙◌, arith}
use Rattle.std.specs.Prelude.{slice_get, nat_lt, take, is_some, MatchBool}
use Rattle.std.specs.List.{IsDistinct, enumerate_from}
use Rattle.std.proofs.lemmas.Bool.{eqb-true, lt-ltb}
use Rattle.std.proofs.lemmas.Map.Keys.{IsDistinct-from_apart}
use Rattle.std.proofs.lemmas.Option.{slice_get-get_or, same_Some}
use Rattle.eif_ancestry.proofs.Members.{is_false, member_at, place_of, no_more}
use Rattle.eif_base.specs.Appends.{In}
use Rattle.eif_base.specs.declared.fault.Fault.{Fault}
use Rattle.eif_base.specs.declared.limits.TheConstants.{MOST_ANCESTORS}
use Rattle.eif_base.specs.declared.root.Root.{Root}
use Rattle.eif_body_rules.specs.BodyRules.{body_faults}
use Rattle.eif_classes.specs.Descent.{above}
use Rattle.eif_feature_rules.specs.FeaturePhases.{each_given, feature_faults, class_derivation_faults, signature_faults}
use Rattle.eif_flow_rules.specs.CreationFaults.{creation_faults, CreationBroken}
use Rattle.eif_lineage_laws.proofs.Descending.{above_listed, no_way_back}
use Rattle.eif_lineage_laws.proofs.EachItem.{AllOf, all_at}
use Rattle.eif_rules.specs.FaultForms.{IsNone}
use Rattle.eif_rules.specs.UniverseRules.{text_faults, root_faults, IsOwnAncestor, HasManyAncestors, OwnBroken, repeated_class, ClassBroken, UniverseBroken}
use Rattle.eif_system.specs.Graph.{IsListOf, IsOrder}
use Rattle.eif_system.specs.Inheritance.{clauses, graph_of}
use Rattle.eif_system.specs.Kernel.{kernel_count}
use Rattle.eif_system.specs.Lineage.{line_of}
use Rattle.eif_system.specs.Universe.{universe, class_number}
use Rattle.eif_tree.specs.Tree.{ParentT, ClassT}
use Rattle.eif_type_laws.proofs.Ways.{clause_member}
use Rattle.eif_valid_systems.specs.ValidSystems.{IsValidSystem}
use Rattle.eif_valid_examples.proofs.Rising.{rises_from, has_order}

-- ---- lists of the same numbers are as long

distinct : (P : ℕ → Type 0) (xs : List ℕ) → IsListOf P xs → IsDistinct eqb xs
distinct P xs l = IsDistinct-from_apart eqb xs (λ i j d h k. is_false _ (λ t.
    let e : get_or xs i d ≡ get_or xs j d = eqb-true (get_or xs i d) (get_or xs j d) t in
    let w : i < length xs = omega arith in
    let p : i ≡ j = l.once i j (get_or xs j d) (slice_get-get_or xs i d w ∙ ap Some e) (slice_get-get_or xs j d k) in
    absurd (omega arith)))

no_longer : (P : ℕ → Type 0) (xs ys : List ℕ) → IsListOf P xs → IsListOf P ys → length xs ≤ length ys
no_longer P xs ys l m = no_more xs ys (distinct P xs l) (λ a t.
    let i = place_of xs a t in
    let j = m.each a (l.only i.0 a i.1) in
    member_at ys j.0 a j.1)

-- ---- faults

nothing : (xs : List Fault) → xs ≡ [] → IsNone (In xs)
nothing [] e f h = cc
nothing (x ∷ xs) e f h = cc

-- what is computed of the given class with that number
pub record IsClean (given : List ClassT) (d : ℕ) (c : ClassT) : Type 0 where
  pub named : is_some (class_number (take d (universe given)) c.name) ≡ false
  pub text : text_faults (universe given) c ≡ []
  pub few : nat_lt MOST_ANCESTORS (length (above (line_of (universe given) d))) ≡ false
  pub there : slice_get (universe given) d ≡ Some c
  pub creation : creation_faults (universe given) d c ≡ []

-- and of the system
pub record Computes (given : List ClassT) (root : Root) : Type 0 where
  pub rises : rises_from 0 (graph_of (universe given)) ≡ true
  pub classes : AllOf (λ x. IsClean given x.0 x.1) (enumerate_from kernel_count given)
  pub root_is : root_faults given root ≡ []
  pub features : each_given feature_faults given ≡ []
  pub derivations : each_given class_derivation_faults given ≡ []
  pub signatures : each_given (λ u l. signature_faults u root l) given ≡ []
  pub bodies : body_faults given ≡ []

numbered : {A : Type 0} (n : ℕ) (xs : List A) (i : ℕ) (x : A) → slice_get xs i ≡ Some x
    → slice_get (enumerate_from n xs) i ≡ Some (n + i, x)
numbered n [] i x e = cc
numbered {A = A} n (y ∷ xs) zero x e =
    let z : n ≡ n + 0 = omega arith in
    let w : y ≡ x = same_Some y x e in
    let one : ℕ × A = (n, y) in
    let other : ℕ × A = (n + 0, x) in
    let same : one ≡ other = subst (λ m. one ≡ (m, x)) z (ap (λ (y : A). (n, y)) w) in
    ap Some same
numbered n (y ∷ xs) (suc i) x e =
    let z : (n + 1) + i ≡ n + suc i = omega arith in
    subst (λ m. slice_get (enumerate_from (n + 1) xs) i ≡ Some (m, x)) z (numbered (n + 1) xs i x e)

module _ (given : List ClassT) (root : Root) (h : Computes given root) where
  abbrev u : List ClassT
  u = universe given

  order : (order : List ℕ) × IsOrder (graph_of u) order
  order = has_order (graph_of u) h.rises

  clean : (i : ℕ) (c : ClassT) → slice_get given i ≡ Some c → IsClean given (kernel_count + i) c
  clean i c at =
      all_at (λ (x : ℕ × ClassT). IsClean given x.0 x.1) (enumerate_from kernel_count given) i (kernel_count + i, c)
      h.classes (numbered kernel_count given i c at)

  -- a written clause is among the clauses
  written : (c : ClassT) (i : ℕ) (p : ParentT) → slice_get c.parents i ≡ Some p → slice_get (clauses c) i ≡ Some p
  written c i p at = go c.parents refl at
    where
      go : (ps : List ParentT) → c.parents ≡ ps → slice_get ps i ≡ Some p → slice_get (clauses c) i ≡ Some p
      go [] e at = cc
      go (q ∷ ps) e at =
          subst (λ qs. slice_get (clauses (record c { parents = qs })) i ≡ Some p) (sym e) at

  not_own : (d : ℕ) (c : ClassT) (i : ℕ) (p : ParentT) (f : Fault) → slice_get u d ≡ Some c
      → slice_get c.parents i ≡ Some p → IsOwnAncestor u d c p f → ⊥
  not_own d c i p f there at own =
      no_way_back u order.0 order.1 d own.0 c there
      (clause_member u c (clauses c) i p own.0 (written c i p at) own.1) own.2

  not_many : (d : ℕ) (c : ClassT) (f : Fault) → IsClean given d c → HasManyAncestors u d c f → ⊥
  not_many d c f k many =
      let listed = (above_listed u order.0 order.1 d c k.there).list in
      let longer = no_longer _ many.0.0 (above (line_of u d)) many.0.1 listed in
      let count = many.0.2 in
      let more : nat_lt MOST_ANCESTORS (length (above (line_of u d))) ≡ true = lt-ltb _ _ (omega arith) in
      let no : false ≡ true = sym k.few ∙ more in cc

  not_broken : (d : ℕ) (c : ClassT) (f : Fault) → IsClean given d c → ClassBroken u d c f → ⊥
  not_broken d c f k broken = go (is_some (class_number (take d u) c.name)) k.named broken
    where
      own : OwnBroken u d c f → ⊥
      own (inl text) = nothing _ k.text f text
      own (inr (inl some)) = not_own d c some.i some.x f k.there some.at some.judged
      own (inr (inr many)) = not_many d c f k many

      go : (b : Bool) → b ≡ false → MatchBool b (f ≡ repeated_class c) (OwnBroken u d c f) → ⊥
      go true e b = cc
      go false e b = own b

  universe_none : IsNone (UniverseBroken given root)
  universe_none f (inl some) = not_broken (kernel_count + some.i) some.x f (clean some.i some.x some.at) some.judged
  universe_none f (inr broken) = nothing _ h.root_is f broken

  creation_none : IsNone (CreationBroken given)
  creation_none f some = nothing _ (clean some.i some.x some.at).creation f some.judged

  pub valid_from : IsValidSystem given root
  valid_from = record {
    well_formed = record {
      derived = record {
        universe = universe_none;
        features = nothing _ h.features;
        derivations = nothing _ h.derivations;
      };
      signatures = nothing _ h.signatures;
    };
    bodies = nothing _ h.bodies;
    creation = creation_none;
  }
