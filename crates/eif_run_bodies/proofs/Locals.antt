-- The types that a declaration writes are types of its class; those of its locals and of Result are among them.
use Rattle.std.proofs.Common.{◌≡◌, ℕ, List, [], ◌++◌, map, Option, Some, None, refl, sym, subst, inl, inr}
use Rattle.std.proofs.lemmas.Option.{same_Some}
use Rattle.std.specs.List.{flat_map}
use Rattle.std.specs.Option.{option_map}
use Rattle.std.specs.Prelude.{find, slice_get}
use Rattle.eif_base.specs.declared.root.Root.{Root}
use Rattle.eif_tree.specs.Members.{has_name, declarations}
use Rattle.eif_tree.specs.Tree.{TypeT, type_at, attribute, constant, deferred_body, routine, KindT, GroupT, DeclT, ClassT}
use Rattle.eif_system.specs.Universe.{universe}
use Rattle.eif_system.specs.WrittenTypes.{written, written_in, written_types, invariant_name, feature_name, present, nested, types_of_expressions, types_of_groups, types_of_kind, types_of_declaration}
use Rattle.eif_classes.specs.Features.{declaration_of, local_groups}
use Rattle.eif_classes.specs.Resolution.{resolved}
use Rattle.eif_lineage_laws.proofs.EachItem.{AllOf, all_from, all_left, all_right, all_map, all_flat}
use Rattle.eif_lineage_laws.proofs.WholeClasses.{has_order}
use Rattle.eif_meaning.specs.Frames.{type_in, entity_by, local}
use Rattle.eif_type_laws.specs.ClassTypes.{IsOf}
use Rattle.eif_type_laws.proofs.Ancestors.{count_is}
use Rattle.eif_type_laws.proofs.ValidUniverses.{written_valid}
use Rattle.eif_type_laws.proofs.WholeUniverses.{hierarchy, written_of}
use Rattle.eif_binding_laws.specs.WellFormed.{IsDerived}
use Rattle.eif_binding_laws.proofs.Searches.{found_has}
use Rattle.eif_run_sound.specs.UniverseLaws.{IsTypeIn, IsLocalType}

-- ---- by where they stand

module _ (P : TypeT → Type 0) where
  pub types_declared : (c : ClassT) → AllOf (λ w. P w.type_tree) (written_types c) → (n : List ℕ) (x : DeclT) →
      declaration_of c n ≡ Some x → AllOf P (types_of_declaration x)
  types_declared c h n x found =
      let heads = map (written []) (flat_map (λ f. present f.constraint) c.formals ++ map (λ p. p.parent) c.parents) in
      let declared = flat_map written_in (declarations c) in
      let invariants = map (written invariant_name) (types_of_expressions c.invariants) in
      all_map (written (feature_name x.names)) (λ w. P w.type_tree) (types_of_declaration x)
      (found_has (λ x. AllOf (λ w. P w.type_tree) (written_in x)) (λ x. has_name x.names n) (declarations c) x
      (all_flat written_in (λ w. P w.type_tree) (declarations c)
      (all_right (λ w. P w.type_tree) heads declared
      (all_left (λ w. P w.type_tree) (heads ++ declared) invariants h))) found)

  module _ (x : DeclT) (h : AllOf P (types_of_declaration x)) where
    abbrev heads : List TypeT
    heads = types_of_groups x.arguments ++ present x.result_type

    abbrev before : List TypeT
    before = types_of_expressions x.preconditions

    all_but_last : AllOf P (heads ++ before ++ types_of_kind x.kind)
    all_but_last =
        all_left P (heads ++ before ++ types_of_kind x.kind) (types_of_expressions x.postconditions) h

    pub kind_typed : AllOf P (types_of_kind x.kind)
    kind_typed = all_right P (heads ++ before) (types_of_kind x.kind) all_but_last

    result_typed : (t : TypeT) → x.result_type ≡ Some t → P t
    result_typed t e =
        let two = all_left P heads before (all_left P (heads ++ before) (types_of_kind x.kind) all_but_last) in
        (subst (λ o. AllOf P (present o)) e
        (all_right P (types_of_groups x.arguments) (present x.result_type) two)).0

    type_found : (gs : List GroupT) → AllOf P (types_of_groups gs) → (n : List ℕ) (t : TypeT) →
        type_in gs n ≡ Some t → P t
    type_found gs all n t e = go (find (λ g. has_name g.names n) gs) refl e
      where
        go : (o : Option GroupT) → find (λ g. has_name g.names n) gs ≡ o →
            option_map (λ (g : GroupT). g.type_tree) o ≡ Some t → P t
        go None f e = cc
        go (Some g) f e =
            subst P (same_Some g.type_tree t e)
            (found_has (λ g. P g.type_tree) (λ g. has_name g.names n) gs g
            (all_map (λ (g : GroupT). g.type_tree) P gs all) f)

    kind_locals : (k : KindT) → AllOf P (types_of_kind k) → (n : List ℕ) (t : TypeT) →
        type_in (local_groups k) n ≡ Some t → P t
    kind_locals attribute all n t e = cc
    kind_locals (constant v) all n t e = cc
    kind_locals deferred_body all n t e = cc
    kind_locals (routine gs body) all n t e = type_found gs (all_left P (types_of_groups gs) _ all) n t e

    is_local : (a b : Option TypeT) (t : TypeT) → entity_by a b ≡ Some (local t) → b ≡ Some t
    is_local (Some s) b t e = cc
    is_local None (Some s) t e = cc
    is_local None None t e = cc

    pub local_typed : (t : TypeT) → IsLocalType x t → P t
    local_typed t (inl l) =
        kind_locals x.kind kind_typed l.0 t
        (is_local (type_in x.arguments l.0) (type_in (local_groups x.kind) l.0) t l.1)
    local_typed t (inr e) = result_typed t e

-- ---- in a universe

first_nested : (t : TypeT) → slice_get (nested t) 0 ≡ Some t
first_nested (type_at p q m n ts) = refl

module _ (given : List ClassT) (root : Root) (is : IsDerived given root) where
  abbrev u : List ClassT
  u = universe given

  -- what a written type means is a type of the class
  abbrev pub MeansType : ℕ → ClassT → TypeT → Type 0
  MeansType d c t = IsTypeIn u d (resolved u c t)

  all_mean : (d : ℕ) (c : ClassT) → slice_get u d ≡ Some c →
      AllOf (λ w. MeansType d c w.type_tree) (written_types c)
  all_mean d c at =
      let order = has_order given root is.universe in
      let h = hierarchy given root is.universe order.0 order.1 in
      all_from (λ w. MeansType d c w.type_tree) (written_types c) (λ i w among.
      let r = written_of given root is.universe d c at i w among 0 w.type_tree (first_nested w.type_tree) in
      let v = written_valid given root is.universe is.derivations d c at i w among 0 w.type_tree
      (first_nested w.type_tree) in
      (subst (λ n. IsOf u n (resolved u c w.type_tree)) (sym (count_is u order.0 h d c at)) r.1, v))

  -- each type that a declaration writes
  pub declared_mean : (d : ℕ) (c : ClassT) → slice_get u d ≡ Some c → (n : List ℕ) (x : DeclT) →
      declaration_of c n ≡ Some x → AllOf (MeansType d c) (types_of_declaration x)
  declared_mean d c at n x found = types_declared (MeansType d c) c (all_mean d c at) n x found
