-- What the laws of binding stand on: a hierarchy of classes that break no rule.
use Rattle.std.proofs.Common.{◌≡◌, ℕ, List, [], ◌∷◌, ◌++◌, length, map, Option, Some, None, refl, sym, ap, ap₂, subst}
use Rattle.std.specs.List.{flat_map}
use Rattle.std.specs.Option.{option_map}
use Rattle.std.specs.Prelude.{slice_get}
use Rattle.eif_base.specs.declared.root.Root.{Root}
use Rattle.eif_classes.specs.Features.{declaration_of}
use Rattle.eif_classes.specs.Resolution.{resolved, own_formals}
use Rattle.eif_classes.specs.Signatures.{Signature, declared_signature, with_actuals}
use Rattle.eif_classes.specs.Types.{TyT, Actuals, no_actuals, and_actual, actual_at, put_in, put_in_all, formals_from}
use Rattle.eif_lineage_laws.proofs.EachItem.{AllOf, all_from, all_left, all_right, all_map, all_flat}
use Rattle.eif_lineage_laws.proofs.WholeClasses.{has_order}
use Rattle.eif_rules.specs.UniverseRules.{formal_count}
use Rattle.eif_system.specs.Universe.{universe}
use Rattle.eif_system.specs.Lineage.{line_of}
use Rattle.eif_system.specs.WrittenTypes.{Written, written, written_in, written_types, invariant_name, types_of_expressions, types_of_groups, types_of_kind, types_of_declaration, feature_name, present, nested}
use Rattle.eif_tree.specs.declared.tree.NameAt.{NameAt}
use Rattle.eif_tree.specs.Members.{has_name, declarations}
use Rattle.eif_tree.specs.Tree.{TypeT, type_at, GroupT, DeclT, ClassT}
use Rattle.eif_type_laws.specs.ClassTypes.{IsSomething, IsOf, EachClause, IsValidClause, IsHierarchy, Defined}
use Rattle.eif_type_laws.proofs.Ancestors.{count_is}
use Rattle.eif_type_laws.proofs.Substitution.{put_put, formals_put_all}
use Rattle.eif_type_laws.proofs.ValidUniverses as valid
use Rattle.eif_type_laws.proofs.WholeUniverses.{hierarchy, written_of}
use Rattle.eif_binding_laws.specs.Signatures.{IsTypeOf}
use Rattle.eif_binding_laws.specs.WellFormed.{IsDerived, IsWellFormed}
use Rattle.eif_binding_laws.proofs.FineClasses.{HasFineFeatures, HasFineSignatures, fine_features, fine_signatures}
use Rattle.eif_binding_laws.proofs.Searches.{found_has}

-- ---- signatures

-- P of each type
pub record TypesAre (P : TyT → Type 0) (s : Signature) : Type 0 where
  pub arguments : AllOf P s.arguments
  pub result : AllOf P (present s.result)

-- one substitution after the other
maps_compose : (xs ys : Actuals) (ts : List TyT) →
    map (put_in ys) (map (put_in xs) ts) ≡ map (put_in (put_in_all ys xs)) ts
maps_compose xs ys [] = refl
maps_compose xs ys (t ∷ ts) = ap₂ ◌∷◌ (put_put xs ys t) (maps_compose xs ys ts)

options_compose : (xs ys : Actuals) (o : Option TyT) →
    option_map (put_in ys) (option_map (put_in xs) o) ≡ option_map (put_in (put_in_all ys xs)) o
options_compose xs ys None = refl
options_compose xs ys (Some t) = ap Some (put_put xs ys t)

abbrev pub signature_of : List TyT → Option TyT → Signature
signature_of ts o = record { arguments = ts; result = o }

pub actuals_compose : (xs ys : Actuals) (s : Signature) →
    with_actuals ys (with_actuals xs s) ≡ with_actuals (put_in_all ys xs) s
actuals_compose xs ys s = ap₂ signature_of (maps_compose xs ys s.arguments) (options_compose xs ys s.result)

-- a class's own formals put in change nothing
own_type_stays : (u : List ClassT) (n : ℕ) (t : TyT) → IsOf u n t → IsSomething t → put_in (formals_from 0 n) t ≡ t
own_type_stays u n t h s =
    ap (λ (ts : Actuals). actual_at ts 0) (formals_put_all u n (and_actual t no_actuals) (s, h, tt))

module _ (u : List ClassT) (d : ℕ) (xs : Actuals) (stays : (t : TyT) → IsTypeOf u d t → put_in xs t ≡ t) where
  own_map : (ts : List TyT) → AllOf (IsTypeOf u d) ts → map (put_in xs) ts ≡ ts
  own_map [] h = refl
  own_map (t ∷ ts) h = ap₂ ◌∷◌ (stays t h.0) (own_map ts h.1)

  own_option : (o : Option TyT) → AllOf (IsTypeOf u d) (present o) → option_map (put_in xs) o ≡ o
  own_option None h = refl
  own_option (Some t) h = ap Some (stays t h.0)

  own_with : (s : Signature) → TypesAre (IsTypeOf u d) s → with_actuals xs s ≡ s
  own_with s h = ap₂ signature_of (own_map s.arguments h.arguments) (own_option s.result h.result)

pub own_signature : (u : List ClassT) (d : ℕ) (c : ClassT) (s : Signature) → formal_count u d ≡ length c.formals →
    TypesAre (IsTypeOf u d) s → with_actuals (own_formals c) s ≡ s
own_signature u d c s count h =
    own_with u d (own_formals c)
    (λ t is. own_type_stays u (length c.formals) t (subst (λ n. IsOf u n t) count is.formed) is.something) s h

-- ---- what declarations write

module _ (u : List ClassT) (c : ClassT) (P : TyT → Type 0) where
  -- P of what each written type means
  abbrev Means : Written → Type 0
  Means w = P (resolved u c w.type_tree)

  of_names : (t : TypeT) (ns : List NameAt) → P (resolved u c t) → AllOf P (map (λ n. resolved u c t) ns)
  of_names t [] h = tt
  of_names t (n ∷ ns) h = (h, of_names t ns h)

  all_appended : (xs ys : List TyT) → AllOf P xs → AllOf P ys → AllOf P (xs ++ ys)
  all_appended [] ys h g = g
  all_appended (x ∷ xs) ys h g = (h.0, all_appended xs ys h.1 g)

  of_groups : (gs : List GroupT) → AllOf (λ t. P (resolved u c t)) (types_of_groups gs) →
      AllOf P (flat_map (λ g. map (λ n. resolved u c g.type_tree) g.names) gs)
  of_groups [] h = tt
  of_groups (g ∷ gs) h =
      all_appended (map (λ n. resolved u c g.type_tree) g.names)
      (flat_map (λ g. map (λ n. resolved u c g.type_tree) g.names) gs) (of_names g.type_tree g.names h.0)
      (of_groups gs h.1)

  of_result : (o : Option TypeT) → AllOf (λ t. P (resolved u c t)) (present o) →
      AllOf P (present (option_map (resolved u c) o))
  of_result None h = tt
  of_result (Some t) h = h

  of_declaration : (x : DeclT) → AllOf Means (written_in x) → TypesAre P (declared_signature u c x)
  of_declaration x h =
      let arguments = types_of_groups x.arguments in
      let result = present x.result_type in
      let before = types_of_expressions x.preconditions in
      let kind = types_of_kind x.kind in
      let after = types_of_expressions x.postconditions in
      let all : AllOf (λ t. P (resolved u c t)) (types_of_declaration x) =
      all_map (written (feature_name x.names)) Means (types_of_declaration x) h in
      let head = all_left (λ t. P (resolved u c t)) (arguments ++ result) before
      (all_left (λ t. P (resolved u c t)) (arguments ++ result ++ before) kind
      (all_left (λ t. P (resolved u c t)) (arguments ++ result ++ before ++ kind) after all)) in
      record {
        arguments = of_groups x.arguments (all_left (λ t. P (resolved u c t)) arguments result head);
        result = of_result x.result_type (all_right (λ t. P (resolved u c t)) arguments result head);
      }

  pub of_declared : AllOf Means (written_types c) → (n : List ℕ) (x : DeclT) → declaration_of c n ≡ Some x →
      TypesAre P (declared_signature u c x)
  of_declared h n x found =
      let heads = map (written []) (flat_map (λ f. present f.constraint) c.formals ++ map (λ p. p.parent) c.parents) in
      let declared = flat_map written_in (declarations c) in
      let invariants = map (written invariant_name) (types_of_expressions c.invariants) in
      of_declaration x
      (found_has (λ x. AllOf Means (written_in x)) (λ x. has_name x.names n) (declarations c) x
      (all_flat written_in Means (declarations c)
      (all_right Means heads declared (all_left Means (heads ++ declared) invariants h))) found)

-- ---- the setting

-- classes that break no rule of features and of derivations
pub record IsSetting (u : List ClassT) (order : List ℕ) : Type 0 where
  pub hierarchy : IsHierarchy u order
  pub defined : Defined u
  pub clauses : EachClause u (IsValidClause u)
  pub types : (d : ℕ) (c : ClassT) → slice_get u d ≡ Some c → (n : List ℕ) (x : DeclT) →
      declaration_of c n ≡ Some x → TypesAre (IsTypeOf u d) (declared_signature u c x)
  pub features : (d : ℕ) (c : ClassT) → slice_get u d ≡ Some c → HasFineFeatures u c (line_of u d)

-- nor of signatures
pub record IsSignedSetting (u : List ClassT) (order : List ℕ) : Type 0 where
  pub setting : IsSetting u order
  pub signatures : (d : ℕ) (c : ClassT) → slice_get u d ≡ Some c → HasFineSignatures u c (line_of u d)

first_nested : (t : TypeT) → slice_get (nested t) 0 ≡ Some t
first_nested (type_at p q m n ts) = refl

module _ (given : List ClassT) (root : Root) (is : IsDerived given root) where
  abbrev pub order_of : List ℕ
  order_of = (has_order given root is.universe).0

  pub setting : IsSetting (universe given) order_of
  setting =
      let order = has_order given root is.universe in
      let h = hierarchy given root is.universe order.0 order.1 in
      record {
        hierarchy = h;
        defined = valid.defined given root is.universe is.derivations;
        clauses = valid.clauses_valid given root is.universe is.derivations;
        types = λ d c at n x found. of_declared (universe given) c (IsTypeOf (universe given) d)
            (all_from (Means (universe given) c (IsTypeOf (universe given) d)) (written_types c)
            (λ i w among.
            let r = written_of given root is.universe d c at i w among 0 w.type_tree (first_nested w.type_tree) in
            let v = valid.written_valid given root is.universe is.derivations d c at i w among 0 w.type_tree
            (first_nested w.type_tree) in
            record {
              something = r.0;
              formed = subst (λ n. IsOf (universe given) n (resolved (universe given) c w.type_tree))
                  (sym (count_is (universe given) order.0 h d c at)) r.1;
              valid = v;
            })) n x found;
        features = fine_features given root is;
      }

pub signed_setting : (given : List ClassT) (root : Root) (is : IsWellFormed given root) →
    IsSignedSetting (universe given) (order_of given root is.derived)
signed_setting given root is =
    record { setting = setting given root is.derived; signatures = fine_signatures given root is }
