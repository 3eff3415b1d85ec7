-- Creators have no result, and each class has a name for ANY's `default_create`.
use Rattle.std.proofs.Common.{◌≡◌, ℕ, ◌+◌, Bool, true, false, List, [], ◌∷◌, ◌++◌, length, map, Option, Some, None, refl, sym, ap, ap₂, subst, ◌∙◌, ⊎_elim}
use Rattle.std.proofs.lemmas.Option.{same_Some}
use Rattle.std.proofs.lemmas.Slice.Eq.{bytes_eq-Decides}
use Rattle.std.proofs.Math.Dec.{eqb-suc-zero}
use Rattle.std.proofs.lemmas.Bool.{eq-eqb}
use Rattle.std.specs.List.{flat_map, list_any}
use Rattle.std.specs.Option.{option_map_or}
use Rattle.std.specs.Prelude.{not, ◌||◌, ◌==◌, slice_get, if◌then◌else◌, is_some, codes}
use Rattle.std.specs.Str.{bytes_eq}
use Rattle.eif_base.specs.declared.code.Code.TheVariants as code
use Rattle.eif_base.specs.declared.root.Root.{Root}
use Rattle.eif_classes.specs.Clients.{client_names}
use Rattle.eif_classes.specs.Creators.{Creator, creators_in, default_creator, creators_by, creators}
use Rattle.eif_classes.specs.Descent.{descends}
use Rattle.eif_classes.specs.Features.{has_feature}
use Rattle.eif_classes.specs.Signatures.{Signature, signature}
use Rattle.eif_classes.specs.Types.{TyT}
use Rattle.eif_feature_rules.specs.ClauseRules.{each_listed}
use Rattle.eif_feature_rules.specs.CreatorRules.{is_creator, has_arguments, wrong_root_procedure, deferred_creation, unknown_creator, has_result, creator_with_result, repeated_creator, creator_faults_by}
use Rattle.eif_lineage_laws.specs.Universes.{NamesClass}
use Rattle.eif_lineage_laws.proofs.Descending.{lines_of, no_line, class_or_none, parent_descends, descends_self}
use Rattle.eif_lineage_laws.proofs.EachItem.{AllOf, all_at, all_left, all_right, all_append}
use Rattle.eif_lineage_laws.proofs.KernelClasses.{any_first, given_at}
use Rattle.eif_lineage_laws.proofs.NoFaults.{none_left, none_right, none_where}
use Rattle.eif_lineage_laws.proofs.Unfolding.{by_parents, Step, unfolded}
use Rattle.eif_lineage_laws.proofs.WholeClasses.{name_denotes, parents_named}
use Rattle.eif_rules.specs.FaultForms.{fault_at}
use Rattle.eif_rules.specs.UniverseRules.{root_number}
use Rattle.eif_system.specs.Graph.{IsOrder}
use Rattle.eif_system.specs.Inheritance.{any_clause, clauses, parent_number, graph_of}
use Rattle.eif_system.specs.Kernel.{kernel_count, any_name, any_class}
use Rattle.eif_system.specs.Lineage.{Line, line, top, line_of}
use Rattle.eif_system.specs.Universe.{universe, class_number}
use Rattle.eif_system.specs.WrittenTypes.{type_name}
use Rattle.eif_tree.specs.declared.tree.NameAt.{NameAt}
use Rattle.eif_tree.specs.Members.{creator_names}
use Rattle.eif_tree.specs.Tree.{ParentT, CreatorsT, ClassT}
use Rattle.eif_type_laws.proofs.Ancestors.{clause_descends}
use Rattle.eif_type_laws.proofs.Ways.{clause_member}
use Rattle.eif_ancestry.proofs.Members.{or_cases}
use Rattle.eif_binding_laws.specs.Creation.{IsPlainCreator}
use Rattle.eif_binding_laws.specs.KeptSignatures.{ResultConforms}
use Rattle.eif_binding_laws.specs.WellFormed.{IsWellFormed}
use Rattle.eif_binding_laws.proofs.Bound.{names_bound}
use Rattle.eif_binding_laws.proofs.FineClasses.{none_listed, any_at, fine_root}
use Rattle.eif_binding_laws.proofs.Keeping.{found_feature, kept}
use Rattle.eif_binding_laws.proofs.Redeclared.{not_false}
use Rattle.eif_binding_laws.proofs.RootNumbers.{numbered, given_root, root_number_is}
use Rattle.eif_binding_laws.proofs.Searches.{same_bytes}
use Rattle.eif_binding_laws.proofs.Settings.{signature_of, order_of, IsSignedSetting, signed_setting}
use Rattle.eif_binding_laws.proofs.Signing.{all_signed}

-- the name has a signature without a result
abbrev pub IsProcedure : List ClassT → Line → List ℕ → Type 0
IsProcedure u l n = (s : Signature) × (signature u l n ≡ Some s) × (s.result ≡ None)

-- ---- the creators of a class

-- of the names of creators parts
of_parts : (P : List ℕ → Type 0) (parts : List CreatorsT) → AllOf (λ (n : NameAt). P n.name) (flat_map (λ part. part.names) parts) →
    AllOf (λ (x : Creator). P x.name) (flat_map creators_in parts)
of_parts P [] h = tt
of_parts P (part ∷ parts) h =
    all_append (λ (x : Creator). P x.name) (creators_in part) (flat_map creators_in parts)
    (names part.names (all_left (λ (n : NameAt). P n.name) part.names (flat_map (λ part. part.names) parts) h))
    (of_parts P parts (all_right (λ (n : NameAt). P n.name) part.names (flat_map (λ part. part.names) parts) h))
  where
    names : (ns : List NameAt) → AllOf (λ (n : NameAt). P n.name) ns →
        AllOf (λ (x : Creator). P x.name) (map (λ n. record { name = n.name; clients = client_names part.clients }) ns)
    names [] h = tt
    names (n ∷ ns) h = (h.0, names ns h.1)

of_creators : (P : List ℕ → Type 0) (default : Option (List ℕ)) (parts : List CreatorsT) →
    ((n : List ℕ) → default ≡ Some n → P n) → AllOf (λ (n : NameAt). P n.name) (flat_map (λ part. part.names) parts) →
    AllOf (λ (x : Creator). P x.name) (creators_by default parts)
of_creators P None [] f h = tt
of_creators P (Some n) [] f h = (f n refl, tt)
of_creators P default (part ∷ parts) f h = of_parts P (part ∷ parts) h

no_result : (o : Option Signature) (s : Signature) → o ≡ Some s → option_map_or (λ s. is_some s.result) o false ≡ false →
    s.result ≡ None
no_result o s e h = go s.result (ap (λ o. option_map_or (λ s. is_some s.result) o false) (sym e) ∙ h)
  where
    go : (r : Option TyT) → is_some r ≡ false → r ≡ None
    go None h = refl
    go (Some t) h = cc

none_conforms : (u : List ClassT) (d : ℕ) (o : Option TyT) → ResultConforms u d o None → o ≡ None
none_conforms u d None h = refl
none_conforms u d (Some t) h = absurd h

-- the name of a creator is among those that are said of
creator_has : (P : List ℕ → Type 0) (xs : List Creator) (n : List ℕ) → AllOf (λ x. P x.name) xs →
    list_any (λ x. bytes_eq x.name n) xs ≡ true → P n
creator_has P [] n all h = cc
creator_has P (x ∷ xs) n all h = or_cases (P n) (bytes_eq x.name n) (list_any (λ x. bytes_eq x.name n) xs) h
    (λ t. subst P (same_bytes x.name n t) all.0) (λ t. creator_has P xs n all.1 t)

no_arguments : (ts : List TyT) → not (length ts == 0) ≡ false → ts ≡ []
no_arguments [] h = refl
no_arguments (t ∷ ts) h = let e = eqb-suc-zero (length ts) in cc

both_right : (a b : Bool) → (not a || b) ≡ false → (a ≡ true) × (b ≡ false)
both_right true b h = (refl, h)
both_right false b h = cc

module _ (given : List ClassT) (root : Root) (is : IsWellFormed given root) where
  abbrev u : List ClassT
  u = universe given

  abbrev order : List ℕ
  order = order_of given root is.derived

  abbrev whole : IsSignedSetting u order
  whole = signed_setting given root is

  creator_procedure : (d : ℕ) (c : ClassT) → slice_get u d ≡ Some c →
      AllOf (λ n. IsProcedure u (line_of u d) n.name) (creator_names c)
  creator_procedure d c at =
      let l = line_of u d in
      let listed : each_listed (creator_faults_by u c l) (creator_names c) ≡ [] =
      none_right (deferred_creation c) (each_listed (creator_faults_by u c l) (creator_names c))
      (whole.signatures d c at).creators in
      none_listed (λ n. IsProcedure u l n.name) (creator_faults_by u c l) (creator_names c) (λ earlier n e.
      let unknown = unknown_creator c l n in
      let result = creator_with_result u c l n in
      let head = none_left (unknown ++ result) (repeated_creator c earlier n) e in
      let has = not_false (has_feature l n.name)
      (none_where (not (has_feature l n.name)) (fault_at c code.Vgcp 2 n.place n.name)
      (none_left unknown result head)) in
      let none = none_where (has_result u l n.name) (fault_at c code.Vgcp 3 n.place n.name)
      (none_right unknown result head) in
      let f = found_feature u order whole d c at n.name has in
      let s = all_signed u order whole.setting d n.name f.0 f.1 in
      (s.0, s.1, no_result (signature u l n.name) s.0 s.1 none)) listed

  -- ---- ANY

  first_clause : (c : ClassT) → bytes_eq c.name any_name ≡ false → (p : ParentT) × (slice_get (clauses c) 0 ≡ Some p)
  first_clause c other = go c.parents refl
    where
      unwritten : (b : Bool) → b ≡ false → slice_get (if b then [] else any_clause ∷ []) 0 ≡ Some any_clause
      unwritten true e = cc
      unwritten false e = refl

      go : (ps : List ParentT) → c.parents ≡ ps → (p : ParentT) × (slice_get (clauses c) 0 ≡ Some p)
      go [] e = (any_clause, rw e (unwritten (bytes_eq c.name any_name) other))
      go (p ∷ ps) e = (p, rw e refl)

  clause_number : (c : ClassT) (p : ParentT) (k : ℕ) → NamesClass u c p.parent k → parent_number u c p ≡ Some k
  clause_number c p k h = ap (λ b. if b then None else class_number u (type_name p.parent)) h.no_formal ∙ h.number

  ordered : IsOrder (graph_of u) order
  ordered = whole.setting.hierarchy.ordered

  abbrev IsHeir : ℕ → Type 0
  IsHeir d = descends (line_of u d) 0 ≡ true

  heir_step : Step u order ordered IsHeir
  heir_step d c at parents = go (bytes_eq c.name any_name) refl
    where
      go : (b : Bool) → bytes_eq c.name any_name ≡ b → IsHeir d
      go true e =
          let same = (bytes_eq-Decides c.name any_name).0 e in
          let zero_is : d ≡ 0 = same_Some d 0
          (sym (name_denotes given root is.derived.universe d c at) ∙ (ap (class_number u) same ∙ any_first given)) in
          subst (λ k. descends (line_of u d) k ≡ true) zero_is (descends_self u order ordered d c at)
      go false e =
          let p = first_clause c e in
          let k = all_at (λ p. (k : ℕ) × NamesClass u c p.parent k) (clauses c) 0 p.0
          (parents_named given root is.derived.universe d c at) p.1 in
          let member = clause_member u c (clauses c) 0 p.0 k.0 p.1 (clause_number c p.0 k.0 k.1) in
          clause_descends u order whole.setting.hierarchy d 0 c at
          (parent_descends u c 0 k.0 (clauses c) member (parents k.0 member))

  heir : (d : ℕ) (c : ClassT) → slice_get u d ≡ Some c → IsHeir d
  heir d c at = by_parents u order ordered IsHeir heir_step d c at

  abbrev default_name : List ℕ
  default_name = codes "default_create"

  abbrev plain : Signature
  plain = record { arguments = []; result = None }

  any_line : line_of u 0 ≡ line 0 any_class top
  any_line = unfolded u order ordered 0 any_class (any_at given)

  default_signature : signature u (line_of u 0) default_name ≡ Some plain
  default_signature = subst (λ l. signature u l default_name ≡ Some plain) (sym any_line) refl

  default_named : has_feature (line_of u 0) default_name ≡ true
  default_named = subst (λ l. has_feature l default_name ≡ true) (sym any_line) refl

  pub default_bound : (d : ℕ) (c : ClassT) → slice_get u d ≡ Some c →
      (n : List ℕ) × (default_creator (line_of u d) ≡ Some n) × (signature u (line_of u d) n ≡ Some plain)
  default_bound d c at =
      let set = whole.setting in
      let down = heir d c at in
      let b = names_bound u order ordered (λ d c at. (set.features d c at).decided) d 0 default_name down default_named in
      let xs = set.defined d 0 down in
      let w = kept u order whole d 0 default_name b.0 xs.0 plain xs.1 default_signature b.1 in (
        b.0,
        b.1,
        w.signed ∙ ap Some (ap₂ signature_of w.stands.arguments (none_conforms u d w.theirs.result w.stands.result)),
      )

  -- ---- both

  creators_of : (d : ℕ) (c : ClassT) → slice_get u d ≡ Some c →
      AllOf (λ x. IsProcedure u (line_of u d) x.name) (creators (line_of u d))
  creators_of d c at =
      let l = unfolded u order ordered d c at in
      subst (λ xs. AllOf (λ (x : Creator). IsProcedure u (line_of u d) x.name) xs) (sym (ap creators l))
      (of_creators (IsProcedure u (line_of u d)) (default_creator (line d c (lines_of u c (clauses c)))) c.creators
      (λ n e.
      let b = default_bound d c at in
      let same : b.0 ≡ n = same_Some b.0 n (sym b.1 ∙ (ap default_creator l ∙ e)) in
      (plain, ap (signature u (line_of u d)) (sym same) ∙ b.2, refl))
      (creator_procedure d c at))

  pub creators_procedures : (d i : ℕ) (x : Creator) → slice_get (creators (line_of u d)) i ≡ Some x →
      IsProcedure u (line_of u d) x.name
  creators_procedures d i x among = ⊎_elim
      (λ (c : (c : ClassT) × (slice_get u d ≡ Some c)).
      all_at (λ (x : Creator). IsProcedure u (line_of u d) x.name) (creators (line_of u d)) i x (creators_of d c.0 c.1)
      among)
      (λ (e : slice_get u d ≡ None).
      let z : None ≡ Some x = sym (ap (λ l. slice_get (creators l) i) (no_line u d e)) ∙ among in cc)
      (class_or_none u d)

  -- ---- the root procedure

  pub root_creator : (i : ℕ) → root_number given root ≡ Some i →
      IsPlainCreator u (line_of u (kernel_count + i)) root.procedure_name
  root_creator i number =
      let d = kernel_count + i in
      let n = root.procedure_name in
      let c = numbered given root.class_name i (given_root given root i number) in
      let l = unfolded u order ordered d c.0 (given_at given i c.0 c.1) in
      let is_root = ap (λ o. option_map_or (λ k. k == d) o false) (root_number_is given root i number)
      ∙ eq-eqb d d refl in
      let none : wrong_root_procedure u c.0 (line_of u d) n ≡ [] =
      ap (λ l. wrong_root_procedure u c.0 l n) l
      ∙ sym (ap (λ b. if b then wrong_root_procedure u c.0 (line d c.0 (lines_of u c.0 (clauses c.0))) n else []) is_root)
      ∙ fine_root given root is i c.0 c.1 in
      let right = both_right (is_creator (line_of u d) n) (has_arguments u (line_of u d) n)
      (none_where (not (is_creator (line_of u d) n) || has_arguments u (line_of u d) n)
      (fault_at c.0 code.Vsrp 1 c.0.place n) none) in
      let procedure = creator_has (IsProcedure u (line_of u d)) (creators (line_of u d)) n
      (creators_of d c.0 (given_at given i c.0 c.1)) right.0 in (
        right.0,
        procedure.1
            ∙ ap Some (ap₂ signature_of
            (no_arguments procedure.0.arguments
            (sym (ap (λ o. option_map_or (λ s. not (length s.arguments == 0)) o false) procedure.1) ∙ right.1))
            procedure.2),
      )
