-- A plain class has no field, and without fields no creator breaks a rule.
use Rattle.std.proofs.Common.{◌≡◌, ℕ, Bool, true, false, List, [], ◌∷◌, ◌++◌, map, Option, Some, None, refl, sym, ap, ap₂, subst, ◌∙◌}
use Rattle.std.specs.List.{filter, flat_map, list_all}
use Rattle.std.specs.Option.{option_map_or}
use Rattle.std.specs.Prelude.{if◌then◌else◌}
use Rattle.std.specs.Str.{bytes_eq}
use Rattle.eif_base.specs.declared.code.Code.TheVariants as code
use Rattle.eif_base.specs.declared.fault.Fault.{Fault}
use Rattle.eif_base.specs.Numbering.{is_among}
use Rattle.eif_binding_laws.proofs.Searches.{found_has}
use Rattle.eif_classes.specs.Entries.{Declaration, Origin, clashing, Feature, entry, entries_of, lasts, same_origin, joined}
use Rattle.eif_classes.specs.Features.{declaration_of, declared_origin, feature_by, features, entries, is_attribute, is_field, fields}
use Rattle.eif_classes.specs.Names.{name_set}
use Rattle.eif_flow_rules.specs.CreationFaults.{unset_needs, own_text_faults, creator_faults, creator_places, creation_faults}
use Rattle.eif_flow_rules.specs.FieldSets.{FieldSet, no_fields}
use Rattle.eif_flow_rules.specs.FlowTrees.{Flow, idle, reads, shows, sets, calls, in_turn, aside, one_of}
use Rattle.eif_flow_rules.specs.FollowedBodies.{body_named}
use Rattle.eif_flow_rules.specs.NeedsAndSets.{Summary, set_after}
use Rattle.eif_flow_rules.specs.Summaries.{is_due, due_fields, summary}
use Rattle.eif_flow_rules.specs.VersionFlows.{version_flow}
use Rattle.eif_lineage_laws.proofs.EachItem.{AllOf, all_then, all_append}
use Rattle.eif_lineage_laws.specs.Lineages.{line_over}
use Rattle.eif_lineage_laws.specs.Universes.{NamesClass}
use Rattle.eif_rules.specs.FaultForms.{fault_in}
use Rattle.eif_system.specs.Inheritance.{any_clause, parent_number, clauses}
use Rattle.eif_system.specs.Kernel.{any_name, any_class}
use Rattle.eif_system.specs.Lineage.{Line, line, Ups, top, line_by, ups_by, line_of}
use Rattle.eif_system.specs.Universe.{class_number}
use Rattle.eif_tree.specs.declared.tree.NameAt.{NameAt}
use Rattle.eif_tree.specs.Members.{has_name, declarations, declared_names}
use Rattle.eif_tree.specs.Tree.{ParentT, KindT, attribute, constant, deferred_body, routine, DeclT, ClassT}
use Rattle.eif_plain_systems.proofs.Lists.{all_mapped, all_any, all_filtered, none_pass, no_parts}
use Rattle.eif_plain_systems.proofs.PlainParts.{IsProcedure, IsPlainClass}

-- ---- features

abbrev NoField : Feature → Type 0
NoField f = is_field f.origin ≡ false

abbrev NoAttribute : DeclT → Type 0
NoAttribute x = is_attribute x.kind ≡ false

joined_no_field : (os : List Origin) → AllOf (λ o. is_field o ≡ false) os → is_field (joined os) ≡ false
joined_no_field [] h = refl
joined_no_field (o ∷ os) h = go (list_all (same_origin o) os)
  where
    go : (b : Bool) → is_field (if b then o else clashing) ≡ false
    go true = h.0
    go false = refl

declared_no_field : (k : KindT) (x : Declaration) → NoAttribute x.tree → is_field (declared_origin k x) ≡ false
declared_no_field attribute x h = h
declared_no_field (constant v) x h = h
declared_no_field deferred_body x h = refl
declared_no_field (routine gs is) x h = h

-- of a class that declares and inherits no attribute
module _ (d : ℕ) (c : ClassT) (ups : Ups) (own : AllOf NoAttribute (declarations c))
    (inherited : AllOf (λ e. NoField e.feature) (entries ups)) where
  made_no_field : (n : List ℕ) → NoField (feature_by d (entries ups) n (declaration_of c n))
  made_no_field n = go (declaration_of c n) refl
    where
      go : (o : Option DeclT) → declaration_of c n ≡ o → NoField (feature_by d (entries ups) n o)
      go None e = joined_no_field (map (λ e. e.feature.origin) (filter lasts (entries_of n (entries ups))))
          (all_mapped (λ e. e.feature.origin) (λ o. is_field o ≡ false) (filter lasts (entries_of n (entries ups)))
          (all_filtered (λ e. NoField e.feature) lasts (entries_of n (entries ups))
          (all_filtered (λ e. NoField e.feature) (λ e. bytes_eq e.final n) (entries ups) inherited)))
      go (Some x) e = declared_no_field x.kind (record { class_number = d; name = n; tree = x })
          (found_has NoAttribute (λ x. has_name x.names n) (declarations c) x own e)

  no_field : AllOf NoField (features (line d c ups))
  no_field =
      let names = name_set (map (λ n. n.name) (declared_names c) ++ map (λ e. e.final) (entries ups)) in
      all_mapped (λ n. feature_by d (entries ups) n (declaration_of c n)) NoField names
      (all_any (λ n. NoField (feature_by d (entries ups) n (declaration_of c n))) names made_no_field)

-- ---- a plain class, over ANY

any_no_field : AllOf NoField (features (line 0 any_class top))
any_no_field = no_field 0 any_class top (refl, (refl, (refl, tt))) tt

module _ (u : List ClassT) (c : ClassT) (first : line_of u 0 ≡ line 0 any_class top)
    (named : NamesClass u c any_clause.parent 0) (plain : IsPlainClass c) where
  abbrev lines : List ParentT → Ups
  lines ps = ups_by (λ p. line_by (line_of u) (parent_number u c p)) ps

  any_parent : parent_number u c any_clause ≡ Some 0
  any_parent = ap (λ b. if b then None else class_number u any_name) named.no_formal ∙ named.number

  entries_no_field : AllOf (λ e. NoField e.feature) (entries (lines (clauses c)))
  entries_no_field =
      subst (λ ps. AllOf (λ e. NoField e.feature) (entries (lines (clauses (record c { parents = ps })))))
      (sym plain.parents) (go (bytes_eq c.name any_name))
    where
      go : (b : Bool) → AllOf (λ e. NoField e.feature) (entries (lines (if b then [] else any_clause ∷ [])))
      go true = tt
      go false =
          let l = line_by (line_of u) (parent_number u c any_clause) in
          let is_any : l ≡ line 0 any_class top = ap (line_by (line_of u)) any_parent ∙ first in
          all_append (λ e. NoField e.feature) (map (entry any_clause) (features l)) []
          (all_mapped (entry any_clause) (λ e. NoField e.feature) (features l)
          (subst (λ l. AllOf NoField (features l)) (sym is_any) any_no_field))
          tt

  pub fieldless : (d : ℕ) → fields (line_over u d c) ≡ []
  fieldless d =
      let own = all_then (IsProcedure c) NoAttribute (declarations c)
      (λ x p. ap (λ (x : DeclT). is_attribute x.kind) p.is) plain.procedures in
      ap (map (λ f. f.name)) (none_pass (λ f. is_field f.origin) (features (line_over u d c))
      (no_field d c (lines (clauses c)) own entries_no_field))

-- ---- creators, where no field is due

nothing_needed : (of : Declaration → Summary) (t : Flow) (s : FieldSet) → unset_needs [] of t s ≡ []
nothing_needed of idle s = refl
nothing_needed of (reads p n) s = refl
nothing_needed of (shows p) s = refl
nothing_needed of (sets n) s = refl
nothing_needed of (calls p x) s = refl
nothing_needed of (in_turn a b) s =
    ap₂ ◌++◌ (nothing_needed of a s) (nothing_needed of b (set_after (is_among []) of a s))
nothing_needed of (aside a) s = nothing_needed of a s
nothing_needed of (one_of a b) s = ap₂ ◌++◌ (nothing_needed of a s) (nothing_needed of b s)

module _ (u : List ClassT) (d : ℕ) (c : ClassT) (none : fields (line_of u d) ≡ []) where
  abbrev l : Line
  l = line_of u d

  none_due : due_fields u l ≡ []
  none_due = ap (filter (is_due u l)) none

  text_fine : (creator : NameAt) (t : Flow) →
      own_text_faults (due_fields u l) (summary u l) c creator t ≡ []
  text_fine creator t =
      let tell : NameAt → Fault = λ n. fault_in c creator.name code.Vevi 3 n.place n.name in
      ap (λ due. own_text_faults due (summary u l) c creator t) none_due
      ∙ ap (λ ns. map tell ns ++ []) (nothing_needed (summary u l) t no_fields)

  creator_fine : (creator : NameAt) → creator_faults u l c creator ≡ []
  creator_fine creator = go (body_named l creator.name)
    where
      go : (o : Option Declaration) →
          option_map_or (λ x. own_text_faults (due_fields u l) (summary u l) c creator (version_flow u l x)) o [] ≡ []
      go None = refl
      go (Some x) = text_fine creator (version_flow u l x)

  pub creation_fine : creation_faults u d c ≡ []
  creation_fine = go c.is_deferred
    where
      go : (b : Bool) → (if b then [] else flat_map (creator_faults u l c) (creator_places l c)) ≡ []
      go true = refl
      go false = no_parts (creator_faults u l c) (creator_places l c)
          (all_any (λ x. creator_faults u l c x ≡ []) (creator_places l c) creator_fine)
