-- A creator of which nothing is told meets its needs and sets each due field.
use Rattle.std.proofs.Common.{◌≡◌, ℕ, ◌+◌, true, false, inl, inr, List, [], ◌∷◌, map, Option, Some, None, refl, sym, ap, subst, ◌∙◌}
use Rattle.std.specs.Prelude.{slice_get, not, flat_map, if◌then◌else◌}
use Rattle.std.specs.List.{filter, list_any}
use Rattle.std.specs.Option.{option_map_or}
use Rattle.std.specs.Str.{bytes_eq}
use Rattle.std.proofs.lemmas.Bool.{cases_Bool}
use Rattle.eif_base.specs.declared.place.Place.{Place}
use Rattle.eif_base.specs.declared.root.Root.{Root}
use Rattle.eif_base.specs.Numbering.{is_among}
use Rattle.eif_tree.specs.declared.tree.NameAt.{NameAt}
use Rattle.eif_tree.specs.Tree.{CreatorsT, ClassT}
use Rattle.eif_system.specs.Inheritance.{any_clause, graph_of}
use Rattle.eif_system.specs.Graph.{IsOrder}
use Rattle.eif_system.specs.Kernel.{kernel, kernel_count, any_class, character_class, string_class, array_class}
use Rattle.eif_system.specs.Lineage.{Line, line, top, up, line_of}
use Rattle.eif_system.specs.Universe.{universe}
use Rattle.eif_classes.specs.Clients.{client_names}
use Rattle.eif_classes.specs.Creators.{Creator, creators_in, default_creator, creators_by, creators}
use Rattle.eif_classes.specs.Entries.{Declaration}
use Rattle.eif_classes.specs.Features.{fields}
use Rattle.eif_feature_rules.specs.CreatorRules.{is_creator}
use Rattle.eif_flow_rules.specs.CreationFaults.{unset_needs, unset_at_end, needs_unset, leaves_unset, own_text_faults, creator_faults, named_creators, creator_places, class_faults, creation_faults, CreationBroken}
use Rattle.eif_flow_rules.specs.FieldSets.{no_fields, without}
use Rattle.eif_flow_rules.specs.FlowTrees.{Flow}
use Rattle.eif_flow_rules.specs.FollowedBodies.{body_named}
use Rattle.eif_flow_rules.specs.MetNeeds.{Within}
use Rattle.eif_flow_rules.specs.NeedsAndSets.{Summary, set_after}
use Rattle.eif_flow_rules.specs.Summaries.{is_due, due_fields, summary}
use Rattle.eif_flow_rules.specs.VersionFlows.{version_flow}
use Rattle.eif_flow_rules_laws.proofs.Meeting.{needs_are_met}
use Rattle.eif_lineage_laws.specs.Lineages.{line_over}
use Rattle.eif_lineage_laws.proofs.EachItem.{AllOf, all_then, all_left, all_right, all_append}
use Rattle.eif_lineage_laws.proofs.KernelClasses.{OfKernel, of_each, integer_class, boolean_class}
use Rattle.eif_lineage_laws.proofs.NoFaults.{none_left, none_right, none_of_each, none_in}
use Rattle.eif_lineage_laws.proofs.Unfolding.{unfolded}
use Rattle.eif_rules.specs.FaultForms.{IsNone}
use Rattle.eif_ancestry.proofs.Members.{or_cases}
use Rattle.eif_binding_laws.proofs.FineClasses.{any_at}
use Rattle.eif_binding_laws.proofs.Searches.{same_bytes}
use Rattle.eif_run_sound.specs.Bodies.{flow_on}
use Rattle.eif_run_sound.specs.Fields.{due, Met, behind}
use Rattle.eif_run_sound.proofs.Flows.{and_both, all_met}
use Rattle.eif_run_creation.proofs.DueFields.{among_kept}

none_made : {A B : Type 0} (f : A → B) (xs : List A) → map f xs ≡ [] → xs ≡ []
none_made f [] h = refl
none_made f (x ∷ xs) h = cc

-- ---- the names of creators

module _ (P : List ℕ → Type 0) where
  of_names : (clients : List (List ℕ)) (ns : List NameAt) → AllOf (λ (n : NameAt). P n.name) ns
      → AllOf (λ (x : Creator). P x.name) (map (λ (n : NameAt). record { name = n.name; clients = clients }) ns)
  of_names clients [] h = tt
  of_names clients (n ∷ ns) h = (h.0, of_names clients ns h.1)

  of_parts : (parts : List CreatorsT) → AllOf (λ (n : NameAt). P n.name) (flat_map (λ part. part.names) parts)
      → AllOf (λ (x : Creator). P x.name) (flat_map creators_in parts)
  of_parts [] h = tt
  of_parts (part ∷ parts) h =
      all_append (λ (x : Creator). P x.name) (creators_in part) (flat_map creators_in parts)
      (of_names (client_names part.clients) part.names
      (all_left (λ (n : NameAt). P n.name) part.names (flat_map (λ part. part.names) parts) h))
      (of_parts parts
      (all_right (λ (n : NameAt). P n.name) part.names (flat_map (λ part. part.names) parts) h))

  -- what holds of the names where they are written holds of the creators
  of_places : (default : Option (List ℕ)) (p : Place) (parts : List CreatorsT)
      → AllOf (λ (n : NameAt). P n.name) (named_creators default p parts)
      → AllOf (λ (x : Creator). P x.name) (creators_by default parts)
  of_places None p [] h = tt
  of_places (Some n) p [] h = (h.0, tt)
  of_places default p (part ∷ parts) h = of_parts (part ∷ parts) h

  pub creator_has : (xs : List Creator) (n : List ℕ) → AllOf (λ x. P x.name) xs
      → list_any (λ x. bytes_eq x.name n) xs ≡ true → P n
  creator_has [] n all h = cc
  creator_has (x ∷ xs) n all h =
      or_cases (P n) (bytes_eq x.name n) (list_any (λ x. bytes_eq x.name n) xs) h
      (λ t. subst P (same_bytes x.name n t) all.0) (λ t. creator_has xs n all.1 t)

-- ---- a text

module _ (due : List (List ℕ)) (of : Declaration → Summary) (t : Flow) where
  -- where no due field is told at the end, each is set there
  sets_due : unset_at_end due of t ≡ [] → Within (is_among due) (set_after (is_among due) of t no_fields)
  sets_due h n m =
      elim (cases_Bool (set_after (is_among due) of t no_fields n)) [
        | inl e ↦ e
        | inr e ↦ (
            let told = among_kept (without (is_among due) (set_after (is_among due) of t no_fields)) due n m
            (and_both (is_among due n) (not (set_after (is_among due) of t no_fields n)) m (ap not e)) in
            let z : false ≡ true = sym (ap (λ ns. is_among ns n) h) ∙ told in cc)
      ]

-- ---- a body on objects of a class

-- as the body of a creator it meets its needs, and sets each due field
pub record IsClean (u : List ClassT) (d : ℕ) (x : Declaration) : Type 0 where
  pub met : Met u d (flow_on u d x) no_fields
  pub sets_all : Within (due u d) (behind u d (flow_on u d x) no_fields)

-- so are the bodies of the creators of the class
abbrev pub AreClean : List ClassT → ℕ → Type 0
AreClean u d =
    (n : List ℕ) → is_creator (line_of u d) n ≡ true → (x : Declaration)
    → body_named (line_of u d) n ≡ Some x → IsClean u d x

-- a body of a class in which no field is due
without_due : (u : List ClassT) (d : ℕ) (x : Declaration) → fields (line_of u d) ≡ [] → IsClean u d x
without_due u d x none =
    let empty : due_fields u (line_of u d) ≡ [] = ap (filter (is_due u (line_of u d))) none in
    let w : Within (due u d) no_fields =
    λ n h. let z : false ≡ true = sym (ap (λ ns. is_among ns n) empty) ∙ h in cc in
    record {
      met = all_met (due u d) (summary u (line_of u d)) (flow_on u d x) no_fields w;
      sets_all = λ n h. let z : false ≡ true = w n h in cc;
    }

module _ (u : List ClassT) (d : ℕ) (c : ClassT) where
  abbrev l : Line
  l = line_of u d

  of_text : (creator : NameAt) (x : Declaration)
      → own_text_faults (due_fields u l) (summary u l) c creator (version_flow u l x) ≡ [] → IsClean u d x
  of_text creator x h =
      let needs = needs_unset (due_fields u l) (summary u l) c creator (version_flow u l x) in
      let leaves = leaves_unset (due_fields u l) (summary u l) c creator (version_flow u l x) in
      record {
        met = needs_are_met.1 (due_fields u l) (summary u l) (version_flow u l x)
            (none_made _ (unset_needs (due_fields u l) (summary u l) (version_flow u l x) no_fields)
            (none_left needs leaves h));
        sets_all = sets_due (due_fields u l) (summary u l) (version_flow u l x)
            (none_made _ (unset_at_end (due_fields u l) (summary u l) (version_flow u l x))
            (none_right needs leaves h));
      }

  abbrev HasCleanBody : List ℕ → Type 0
  HasCleanBody n = (x : Declaration) → body_named l n ≡ Some x → IsClean u d x

  of_creator : (creator : NameAt) → creator_faults u l c creator ≡ [] → HasCleanBody creator.name
  of_creator creator h x e =
      of_text creator x
      (sym (ap (λ o. option_map_or (λ x. own_text_faults (due_fields u l) (summary u l) c creator
      (version_flow u l x)) o []) e) ∙ h)

  of_class : c.is_deferred ≡ false → class_faults u l c ≡ [] → l ≡ line_over u d c → AreClean u d
  of_class effective h unfolds n is =
      let none : flat_map (creator_faults u l c) (creator_places l c) ≡ [] =
      sym (ap (λ b. if b then [] else flat_map (creator_faults u l c) (creator_places l c)) effective) ∙ h in
      let places = all_then (λ (p : NameAt). creator_faults u l c p ≡ []) (λ (p : NameAt). HasCleanBody p.name)
      (creator_places l c) of_creator (none_of_each (creator_faults u l c) (creator_places l c) none) in
      let all : AllOf (λ (x : Creator). HasCleanBody x.name) (creators_by (default_creator l) c.creators) =
      of_places HasCleanBody (default_creator l) c.place c.creators places in
      let here : creators l ≡ creators_by (default_creator l) c.creators =
      ap creators unfolds ∙ ap (λ l. creators_by (default_creator l) c.creators) (sym unfolds) in
      creator_has HasCleanBody (creators l) n
      (subst (AllOf (λ (x : Creator). HasCleanBody x.name)) (sym here) all) is

-- ---- the classes of a universe

module _ (given : List ClassT) (root : Root) (order : List ℕ) (is : IsOrder (graph_of (universe given)) order)
    (fine : IsNone (CreationBroken given)) where
  abbrev classes : List ClassT
  classes = universe given

  any_line : line_of classes 0 ≡ line 0 any_class top
  any_line = unfolded classes order is 0 any_class (any_at given)

  abbrev over_any : ℕ → ClassT → Line → Line
  over_any d c l = line d c (up any_clause l top)

  -- the kernel's classes have no fields
  fieldless : OfKernel (λ d c. fields (line_over classes d c) ≡ [])
  unfolding kernel
  fieldless = record {
    any = refl;
    integer = subst (λ l. fields (over_any 1 integer_class l) ≡ []) (sym any_line) refl;
    boolean = subst (λ l. fields (over_any 2 boolean_class l) ≡ []) (sym any_line) refl;
    character = subst (λ l. fields (over_any 3 character_class l) ≡ []) (sym any_line) refl;
    string = subst (λ l. fields (over_any 4 string_class l) ≡ []) (sym any_line) refl;
    array = subst (λ l. fields (over_any 5 array_class l) ≡ []) (sym any_line) refl;
  }

  abbrev Clean : ℕ → ClassT → Type 0
  Clean d c = slice_get classes d ≡ Some c → c.is_deferred ≡ false → AreClean classes d

  of_kernel : (d : ℕ) (c : ClassT) → fields (line_over classes d c) ≡ [] → Clean d c
  of_kernel d c none at effective n creator x e =
      without_due classes d x (ap fields (unfolded classes order is d c at) ∙ none)

  of_given : (i : ℕ) (c : ClassT) → slice_get given i ≡ Some c → Clean (kernel_count + i) c
  of_given i c among at effective =
      of_class classes (kernel_count + i) c effective
      (none_in (creation_faults classes (kernel_count + i) c)
      (λ f h. fine f record { i = i; x = c; at = among; judged = h }))
      (unfolded classes order is (kernel_count + i) c at)

  pub are_clean : (d : ℕ) (c : ClassT) → slice_get classes d ≡ Some c → c.is_deferred ≡ false → AreClean classes d
  are_clean d c at =
      of_each given Clean record {
        any = of_kernel 0 any_class fieldless.any;
        integer = of_kernel 1 integer_class fieldless.integer;
        boolean = of_kernel 2 boolean_class fieldless.boolean;
        character = of_kernel 3 character_class fieldless.character;
        string = of_kernel 4 string_class fieldless.string;
        array = of_kernel 5 array_class fieldless.array;
      } of_given d c at at
