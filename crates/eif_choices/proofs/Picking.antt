-- The pick among candidates by numbers is the pick among their names.
use Rattle.std.proofs.Common.{◌≡◌, ℕ, Bool, true, false, cond, List, [], ◌∷◌, map, Option, Some, None, refl, sym, ap, ap₂, ◌∙◌}
use Rattle.std.specs.Prelude.{◌&&◌, ◌==◌, if◌then◌else◌, slice_get}
use Rattle.std.specs.List.{filter, list_all}
use Rattle.std.specs.List.Sorted.{IsStrictlySortedBy}
use Rattle.std.specs.Option.{option_and_then, option_map, option_or}
use Rattle.std.specs.Ordering.{is_eq}
use Rattle.std.specs.Str.{bytes_eq}
use Rattle.std.proofs.lemmas.Cmp.{nat_list_cmp_total}
use Rattle.std.proofs.lemmas.Option.{get_or_from_slice_get, slice_get-map}
use Rattle.eif_base.specs.declared.feat_id.FeatId.{FeatId}
use Rattle.eif_choices.specs.Picked.{agreed_feature, is_flagged, picked_feature}
use Rattle.eif_classes.specs.Binding.{is_selected_in, picked}
use Rattle.eif_classes.specs.Names.{agreed, name_cmp}
use Rattle.eif_rows.specs.Numbers.{name_of, names_of}
use Rattle.eif_rows.proofs.NameSets.{same_number_test, same_test}
use Rattle.eif_rows.proofs.RisingLists.{cmp-places}
use Rattle.eif_tree.specs.Tree.{ParentT}

module _ (ns : List (List ℕ)) (up : IsStrictlySortedBy name_cmp ns) where
  -- numbers are equal where their names are
  same_place : (f g : FeatId) (n m : List ℕ) → name_of ns f ≡ Some n → name_of ns g ≡ Some m
      → (f.0 == g.0) ≡ bytes_eq n m
  same_place f g n m e h =
      sym (same_number_test f.0 g.0)
      ∙ (ap is_eq (cmp-places nat_list_cmp_total ns up f.0 g.0 n m e h) ∙ same_test n m)

  all_same : (f : FeatId) (n : List ℕ) → name_of ns f ≡ Some n → (fs : List FeatId) (ms : List (List ℕ))
      → names_of ns fs ≡ map Some ms → list_all (λ g. f.0 == g.0) fs ≡ list_all (bytes_eq n) ms
  all_same f n e [] [] h = refl
  all_same f n e [] (m ∷ ms) h = absurd (cc)
  all_same f n e (g ∷ fs) [] h = absurd (cc)
  all_same f n e (g ∷ fs) (m ∷ ms) h =
      let first : name_of ns g ≡ Some m = cc in
      let rest : names_of ns fs ≡ map Some ms = cc in
      ap₂ ◌&&◌ (same_place f g n m e first) (all_same f n e fs ms rest)

  if_named : (b : Bool) (f : FeatId) (n : List ℕ) → name_of ns f ≡ Some n
      → option_map (name_of ns) (if b then Some f else None) ≡ option_map Some (if b then Some n else None)
  if_named true f n e = ap Some e
  if_named false f n e = refl

  agreed_named : (fs : List FeatId) (ms : List (List ℕ)) → names_of ns fs ≡ map Some ms
      → option_map (name_of ns) (agreed_feature fs) ≡ option_map Some (agreed ms)
  agreed_named [] [] h = refl
  agreed_named [] (m ∷ ms) h = absurd (cc)
  agreed_named (f ∷ fs) [] h = absurd (cc)
  agreed_named (f ∷ fs) (m ∷ ms) h =
      let first : name_of ns f ≡ Some m = cc in
      let rest : names_of ns fs ≡ map Some ms = cc in
      if_named (list_all (λ g. f.0 == g.0) fs) f m first
      ∙ ap (λ b. option_map Some (if b then Some m else None)) (all_same f m first fs ms rest)

  module _ (ps : List ParentT) (flags : List Bool) (are : flags ≡ map (is_selected_in ps) ns) where
    flag_is : (f : FeatId) (n : List ℕ) → name_of ns f ≡ Some n → is_flagged flags f ≡ is_selected_in ps n
    flag_is f n e =
        get_or_from_slice_get flags f.0 (is_selected_in ps n) false
        (ap (λ xs. slice_get xs f.0) are
        ∙ (slice_get-map (is_selected_in ps) ns f.0 ∙ ap (option_map (is_selected_in ps)) e))

    chosen_more : (b : Bool) (f : FeatId) (n : List ℕ) (fs : List FeatId) (ms : List (List ℕ)) → name_of ns f ≡ Some n
        → names_of ns fs ≡ map Some ms
        → names_of ns (cond b (f ∷ fs) fs) ≡ map Some (cond b (n ∷ ms) ms)
    chosen_more true f n fs ms e h = ap₂ ◌∷◌ e h
    chosen_more false f n fs ms e h = h

    chosen_named : (fs : List FeatId) (ms : List (List ℕ)) → names_of ns fs ≡ map Some ms
        → names_of ns (filter (is_flagged flags) fs) ≡ map Some (filter (is_selected_in ps) ms)
    chosen_named [] [] h = refl
    chosen_named [] (m ∷ ms) h = absurd (cc)
    chosen_named (f ∷ fs) [] h = absurd (cc)
    chosen_named (f ∷ fs) (m ∷ ms) h =
        let first : name_of ns f ≡ Some m = cc in
        let rest : names_of ns fs ≡ map Some ms = cc in
        chosen_more (is_flagged flags f) f m (filter (is_flagged flags) fs) (filter (is_selected_in ps) ms) first
        (chosen_named fs ms rest)
        ∙ ap (λ b. map Some (cond b (m ∷ filter (is_selected_in ps) ms) (filter (is_selected_in ps) ms)))
        (flag_is f m first)

    or_named : (a b : Option FeatId) (m n : Option (List ℕ)) → option_map (name_of ns) a ≡ option_map Some m
        → option_map (name_of ns) b ≡ option_map Some n
        → option_map (name_of ns) (option_or a b) ≡ option_map Some (option_or m n)
    or_named None b None n e h = h
    or_named None b (Some m) n e h = absurd (cc)
    or_named (Some f) b None n e h = absurd (cc)
    or_named (Some f) b (Some m) n e h = e

    named_by : (o : Option FeatId) (m : Option (List ℕ)) → option_map (name_of ns) o ≡ option_map Some m
        → option_and_then (name_of ns) o ≡ m
    named_by None None e = refl
    named_by None (Some m) e = absurd (cc)
    named_by (Some f) None e = absurd (cc)
    named_by (Some f) (Some m) e = cc

    pub picked_named : (fs : List FeatId) (ms : List (List ℕ)) → names_of ns fs ≡ map Some ms
        → option_and_then (name_of ns) (picked_feature flags fs) ≡ picked ps ms
    picked_named fs ms h =
        named_by (picked_feature flags fs) (picked ps ms)
        (or_named (agreed_feature fs) (agreed_feature (filter (is_flagged flags) fs)) (agreed ms)
        (agreed (filter (is_selected_in ps) ms)) (agreed_named fs ms h)
        (agreed_named (filter (is_flagged flags) fs) (filter (is_selected_in ps) ms) (chosen_named fs ms h)))
