-- Entries that are put among those of their names.
use Rattle.std.proofs.Common.{◌≡◌, ℕ, zero, suc, Bool, true, false, List, [], ◌∷◌, ◌++◌, length, map, Option, Some, None, refl, sym, ap, ap₂, subst, ◌∙◌, append_assoc}
use Rattle.std.specs.Prelude.{◌==◌, cond, if◌then◌else◌, slice_get, slice_set, Vec}
use Rattle.std.proofs.Math.Dec.{eqb-suc-suc, eqb-suc-zero, eqb-zero-suc}
use Rattle.std.specs.List.{cons_option, filter, filter_map, flat_map}
use Rattle.std.specs.Option.{option_map, option_map_or}
use Rattle.std.specs.Str.{bytes_eq}
use Rattle.std.proofs.lemmas.Bool.{eqb-true, eq-eqb}
use Rattle.std.proofs.lemmas.Cmp.{nat_list_cmp_total}
use Rattle.std.proofs.lemmas.List.{append-nil, map-append}
use Rattle.std.proofs.lemmas.List.Concat.{flat_map-append}
use Rattle.std.proofs.lemmas.List.Elements.{filter_map-append}
use Rattle.std.proofs.lemmas.Option.{same_Some}
use Rattle.eif_base.specs.declared.feat_id.FeatId.{FeatId}
use Rattle.eif_binding_laws.proofs.Searches.{apart, bytes_same, same_bytes}
use Rattle.eif_classes.specs.Entries.{Entry, Feature, entry, entries_of}
use Rattle.eif_classes.specs.Features.{features, names}
use Rattle.eif_classes.specs.Names.{final_name}
use Rattle.eif_classes.specs.Resolution.{clause_actuals}
use Rattle.eif_classes.specs.Signatures.{Signature, SignedEntry, signature, signed, signed_entries}
use Rattle.eif_lineage_laws.proofs.Descending.{lines_of}
use Rattle.eif_redecl.specs.EntryViews.{AreSeen, entry_view, seen}
use Rattle.eif_redecl.specs.SeenClauses.{AreGroups, group_at, named, signed_by, signed_of}
use Rattle.eif_redecl.specs.declared.entry.SeenEntry.{SeenEntry}
use Rattle.eif_rows.proofs.ClassSets.{rising-names}
use Rattle.eif_rows.proofs.RisingLists.{one_place}
use Rattle.eif_rows.specs.Numbers.{name_of}
use Rattle.eif_system.specs.Inheritance.{parent_number}
use Rattle.eif_system.specs.Lineage.{Line, line_by, line_of}
use Rattle.eif_tree.specs.Tree.{ParentT, ClassT}
use Rattle.eif_tree.specs.View.{parent_view}
use Rattle.eif_tree.specs.declared.class.ParentClause.{ParentClause}

named_append : (n : List ℕ) (es fs : List SignedEntry) → named n (es ++ fs) ≡ named n es ++ named n fs
named_append n [] fs = refl
named_append n (e ∷ es) fs = go (bytes_eq e.entry.final n) (named_append n es fs)
  where
    go : (b : Bool) → named n (es ++ fs) ≡ named n es ++ named n fs →
        cond b (e ∷ named n (es ++ fs)) (named n (es ++ fs)) ≡ cond b (e ∷ named n es) (named n es) ++ named n fs
    go true h = ap (λ zs. e ∷ zs) h
    go false h = h

-- ---- one entry more

abbrev items_at : {Z : Type 0} → List (Vec SeenEntry Z) → ℕ → List SeenEntry
items_at groups j = option_map_or (λ group. group.items) (slice_get groups j) []

set_at : {Z : Type 0} (groups : List (Vec SeenEntry Z)) (i : ℕ) (old new : Vec SeenEntry Z) (e : SeenEntry) →
    slice_get groups i ≡ Some old → new.items ≡ old.items ++ e ∷ [] → (j : ℕ) →
    items_at (slice_set groups i new) j ≡ items_at groups j ++ (if j == i then e ∷ [] else [])
set_at [] i old new e at more j = cc
set_at (g ∷ gs) zero old new e at more zero =
    more ∙ ap (λ (g : Vec SeenEntry _). g.items ++ e ∷ []) (sym (same_Some g old at))
set_at (g ∷ gs) zero old new e at more (suc j) =
    sym (append-nil (items_at gs j))
    ∙ ap (λ b. items_at gs j ++ (if b then e ∷ [] else [])) (sym (eqb-suc-zero j))
set_at (g ∷ gs) (suc i) old new e at more zero =
    sym (append-nil g.items) ∙ ap (λ b. g.items ++ (if b then e ∷ [] else [])) (sym (eqb-zero-suc i))
set_at (g ∷ gs) (suc i) old new e at more (suc j) =
    set_at gs i old new e at more j
    ∙ ap (λ b. items_at gs j ++ (if b then e ∷ [] else [])) (sym (eqb-suc-suc j i))

pub group_set : {Z : Type 0} (groups : List (Vec SeenEntry Z)) (i : ℕ) (old new : Vec SeenEntry Z) (e : SeenEntry) →
    slice_get groups i ≡ Some old → new.items ≡ old.items ++ e ∷ [] → (f : FeatId) →
    group_at (slice_set groups i new) f ≡ group_at groups f ++ (if f.0 == i then e ∷ [] else [])
group_set groups i old new e at more f = set_at groups i old new e at more f.0

module _ (u : List ClassT) (d : ℕ) where
  -- a class has each name once
  one_number : (i j : ℕ) (n : List ℕ) → slice_get (names (line_of u d)) i ≡ Some n →
      slice_get (names (line_of u d)) j ≡ Some n → i ≡ j
  one_number i j n e g = one_place nat_list_cmp_total (names (line_of u d)) (rising-names (line_of u d)) i j n e g

  module _ (s : SignedEntry) (e : SeenEntry) (number : FeatId)
      (at : name_of (names (line_of u d)) number ≡ Some s.entry.final) (is : entry_view e ≡ seen s) where
    this_one : (f : FeatId) (n : List ℕ) → name_of (names (line_of u d)) f ≡ Some n →
        map entry_view (if f.0 == number.0 then e ∷ [] else []) ≡ map seen (named n (s ∷ []))
    this_one f n named_so = go (f.0 == number.0) (bytes_eq s.entry.final n) refl refl
      where
        go : (a b : Bool) → (f.0 == number.0) ≡ a → bytes_eq s.entry.final n ≡ b →
            map entry_view (if a then e ∷ [] else []) ≡ map seen (cond b (s ∷ []) [])
        go true true x y = ap (λ v. v ∷ []) is
        go false false x y = refl
        go true false x y =
            let same : n ≡ s.entry.final = same_Some n s.entry.final
            (sym named_so ∙ (ap (slice_get (names (line_of u d))) (eqb-true f.0 number.0 x) ∙ at)) in
            absurd (apart (bytes_eq s.entry.final n)
            (subst (λ m. bytes_eq s.entry.final m ≡ true) (sym same) (bytes_same s.entry.final)) y)
        go false true x y =
            let one = one_number f.0 number.0 n named_so (at ∙ ap Some (same_bytes s.entry.final n y)) in
            absurd (apart (f.0 == number.0) (eq-eqb f.0 number.0 one) x)

    pub entry_added : {Z : Type 0} (old new : List (Vec SeenEntry Z)) (es : List SignedEntry) →
        ((f : FeatId) → group_at new f ≡ group_at old f ++ (if f.0 == number.0 then e ∷ [] else [])) →
        AreGroups u d old es → AreGroups u d new (es ++ s ∷ [])
    entry_added old new es added are f n named_so =
        ap (map entry_view) (added f)
        ∙ (map-append entry_view (group_at old f) (if f.0 == number.0 then e ∷ [] else [])
        ∙ (ap₂ ◌++◌ (are f n named_so) (this_one f n named_so)
        ∙ (sym (map-append seen (named n es) (named n (s ∷ [])))
        ∙ ap (map seen) (sym (named_append n es (s ∷ []))))))

  pub no_entry : {Z : Type 0} (groups : List (Vec SeenEntry Z)) → ((f : FeatId) → group_at groups f ≡ []) →
      AreGroups u d groups []
  no_entry groups none f n named_so = ap (map entry_view) (none f)

-- ---- the entries of a clause

module _ (u : List ClassT) (c : ClassT) (p : ParentT) where
  -- of one feature, which has a signature
  pub one_signed : (l : Line) (x : Feature) (t : Signature) → signature u l x.name ≡ Some t →
      signed (clause_actuals u c p) (entry p x) t ∷ [] ≡ signed_by u c p l (x ∷ [])
  one_signed l x t e =
      ap (λ o. cons_option (option_map (signed (clause_actuals u c p) (entry p x)) o) []) (sym e)

  pub one_more : (l : Line) (es : List SignedEntry) (fs : List Feature) (x : Feature) →
      (es ++ signed_by u c p l fs) ++ signed_by u c p l (x ∷ []) ≡ es ++ signed_by u c p l (fs ++ x ∷ [])
  one_more l es fs x =
      append_assoc es (signed_by u c p l fs) (signed_by u c p l (x ∷ []))
      ∙ ap (λ zs. es ++ zs) (sym (filter_map-append
      (λ (f : Feature). option_map (signed (clause_actuals u c p) (entry p f)) (signature u l f.name)) fs (x ∷ [])))

  pub all_of : (k : ℕ) → parent_number u c p ≡ Some k →
      signed_by u c p (line_of u k) (features (line_of u k)) ≡ signed_of u c p
  all_of k number = ap (λ o. signed_by u c p (line_by (line_of u) o) (features (line_by (line_of u) o))) (sym number)

  -- those of a name
  module _ (n : List ℕ) (l : Line) where
    abbrev by_name : List Entry → List SignedEntry
    by_name es = filter_map (λ e. option_map (signed (clause_actuals u c p) e) (signature u l e.feature.name)) es

    named_signed : (fs : List Feature) → named n (signed_by u c p l fs) ≡ by_name (entries_of n (map (entry p) fs))
    named_signed [] = refl
    named_signed (f ∷ fs) = go (signature u l f.name) refl (bytes_eq (final_name p f.name) n) refl (named_signed fs)
      where
        go : (o : Option Signature) → signature u l f.name ≡ o → (b : Bool) → bytes_eq (final_name p f.name) n ≡ b →
            named n (signed_by u c p l fs) ≡ by_name (entries_of n (map (entry p) fs)) →
            named n (cons_option (option_map (signed (clause_actuals u c p) (entry p f)) o) (signed_by u c p l fs))
            ≡ by_name (cond b (entry p f ∷ entries_of n (map (entry p) fs)) (entries_of n (map (entry p) fs)))
        go None e false g h = h
        go None e true g h =
            h ∙ ap (λ o. cons_option (option_map (signed (clause_actuals u c p) (entry p f)) o)
            (by_name (entries_of n (map (entry p) fs)))) (sym e)
        go (Some s) e false g h =
            ap (λ b. cond b (signed (clause_actuals u c p) (entry p f) s ∷ named n (signed_by u c p l fs))
            (named n (signed_by u c p l fs))) g ∙ h
        go (Some s) e true g h =
            ap (λ b. cond b (signed (clause_actuals u c p) (entry p f) s ∷ named n (signed_by u c p l fs))
            (named n (signed_by u c p l fs))) g
            ∙ (ap (λ zs. signed (clause_actuals u c p) (entry p f) s ∷ zs) h
            ∙ ap (λ o. cons_option (option_map (signed (clause_actuals u c p) (entry p f)) o)
            (by_name (entries_of n (map (entry p) fs)))) (sym e))

-- of one clause more
pub clause_more : (u : List ClassT) (c : ClassT) (ts : List ParentClause) (t : ParentClause) →
    flat_map (signed_of u c) (map parent_view ts) ++ signed_of u c (parent_view t)
    ≡ flat_map (signed_of u c) (map parent_view (ts ++ t ∷ []))
clause_more u c ts t =
    ap (λ es. flat_map (signed_of u c) (map parent_view ts) ++ es) (sym (append-nil (signed_of u c (parent_view t))))
    ∙ (sym (flat_map-append (signed_of u c) (map parent_view ts) (parent_view t ∷ []))
    ∙ ap (flat_map (signed_of u c)) (sym (map-append parent_view ts (t ∷ []))))

-- the entries of a name by all clauses
pub named_entries : (u : List ClassT) (c : ClassT) (n : List ℕ) (ps : List ParentT) →
    named n (flat_map (signed_of u c) ps) ≡ signed_entries u c (lines_of u c ps) n
named_entries u c n [] = refl
named_entries u c n (p ∷ ps) =
    let l = line_by (line_of u) (parent_number u c p) in
    named_append n (signed_of u c p) (flat_map (signed_of u c) ps)
    ∙ ap₂ ◌++◌ (named_signed u c p n l (features l)) (named_entries u c n ps)
