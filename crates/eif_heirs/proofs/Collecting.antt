-- What is collected under the number of a name is what the name stands for.
use Rattle.std.proofs.Common.{◌≡◌, ℕ, zero, suc, ◌+◌, ◌<◌, Bool, true, false, cond, List, [], ◌∷◌, ◌++◌, length, map, Some, refl, sym, ap, ap₂, ◌∙◌, arith}
use Rattle.std.specs.Prelude.{◌==◌, slice_get, Vec, if◌then◌else◌}
use Rattle.std.specs.List.{position_from}
use Rattle.std.specs.List.Sorted.{IsStrictlySortedBy}
use Rattle.std.specs.Option.{option_and_then, option_map, option_map_or}
use Rattle.std.specs.Str.{bytes_eq}
use Rattle.std.proofs.lemmas.List.{map-append}
use Rattle.std.proofs.lemmas.List.Elements.{filter-append}
use Rattle.std.proofs.lemmas.Option.{same_Some, slice_get-map, slice_get_within}
use Rattle.eif_base.specs.declared.feat_id.FeatId.{FeatId}
use Rattle.eif_classes.specs.Entries.{Feature, entries_of, entry}
use Rattle.eif_classes.specs.Features.{entries, features}
use Rattle.eif_classes.specs.Names.{final_name, name_cmp}
use Rattle.eif_feature_rules.specs.RuleForms.{DeclaredName, declared_here}
use Rattle.eif_heirs.specs.Clauses.{IsClause, clause_at, entry_at, ups_in}
use Rattle.eif_heirs.specs.Heirs.{AreSources}
use Rattle.eif_heirs.specs.Numbered.{AreBelow, collected, declared_under, ids_from, ids_under}
use Rattle.eif_heirs.specs.declared.clauses.Clause.{Clause}
use Rattle.eif_heirs.specs.declared.heir.NameSources.{NameSources}
use Rattle.eif_heirs.proofs.SameNames.{same_places}
use Rattle.eif_heirs.proofs.Texts.{finals_of_clause, line_up, map_twice}
use Rattle.eif_rows.specs.Matched.{Match}
use Rattle.eif_rows.specs.Numbers.{names_of}
use Rattle.eif_rows.proofs.Matches.{Match-from_places}
use Rattle.eif_system.specs.Inheritance.{clauses}
use Rattle.eif_system.specs.Lineage.{Line, Ups, ups_by}
use Rattle.eif_tree.specs.Tree.{ClassT, ParentT}

-- ---- numbers of names are below their count

pub below-from_names : (ns : List (List ℕ)) (fs : List FeatId) (ms : List (List ℕ)) → names_of ns fs ≡ map Some ms
    → AreBelow (length ns) fs
below-from_names ns [] ms e k d l = absurd (omega arith)
below-from_names ns (f ∷ fs) [] e k d l = absurd (cc)
below-from_names ns (f ∷ fs) (m ∷ ms) e zero d l =
    let at : slice_get ns f.0 ≡ Some m = cc in slice_get_within ns f.0 m at
below-from_names ns (f ∷ fs) (m ∷ ms) e (suc k) d l =
    let rest : names_of ns fs ≡ map Some ms = cc in below-from_names ns fs ms rest k d (omega arith)

-- ---- under one number

module _ (ns : List (List ℕ)) (up : IsStrictlySortedBy name_cmp ns) (k : ℕ) (n : List ℕ) (at : slice_get ns k
    ≡ Some n) where
  -- the first declared name with the number is the first with the name
  pub declared-under : (i : ℕ) (fs : List FeatId) (ys : List DeclaredName)
      → names_of ns fs ≡ map (λ y. Some y.name.name) ys
      → position_from (λ f. f.0 == k) i fs ≡ position_from (λ y. bytes_eq y.name.name n) i ys
  declared-under i [] [] e = refl
  declared-under i [] (y ∷ ys) e = absurd (cc)
  declared-under i (f ∷ fs) [] e = absurd (cc)
  declared-under i (f ∷ fs) (y ∷ ys) e =
      let here : slice_get ns f.0 ≡ Some y.name.name = cc in
      let rest : names_of ns fs ≡ map (λ y. Some y.name.name) ys = cc in
      ap₂ (λ b o. cond b (Some i) o) (same_places ns up f.0 k y.name.name n here at) (declared-under (i + 1) fs ys rest)

  module _ (whole : Ups) where
    -- the entries of a clause, from the feature j on
    entries-from : (i : ℕ) (p : ParentT) (l : Line) → clause_at whole i ≡ Some (p, l)
        → (j : ℕ) (fs : List FeatId) (gs : List Feature)
        → ((m t : ℕ) → t ≡ j + m → slice_get (features l) t ≡ slice_get gs m)
        → names_of ns fs ≡ map (λ g. Some (final_name p g.name)) gs
        → map (entry_at whole) (ids_from k i j fs) ≡ map Some (entries_of n (map (entry p) gs))
    entries-from i p l there j [] [] end e = refl
    entries-from i p l there j [] (g ∷ gs) end e = absurd (cc)
    entries-from i p l there j (f ∷ fs) [] end e = absurd (cc)
    entries-from i p l there j (f ∷ fs) (g ∷ gs) end e =
        let here : slice_get ns f.0 ≡ Some (final_name p g.name) = cc in
        let rest : names_of ns fs ≡ map (λ g. Some (final_name p g.name)) gs = cc in
        let found : entry_at whole (record { clause = i; feat = record { 0 = j } }) ≡ Some (entry p g) =
        ap (option_and_then (λ (x : ParentT × Line). option_map (entry x.0) (slice_get (features x.1) j))) there
        ∙ ap (option_map (entry p)) (end 0 j (omega arith)) in
        go (f.0 == k) (bytes_eq (final_name p g.name) n) (same_places ns up f.0 k (final_name p g.name) n here at) found
        (entries-from i p l there (j + 1) fs gs (λ m t q. end (suc m) t (omega arith)) rest)
      where
        go : (b d : Bool) → b ≡ d
            → entry_at whole (record { clause = i; feat = record { 0 = j } }) ≡ Some (entry p g)
            → map (entry_at whole) (ids_from k i (j + 1) fs) ≡ map Some (entries_of n (map (entry p) gs))
            → map (entry_at whole)
            ((if b then record { clause = i; feat = record { 0 = j } } ∷ [] else []) ++ ids_from k i (j + 1) fs)
            ≡ map Some (cond d (entry p g ∷ entries_of n (map (entry p) gs)) (entries_of n (map (entry p) gs)))
        go true true q found rest = ap₂ ◌∷◌ found rest
        go false false q found rest = rest
        go true false q found rest = absurd (cc)
        go false true q found rest = absurd (cc)

    -- those of the clauses from the clause i on
    pub entries-under : {Z : Type 0} (u : List ClassT) (c : ClassT) (i : ℕ) (finals : List (Vec FeatId Z))
        (xs : List Clause) (ps : List ParentT)
        → ((m t : ℕ) → t ≡ i + m → clause_at whole t ≡ clause_at (ups_by (line_up u c) ps) m)
        → Match (λ fs x. names_of ns fs.items ≡ map (λ a. Some a.final_name) x.adapted.items) finals xs
        → Match (IsClause u c) xs ps
        → map (entry_at whole) (ids_under k i finals) ≡ map Some (entries_of n (entries (ups_by (line_up u c) ps)))
    entries-under u c i [] [] [] end f h = refl
    entries-under u c i [] (x ∷ xs) ps end f h = absurd f
    entries-under u c i (fs ∷ finals) [] ps end f h = absurd f
    entries-under u c i finals [] (p ∷ ps) end f h = absurd h
    entries-under u c i finals (x ∷ xs) [] end f h = absurd h
    entries-under u c i (fs ∷ finals) (x ∷ xs) (p ∷ ps) end f h =
        let l = line_up u c p in
        let named : names_of ns fs.items ≡ map (λ g. Some (final_name p g.name)) (features l) =
        f.0
        ∙ (sym (map_twice Some (λ a. a.final_name) x.adapted.items)
        ∙ (ap (map Some) (finals_of_clause u c x p h.0)
        ∙ (map_twice Some (λ e. e.final) (map (entry p) (features l))
        ∙ map_twice (λ e. Some e.final) (entry p) (features l)))) in
        map-append (entry_at whole) (ids_from k i 0 fs.items) (ids_under k (i + 1) finals)
        ∙ (ap₂ ◌++◌
        (entries-from i p l (end 0 i (omega arith)) 0 fs.items (features l)
        (λ m t q. ap (slice_get (features l)) (let same : t ≡ m = omega arith in same)) named)
        (entries-under u c (i + 1) finals xs ps (λ m t q. end (suc m) t (omega arith)) f.1 h.1)
        ∙ (sym (map-append Some (entries_of n (map (entry p) (features l))) (entries_of n (entries (ups_by
        (line_up u c) ps))))
        ∙ ap (map Some) (sym (filter-append (λ e. bytes_eq e.final n) (map (entry p) (features l))
        (entries (ups_by (line_up u c) ps))))))

-- ---- under all numbers

pub sources_found : {Z : Type 0} (u : List ClassT) (c : ClassT) (ns : List (List ℕ)) → IsStrictlySortedBy name_cmp ns
    → (numbers : List FeatId) (finals : List (Vec FeatId Z)) (xs : List Clause) (sources : List NameSources)
    → names_of ns numbers ≡ map (λ y. Some y.name.name) (declared_here c)
    → Match (λ fs x. names_of ns fs.items ≡ map (λ a. Some a.final_name) x.adapted.items) finals xs
    → Match (IsClause u c) xs (clauses c)
    → length sources ≡ length ns
    → ((k : ℕ) → k < length ns
    → slice_get (declared_under sources) k ≡ Some (position_from (λ f. f.0 == k) 0 numbers))
    → ((k : ℕ) → collected sources k ≡ ids_under k 0 finals)
    → Match (AreSources u c) sources ns
sources_found u c ns up numbers finals xs sources named f h long declared collects =
    Match-from_places (AreSources u c) sources ns long (λ k s n s_at n_at. record {
      declared_is =
          let here : Some s.declared ≡ Some (position_from (λ f. f.0 == k) 0 numbers) =
          sym (slice_get-map (λ (s : NameSources). s.declared) sources k ∙ ap (option_map (λ s. s.declared)) s_at)
          ∙ declared k (slice_get_within ns k n n_at) in
          same_Some s.declared (position_from (λ f. f.0 == k) 0 numbers) here
          ∙ declared-under ns up k n n_at 0 numbers (declared_here c) named;
      entries_are =
          ap (map (entry_at (ups_in u c)))
          (sym (ap (λ o. option_map_or (λ (s : NameSources). s.entries.items) o []) s_at) ∙ collects k)
          ∙ entries-under ns up k n n_at (ups_in u c) u c 0 finals xs (clauses c)
          (λ m t q. ap (clause_at (ups_in u c)) (let same : t ≡ m = omega arith in same)) f h;
    })
