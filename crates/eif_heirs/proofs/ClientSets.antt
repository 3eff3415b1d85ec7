-- Whom a feature is available to, by the numbers of its clients.
use Rattle.std.proofs.Common.{◌≡◌, ℕ, Bool, true, false, cond, List, [], ◌∷◌, ◌++◌, map, Option, Some, None, refl, sym, ap, ap₂, ◌∙◌}
use Rattle.std.specs.Prelude.{◌||◌, flat_map, if◌then◌else◌}
use Rattle.std.specs.List.{cons_option, filter_map, list_any}
use Rattle.std.specs.Option.{option_and_then, option_map, option_map_or}
use Rattle.std.specs.Ordering.{nat_cmp}
use Rattle.std.specs.Str.{bytes_eq}
use Rattle.std.proofs.lemmas.List.Elements.{filter-append}
use Rattle.std.proofs.lemmas.List.Folds.{list_any-append}
use Rattle.eif_classes.specs.Clients.{client_names, clients, entry_clients, export_item, inherited_clients, is_client}
use Rattle.eif_classes.specs.Descent.{descends}
use Rattle.eif_classes.specs.Entries.{Entry, Feature, entries_of, entry}
use Rattle.eif_classes.specs.Features.{entries, features}
use Rattle.eif_classes.specs.Names.{name_set}
use Rattle.eif_classes.specs.RisingLists.{in_order}
use Rattle.eif_heirs.specs.EntryParts.{adapted_at, entry_classes, inherited_classes, listed_classes, parent_classes}
use Rattle.eif_heirs.specs.declared.heir.EntryId.{EntryId}
use Rattle.eif_heirs.specs.declared.heir.Heir.{Heir}
use Rattle.eif_heirs.proofs.FoundEntries.{Found}
use Rattle.eif_heirs.proofs.Pairs.{list_any-Match}
use Rattle.eif_heirs.proofs.Texts.{line_up}
use Rattle.eif_lineage_laws.proofs.KernelClasses.{any_first}
use Rattle.eif_rows.specs.Matched.{Match}
use Rattle.eif_rows.specs.Numbers.{class_numbers}
use Rattle.eif_rows.specs.Systems.{IsSystem}
use Rattle.eif_rows.proofs.RisingLists.{list_any-in_order, name_order, number_order}
use Rattle.eif_system.specs.Kernel.{any_name}
use Rattle.eif_system.specs.Lineage.{line_by, line_of, ups_by}
use Rattle.eif_system.specs.Universe.{class_number}
use Rattle.eif_tree.specs.Tree.{ClassT, ClientsT, ExportT, ParentT}
use Rattle.eif_tree.specs.View.{class_view, clients_view}
use Rattle.eif_tree.specs.declared.class.Clients.{Clients}

-- a list that is not written is ANY
pub any_listed : (u : List ClassT) → IsSystem u → (cs : ClientsT) → cs.stated ≡ false → listed_classes u cs ≡ 0 ∷ []
any_listed u s cs e =
    ap (λ b. filter_map (class_number u) (if b then map (λ n. n.name) cs.names else any_name ∷ [])) e
    ∙ ap (λ o. cons_option o []) (ap (λ v. class_number v any_name) s.is ∙ any_first s.given)

module _ (u : List ClassT) (k : ℕ) where
  -- the class k is the class of the name, or descends from it
  abbrev is_named : List ℕ → Bool
  is_named n = option_map_or (descends (line_of u k)) (class_number u n) false

  -- it is or descends from one of the classes
  abbrev pub is_heir_of_any : List ℕ → Bool
  is_heir_of_any cs = list_any (descends (line_of u k)) cs

  any_cons_option : (o : Option ℕ) (cs : List ℕ)
      → is_heir_of_any (cons_option o cs) ≡ (option_map_or (descends (line_of u k)) o false || is_heir_of_any cs)
  any_cons_option None cs = refl
  any_cons_option (Some c) cs = refl

  client_by_names : (ns : List (List ℕ)) → is_client u ns k ≡ list_any is_named ns
  client_by_names [] = refl
  client_by_names (n ∷ ns) =
      any_cons_option (class_number u n) (filter_map (class_number u) ns)
      ∙ ap (λ b. is_named n || b) (client_by_names ns)

  -- the order of names and their repetition mean nothing
  pub client_of_set : (ns : List (List ℕ)) → is_client u (name_set ns) k ≡ is_client u ns k
  client_of_set ns =
      client_by_names (name_set ns) ∙ (list_any-in_order name_order is_named ns ∙ sym (client_by_names ns))

  client-append : (ns ms : List (List ℕ)) → is_client u (ns ++ ms) k ≡ (is_client u ns k || is_client u ms k)
  client-append ns ms =
      client_by_names (ns ++ ms)
      ∙ (list_any-append is_named ns ms ∙ sym (ap₂ ◌||◌ (client_by_names ns) (client_by_names ms)))

  pub client_of_ordered : (cs : List ℕ) → is_heir_of_any (in_order nat_cmp cs) ≡ is_heir_of_any cs
  client_of_ordered cs = list_any-in_order number_order (descends (line_of u k)) cs

  -- ---- of the entries of a name

  module _ (c : ClassT) where
    -- the clients that an entry gives
    abbrev given_by : Entry → List (List ℕ)
    given_by e = entry_clients e (clients (line_up u c e.clause) e.feature.name)

    abbrev pub is_given : Entry → Bool
    is_given e = is_client u (given_by e) k

    of_clause : (p : ParentT) (n : List ℕ) (fs : List Feature)
        → is_client u
        (flat_map (λ e. entry_clients e (clients (line_up u c p) e.feature.name)) (entries_of n (map (entry p) fs))) k
        ≡ list_any is_given (entries_of n (map (entry p) fs))
    of_clause p n [] = refl
    of_clause p n (f ∷ fs) = go (bytes_eq (entry p f).final n) (of_clause p n fs)
      where
        go : (b : Bool)
            → is_client u
            (flat_map (λ e. entry_clients e (clients (line_up u c p) e.feature.name)) (entries_of n (map
            (entry p) fs))) k
            ≡ list_any is_given (entries_of n (map (entry p) fs))
            → is_client u (flat_map (λ e. entry_clients e (clients (line_up u c p) e.feature.name))
            (cond b (entry p f ∷ entries_of n (map (entry p) fs)) (entries_of n (map (entry p) fs)))) k
            ≡ list_any is_given (cond b (entry p f ∷ entries_of n (map (entry p) fs)) (entries_of n (map (entry p) fs)))
        go true rest =
            client-append (given_by (entry p f))
            (flat_map (λ e. entry_clients e (clients (line_up u c p) e.feature.name)) (entries_of n (map (entry p) fs)))
            ∙ ap (λ b. is_given (entry p f) || b) rest
        go false rest = rest

    pub inherited_by : (n : List ℕ) (ps : List ParentT)
        → is_client u (inherited_clients (ups_by (line_up u c) ps) n) k
        ≡ list_any is_given (entries_of n (entries (ups_by (line_up u c) ps)))
    inherited_by n [] = refl
    inherited_by n (p ∷ ps) =
        client-append
        (flat_map (λ e. entry_clients e (clients (line_up u c p) e.feature.name))
        (entries_of n (map (entry p) (features (line_up u c p)))))
        (inherited_clients (ups_by (line_up u c) ps) n)
        ∙ (ap₂ ◌||◌ (of_clause p n (features (line_up u c p))) (inherited_by n ps)
        ∙ (sym (list_any-append is_given (entries_of n (map (entry p) (features (line_up u c p))))
        (entries_of n (entries (ups_by (line_up u c) ps))))
        ∙ ap (list_any is_given) (sym (filter-append (λ e. bytes_eq e.final n)
        (map (entry p) (features (line_up u c p))) (entries (ups_by (line_up u c) ps))))))

  -- ---- by the numbers of entries

  exported : (o : Option Clients) (q : Option ExportT) (cs : List ℕ) (ns : List (List ℕ))
      → option_map clients_view o ≡ option_map (λ x. x.clients) q → is_heir_of_any cs ≡ is_client u ns k
      → is_heir_of_any (option_map_or (λ x. listed_classes u (clients_view x)) o cs)
      ≡ is_client u (option_map_or (λ x. client_names x.clients) q ns) k
  exported None None cs ns e h = h
  exported (Some x) (Some y) cs ns e h =
      let same : clients_view x ≡ y.clients = cc in
      ap (λ z. is_heir_of_any (listed_classes u z)) same
  exported None (Some y) cs ns e h = absurd (cc)
  exported (Some x) None cs ns e h = absurd (cc)

  module _ (h : Heir) where
    by_entry : (id : EntryId) (e : Entry) → Found u h id e
        → is_heir_of_any (entry_classes u h id) ≡ is_given (class_view h.tree.now) e
    by_entry id e f =
        exported (option_and_then (λ a. a.clients) (adapted_at h id)) (export_item e.clause e.final)
        (parent_classes h id) (clients (line_up u (class_view h.tree.now) e.clause) e.feature.name)
        (ap (λ o. option_map clients_view (option_and_then (λ a. a.clients) o)) f.adapted_is ∙ f.clients_are)
        (ap (λ o. is_heir_of_any (option_map_or (λ r. class_numbers r.clients.items) o [])) f.row_is
        ∙ (f.of_row.clients k
        ∙ ap (λ o. is_client u (clients (line_by (line_of u) o) e.feature.name) k) (sym f.number_is)))

    by_entries : (ids : List EntryId)
        → is_heir_of_any (inherited_classes u h ids) ≡ list_any (λ id. is_heir_of_any (entry_classes u h id)) ids
    by_entries [] = refl
    by_entries (id ∷ ids) =
        list_any-append (descends (line_of u k)) (entry_classes u h id) (inherited_classes u h ids)
        ∙ ap (λ b. is_heir_of_any (entry_classes u h id) || b) (by_entries ids)

    -- of entries by numbers
    pub clients_found : (ids : List EntryId) (n : List ℕ) (ps : List ParentT)
        → Match (Found u h) ids (entries_of n (entries (ups_by (line_up u (class_view h.tree.now)) ps)))
        → is_heir_of_any (in_order nat_cmp (inherited_classes u h ids))
        ≡ is_client u (name_set (inherited_clients (ups_by (line_up u (class_view h.tree.now)) ps) n)) k
    clients_found ids n ps f =
        client_of_ordered (inherited_classes u h ids)
        ∙ (by_entries ids
        ∙ (list_any-Match (Found u h) (λ id. is_heir_of_any (entry_classes u h id)) (is_given (class_view h.tree.now))
        by_entry ids (entries_of n (entries (ups_by (line_up u (class_view h.tree.now)) ps))) f
        ∙ (sym (inherited_by (class_view h.tree.now) n ps)
        ∙ sym (client_of_set (inherited_clients (ups_by (line_up u (class_view h.tree.now)) ps) n)))))
