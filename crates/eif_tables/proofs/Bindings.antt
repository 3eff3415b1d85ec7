-- What ancestors' features are bound to.
use Rattle.std.proofs.Common.{◌≡◌, ◌≢◌, ℕ, ◌<◌, ◌≤◌, Bool, true, false, List, length, map, Option, Some, None, refl}
use Rattle.std.proofs.Common.{sym, ap, subst, ◌∙◌}
use Rattle.std.specs.Prelude.{◌==◌, IfNone, IfSome, if◌then◌else◌, slice_get}
use Rattle.std.specs.Option.{option_and_then}
use Rattle.std.proofs.lemmas.Bool.{eq-eqb}
use Rattle.std.proofs.lemmas.Option.{get_or_from_slice_get, slice_get_past, slice_get_within}
use Rattle.eif_base.specs.declared.feat_id.FeatId.{FeatId}
use Rattle.eif_binding_laws.proofs.Bound.{bind_by, bound_by}
use Rattle.eif_classes.specs.Binding.{bind}
use Rattle.eif_classes.specs.Descent.{descends}
use Rattle.eif_classes.specs.Features.{has_feature, names}
use Rattle.eif_lineage_laws.proofs.Unfolding.{class_within, unfolded}
use Rattle.eif_rows.proofs.Matches.{Match-at_second, Match-from_map}
use Rattle.eif_rows.proofs.NameSets.{is_among-from_place}
use Rattle.eif_rows.specs.AncestorRows.{IsAncestorRow, bound_at}
use Rattle.eif_rows.specs.Numbers.{name_of}
use Rattle.eif_rows.specs.Systems.{IsSystem}
use Rattle.eif_rows.specs.declared.ancestor_row.AncestorRow.{AncestorRow}
use Rattle.eif_system.specs.Lineage.{Line, line_of}
use Rattle.eif_table_laws.proofs.Bound.{whole_bound}
use Rattle.eif_table_laws.specs.WholeClasses.{is_whole}
use Rattle.eif_tables.proofs.Held.{item_at, row_of}
use Rattle.eif_tables.specs.TablesOf.{AreTables}
use Rattle.eif_tables.specs.declared.tables.ClassTable.{ClassTable}
use Rattle.eif_tables.specs.declared.tables.Tables.{Tables}
use Rattle.eif_tables.proofs.Descents.{bound_descends, ordered}
use Rattle.eif_tree.specs.Tree.{ClassT}

-- the number at a place of an ancestor's row is that of the bound name
pub bound_name_at : (u : List ClassT) (l : Line) (r : AncestorRow) (k : ℕ) → IsAncestorRow u l r k → (i : ℕ)
    (m : List ℕ) → slice_get (names (line_of u k)) i ≡ Some m
    → option_and_then (name_of (names l)) (bound_at r i) ≡ bind l k m
bound_name_at u l r k is i m at =
    let found = Match-at_second (λ (f : Option FeatId) (m : List ℕ).
    option_and_then (name_of (names l)) f ≡ bind l k m) r.bound.items (names (line_of u k))
    (Match-from_map (λ (f : Option FeatId). option_and_then (name_of (names l)) f) (bind l k) r.bound.items
    (names (line_of u k)) is.bound) i m at in
    ap (option_and_then (name_of (names l))) (get_or_from_slice_get r.bound.items i found.0 None found.1) ∙ found.2

module _ (u : List ClassT) (system : IsSystem u) where
  -- a class's own feature keeps its name
  pub own_bound : (d : ℕ) (m : List ℕ) → d < length u → has_feature (line_of u d) m ≡ true
      → bind (line_of u d) d m ≡ Some m
  own_bound d m within has =
      let o = ordered u system in
      let c = class_within u d within in
      let line = unfolded u o.0 o.1 d c.0 c.1 in
      bind_by u o.0 o.1 d c.0 d m c.1
      ∙ (ap (bound_by u o.0 o.1 d c.0 d m) (eq-eqb d d refl)
      ∙ ap (λ b. if b then Some m else None) (sym (ap (λ l. has_feature l m) line) ∙ has))

  -- where each class is whole, what is bound to nothing is of no ancestor
  pub not_above : ((d : ℕ) → d < length u → is_whole u d ≡ true) → (d k : ℕ) (m : List ℕ)
      → has_feature (line_of u k) m ≡ true → bind (line_of u d) k m ≡ None → descends (line_of u d) k ≡ false
  not_above whole d k m has none = go (descends (line_of u d) k) refl
    where
      bound : descends (line_of u d) k ≡ true
          → (n : List ℕ) × (bind (line_of u d) k m ≡ Some n) × (has_feature (line_of u d) n ≡ true)
      bound down = subst
          (λ v. ((d : ℕ) → d < length v → is_whole v d ≡ true) → (d k : ℕ) (m : List ℕ)
          → descends (line_of v d) k ≡ true → has_feature (line_of v k) m ≡ true
          → (n : List ℕ) × (bind (line_of v d) k m ≡ Some n) × (has_feature (line_of v d) n ≡ true))
          (sym system.is) (whole_bound system.given system.root system.sound) whole d k m down has

      go : (b : Bool) → descends (line_of u d) k ≡ b → descends (line_of u d) k ≡ false
      go true e = let n = bound e in let never = sym none ∙ n.1 in absurd (cc)
      go false e = e

-- ---- what tables tell of a binding

module _ (t : Tables) (c k : ℕ) (f : FeatId) (x y : ClassTable) (x_at : slice_get t.classes.items c ≡ Some x)
    (y_at : slice_get t.classes.items k ≡ Some y) (within : f.0 < length y.row.names.items) where
  abbrev pub IsBound : Option FeatId → Type 0
  IsBound r =
      (u : List ClassT) (m : List ℕ) → AreTables u t → name_of (names (line_of u k)) f ≡ Some m
      → option_and_then (name_of (names (line_of u c))) r ≡ bind (line_of u c) k m

  name_is : (u : List ClassT) → AreTables u t → (m : List ℕ) × (name_of (names (line_of u k)) f ≡ Some m)
  name_is u are = item_at (names (line_of u k)) f.0
      (subst (λ ns. f.0 < length ns) (row_of u t are k y y_at).names_are within)

  pub some_told : (r : Option FeatId) → IfSome r (λ n. n.0 < length x.row.names.items) → IsBound r
      → IfSome r (λ n. (u : List ClassT) → AreTables u t → descends (line_of u c) k ≡ true)
  some_told None below bound = tt
  some_told (Some n) below bound = λ u are.
      let m = name_is u are in
      let name = item_at (names (line_of u c)) n.0
      (subst (λ ns. n.0 < length ns) (row_of u t are c x x_at).names_are below) in
      bound_descends (line_of u c) k m.0 name.0 (sym (bound u m.0 are m.1) ∙ name.1)

  pub none_told : (r : Option FeatId) → IsBound r
      → IfNone r ((u : List ClassT) → AreTables u t → descends (line_of u c) k ≡ false)
  none_told None bound = λ u are.
      let m = name_is u are in
      not_above u are.system are.whole c k m.0 (is_among-from_place (names (line_of u k)) f.0 m.0 m.1)
      (sym (bound u m.0 are m.1))
  none_told (Some n) bound = tt
