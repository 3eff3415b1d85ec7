-- What tables say of a class and of a feature by their numbers.
use Rattle.std.proofs.Common.{◌≡◌, ℕ, zero, suc, ◌<◌, ◌≢◌, Bool, true, false, List, [], ◌∷◌, length, map, Option, Some}
use Rattle.std.proofs.Common.{None, refl, sym, ap, subst, ◌∙◌, arith}
use Rattle.std.specs.Prelude.{slice_get}
use Rattle.std.specs.Option.{option_map}
use Rattle.std.proofs.lemmas.Option.{same_Some, slice_get-map, slice_get_within}
use Rattle.eif_base.specs.Numbering.{is_among}
use Rattle.eif_base.specs.declared.class_id.ClassId.{ClassId}
use Rattle.eif_base.specs.declared.feat_id.FeatId.{FeatId}
use Rattle.eif_classes.specs.Entries.{Feature}
use Rattle.eif_classes.specs.Features.{declaration_of, features, has_feature, names}
use Rattle.eif_lineage_laws.proofs.Unfolding.{class_within}
use Rattle.eif_rows.proofs.Matches.{Match-at_both, length-Match}
use Rattle.eif_rows.proofs.NameSets.{is_among-from_place, place-from_is_among}
use Rattle.eif_rows.specs.Numbers.{name_of}
use Rattle.eif_rows.specs.Rows.{IsFeatureRow, IsRow, declaration_at}
use Rattle.eif_rows.specs.declared.feature.FeatureRow.{FeatureRow}
use Rattle.eif_system.specs.Lineage.{Line, line_of}
use Rattle.eif_tables.specs.Numbered.{AreEntries}
use Rattle.eif_tables.specs.TablesOf.{AreTables, HasClass, HasFeature, IsClassTable}
use Rattle.eif_tables.specs.declared.row_entry.RowEntry.{RowEntry}
use Rattle.eif_tables.specs.declared.tables.ClassTable.{ClassTable}
use Rattle.eif_tables.specs.declared.tables.Tables.{Tables}
use Rattle.eif_tables.proofs.Entries.{entry_of}
use Rattle.eif_tree.specs.Tree.{ClassT}

-- a name with a number is that of the feature with the number
pub feature_named : (l : Line) (i : ℕ) (n : List ℕ) → slice_get (names l) i ≡ Some n
    → (x : Feature) × (slice_get (features l) i ≡ Some x) × (x.name ≡ n)
feature_named l i n e = go (slice_get (features l) i) refl
  where
    go : (o : Option Feature) → slice_get (features l) i ≡ o
        → (x : Feature) × (slice_get (features l) i ≡ Some x) × (x.name ≡ n)
    go None at =
        let none = sym e ∙ (slice_get-map (λ f. f.name) (features l) i ∙ ap (option_map (λ f. f.name)) at) in
        absurd (cc)
    go (Some x) at =
        let some = sym (slice_get-map (λ f. f.name) (features l) i ∙ ap (option_map (λ f. f.name)) at) ∙ e in
        (x, at, same_Some x.name n some)

pub name_at : (l : Line) (i : ℕ) (x : Feature) → slice_get (features l) i ≡ Some x
    → slice_get (names l) i ≡ Some x.name
name_at l i x at = slice_get-map (λ f. f.name) (features l) i ∙ ap (option_map (λ f. f.name)) at

-- the declaration that a row keeps is that of the name
pub declared_told : (u : List ClassT) (d : ℕ) (r : FeatureRow) (x : Feature) (n : List ℕ) (class : ClassT)
    → (text : ClassT) × (slice_get u d ≡ Some text) × IsFeatureRow u d text r x
    → slice_get u d ≡ Some class → x.name ≡ n → declaration_at class r.declared ≡ declaration_of class n
declared_told u d r x n class row at named =
    let same = same_Some row.0 class (sym row.1 ∙ at) in
    subst (λ n. declaration_at class r.declared ≡ declaration_of class n) named
    (subst (λ c. declaration_at c r.declared ≡ declaration_of c x.name) same row.2.declared)

pub item_at : {A : Type 0} (xs : List A) (i : ℕ) → i < length xs → (x : A) × (slice_get xs i ≡ Some x)
item_at [] i lt = absurd (omega arith)
item_at (x ∷ xs) zero lt = (x, refl)
item_at (x ∷ xs) (suc i) lt = item_at xs i (omega arith)

module _ (u : List ClassT) (t : Tables) (are : AreTables u t) where
  -- the class is in the universe
  pub class_is : (c : ClassId) → HasClass t c → c.0 < length u
  class_is c has = subst (λ n. c.0 < n) are.long has

  pub class_has : (c : ClassId) → c.0 < length u → HasClass t c
  class_has c within = subst (λ n. c.0 < n) (sym are.long) within

  module _ (d : ℕ) (x : ClassTable) (at : slice_get t.classes.items d ≡ Some x) where
    pub row_of : IsRow u d x.row
    row_of = (are.each d x at).row_is

    pub within : d < length u
    within = subst (λ n. d < n) are.long (slice_get_within t.classes.items d x at)

    pub text_of : (class : ClassT) × (slice_get u d ≡ Some class)
    text_of = class_within u d within

    -- by the names of the class
    pub entries_of : AreEntries t.names (names (line_of u d)) x.entries.items
    entries_of = subst (λ ns. AreEntries t.names ns x.entries.items) row_of.names_are (are.each d x at).entries_are

    pub feature_is : (i : ℕ) (r : FeatureRow) (f : Feature) → slice_get x.row.features.items i ≡ Some r
        → slice_get (features (line_of u d)) i ≡ Some f
        → (class : ClassT) × (slice_get u d ≡ Some class) × IsFeatureRow u d class r f
    feature_is i r f row_at at = (
      text_of.0,
      text_of.1,
      Match-at_both (IsFeatureRow u d text_of.0) x.row.features.items (features (line_of u d))
          (row_of.features_are text_of.0 text_of.1) i r f row_at at,
    )

    -- there are as many features as names
    pub kept : (i : ℕ) (n : List ℕ) → slice_get (names (line_of u d)) i ≡ Some n → i < length x.row.features.items
    kept i n named =
        let y = feature_named (line_of u d) i n named in
        subst (λ k. i < k)
        (sym (length-Match (IsFeatureRow u d text_of.0) x.row.features.items (features (line_of u d))
        (row_of.features_are text_of.0 text_of.1)))
        (slice_get_within (features (line_of u d)) i y.0 y.1)

    -- where no entry has the number of a name, the class lacks the name
    pub name_absent : (id : ℕ) (n : List ℕ) → slice_get t.names id ≡ Some n
        → ((i : ℕ) (e : RowEntry) → slice_get x.entries.items i ≡ Some e → e.name_id.0 ≢ id)
        → has_feature (line_of u d) n ≡ false
    name_absent id n numbered none = go (has_feature (line_of u d) n) refl
      where
        go : (b : Bool) → has_feature (line_of u d) n ≡ b → has_feature (line_of u d) n ≡ false
        go true has =
            let place = place-from_is_among (names (line_of u d)) n has in
            let e = entry_of t.names (names (line_of u d)) x.entries.items entries_of place.0 n place.1 in
            absurd (none place.0 e.0 e.1 (are.numbered e.0.name_id.0 id n e.2 numbered))
        go false e = e

  -- a class has each feature of which it has the name
  pub feature_has : (c : ClassId) (f : FeatId) (x : ClassTable) (n : List ℕ)
      → slice_get t.classes.items c.0 ≡ Some x → name_of (names (line_of u c.0)) f ≡ Some n → HasFeature t c f
  feature_has c f x n at named = record {
    table = x;
    at = at;
    named = subst (λ ns. f.0 < length ns) (sym (row_of c.0 x at).names_are)
        (slice_get_within (names (line_of u c.0)) f.0 n named);
    kept = kept c.0 x at f.0 n named;
  }

  -- each name of a class is among all names
  pub name_among : (d : ℕ) (n : List ℕ) → d < length u → has_feature (line_of u d) n ≡ true
      → is_among t.names n ≡ true
  name_among d n within has =
      let x = item_at t.classes.items d (subst (λ k. d < k) (sym are.long) within) in
      let place = place-from_is_among (names (line_of u d)) n has in
      let e = entry_of t.names (names (line_of u d)) x.0.entries.items (entries_of d x.0 x.1) place.0 n place.1 in
      is_among-from_place t.names e.0.name_id.0 n e.2
