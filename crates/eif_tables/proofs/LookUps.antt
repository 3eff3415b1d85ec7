-- What a caller of a look-up shows of its numbers.
use Rattle.std.proofs.Common.{◌≡◌, ℕ, ◌<◌, List, length, Some}
use Rattle.eif_base.specs.declared.class_id.ClassId.{ClassId}
use Rattle.eif_base.specs.declared.feat_id.FeatId.{FeatId}
use Rattle.eif_classes.specs.Features.{names}
use Rattle.eif_rows.specs.Numbers.{name_of}
use Rattle.eif_system.specs.Lineage.{line_of}
use Rattle.eif_tables.proofs.Held.{class_has, feature_has, item_at}
use Rattle.eif_tables.specs.TablesOf.{AreTables, HasClass, HasFeature}
use Rattle.eif_tables.specs.declared.tables.Tables.{Tables}
use Rattle.eif_tree.specs.Tree.{ClassT}

module _ (u : List ClassT) (t : Tables) (are : AreTables u t) where
  -- the tables have each class of the universe
  pub has_class : (c : ClassId) → c.0 < length u → HasClass t c
  has_class c within = class_has u t are c within

  module _ (c : ClassId) (f : FeatId) (within : c.0 < length u) where
    -- and each feature of it whose number has a name
    pub has_named_feature : (n : List ℕ) → name_of (names (line_of u c.0)) f ≡ Some n → HasFeature t c f
    has_named_feature n named =
        let x = item_at t.classes.items c.0 (has_class c within) in
        feature_has u t are c f x.0 n x.1 named

    -- that is, each whose number is below the count of its names
    pub has_numbered_feature : f.0 < length (names (line_of u c.0)) → HasFeature t c f
    has_numbered_feature below =
        let n = item_at (names (line_of u c.0)) f.0 below in
        has_named_feature n.0 n.1
