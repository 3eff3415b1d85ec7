-- What makes up the drafts of a class's features.
use Rattle.std.specs.Prelude.{ℕ, List, map, flat_map}
use Rattle.eif_base.specs.declared.class_id.ClassId.{ClassId}
use Rattle.eif_rows.specs.declared.declaration_id.DeclarationId.{DeclarationId}
use Rattle.eif_rows.specs.declared.version.Version.{Version}
use Rattle.eif_rows.specs.declared.version.Version.TheVariants as v
use Rattle.eif_tree.specs.Tree.{KindT, attribute, deferred_body, DeclT, FeaturesT}
use Rattle.eif_tree.specs.View.{features_view}
use Rattle.eif_tree.specs.declared.class.FeatureClause.{FeatureClause}
use denote.Ref.{Bor}

-- the version by a declaration of that kind
abbrev pub declared_version : KindT → DeclarationId → Version
declared_version attribute id = v.Attribute id
declared_version deferred_body id = v.Deferred
declared_version _ id = v.Routine id

-- the declaration of the name with that number in the class
abbrev pub own_declaration : ClassId → ℕ → DeclarationId
own_declaration d i = record { class_id = d; feat = record { 0 = i } }

-- the part, once for each name of a declaration
abbrev pub part_of_each : FeaturesT → DeclT → List FeaturesT
part_of_each part d = map (λ n. part) d.names

-- for each declared name the features part that declares it
abbrev pub parts_of : List FeaturesT → List FeaturesT
parts_of parts = flat_map (λ part. flat_map (part_of_each part) part.decls) parts

-- features parts, as the code lends them
abbrev pub lent_part : Bor FeatureClause → FeaturesT
lent_part p = features_view p.now
