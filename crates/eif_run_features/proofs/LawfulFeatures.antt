-- What runs ask of features.
use Rattle.std.proofs.Common.{ℕ, List}
use Rattle.eif_base.specs.declared.root.Root.{Root}
use Rattle.eif_binding_laws.specs.WellFormed.{IsWellFormed}
use Rattle.eif_binding_laws.proofs.Settings.{order_of, IsSignedSetting, signed_setting}
use Rattle.eif_run_sound.specs.UniverseLaws.{FeatureLaws, OpenTypeLaws}
use Rattle.eif_spelled_trees.specs.SpelledTrees.{AreSpelled}
use Rattle.eif_system.specs.Universe.{universe}
use Rattle.eif_tree.specs.Members.{result_name}
use Rattle.eif_tree.specs.Tree.{ClassT}
use Rattle.eif_run_features.proofs.Fields as fields
use Rattle.eif_run_features.proofs.Kernel as kernel_classes
use Rattle.eif_run_features.proofs.Names as naming
use Rattle.eif_run_features.proofs.NoResult as no_result
use Rattle.eif_run_features.proofs.Precursors as precursors
use Rattle.eif_run_features.proofs.Served as serving
use Rattle.eif_run_features.proofs.Spelled.{spelled_texts}

module _ (given : List ClassT) (root : Root) (spelled : AreSpelled given) (is : IsWellFormed given root)
    (types : OpenTypeLaws (universe given)) where
  abbrev u : List ClassT
  u = universe given

  abbrev order : List ℕ
  order = order_of given root is.derived

  strict : IsSignedSetting u order
  strict = signed_setting given root is

  pub laws : FeatureLaws u
  laws = record {
    answered = λ t made b xs over x g signed.
        serving.answered u order strict (spelled_texts given spelled) types (kernel_classes.instances_effective given)
        t made b xs over x g signed;
    unnamed = naming.unnamed u order strict;
    unknown = naming.unknown u order strict;
    field = λ t made k xs over s of_universe number line x g a is_name signed result.
        fields.field u order strict t k xs over s line x g a is_name signed result;
    typed = naming.typed u order strict;
    no_result = λ k.
        naming.unknown u order strict k result_name
        (no_result.no_result u order strict.setting.hierarchy.ordered (spelled_texts given spelled) k);
    version = λ y r t made xs over parent e picked.
        precursors.version u order strict y r types t made xs over parent e picked;
    out = kernel_classes.any_out given order strict.setting.hierarchy.ordered;
  }
