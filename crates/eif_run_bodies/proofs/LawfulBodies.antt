-- What runs ask of bodies, from the rules of universes, features, derivations and bodies, and from the grammar.
use Rattle.std.proofs.Common.{◌≡◌, true, List, ◌++◌, Some, None, sym, ap, subst, inr}
use Rattle.eif_base.specs.declared.root.Root.{Root}
use Rattle.eif_tree.specs.declared.tree.Literal.{Literal}
use Rattle.eif_tree.specs.Tree.{TypeT, constant, routine, GroupT, Inss, ClassT}
use Rattle.eif_system.specs.Universe.{universe}
use Rattle.eif_system.specs.WrittenTypes.{types_of_groups, types_of_compound, types_of_declaration, types_of_kind}
use Rattle.eif_classes.specs.Conformance.{conforms}
use Rattle.eif_classes.specs.Entries.{Declaration}
use Rattle.eif_classes.specs.Features.{local_groups}
use Rattle.eif_classes.specs.Resolution.{resolved}
use Rattle.eif_body_rules.specs.BodyRules.{GivenBodiesBroken}
use Rattle.eif_body_rules.specs.OperatorRules.{literal_type}
use Rattle.eif_lineage_laws.proofs.EachItem.{AllOf, all_right}
use Rattle.eif_meaning.specs.KernelBodies.{BuiltIn, built_in_body}
use Rattle.eif_rules.specs.FaultForms.{IsNone}
use Rattle.eif_binding_laws.specs.WellFormed.{IsDerived}
use Rattle.eif_spelled_trees.specs.SpelledTrees.{AreGroups, HasForm, AreSpelled}
use Rattle.eif_valid_bodies.proofs.Declarations.{numbered_valid}
use Rattle.eif_run_sound.specs.Bodies.{IsRoutine}
use Rattle.eif_run_sound.specs.UniverseLaws.{IsLocalType, IsKernelBody, IsWrittenBody, BodyLaws}
use Rattle.eif_run_bodies.proofs.Constants.{constant_conforms}
use Rattle.eif_run_bodies.proofs.KernelBodies.{Text, built_in_is, given_declares}
use Rattle.eif_run_bodies.proofs.Locals.{MeansType, kind_typed, local_typed, declared_mean}
use Rattle.eif_run_bodies.proofs.TypesOfBodies.{compound_typed}
use Rattle.eif_run_bodies.proofs.WrittenBodies.{spelled_declared, none_called_result, called_by_name}

module _ (given : List ClassT) (root : Root) (spelled : AreSpelled given) (is : IsDerived given root)
    (none : IsNone (GivenBodiesBroken given)) where
  abbrev u : List ClassT
  u = universe given

  module _ (y : Declaration) (r : IsRoutine u y) where
    abbrev Means : TypeT → Type 0
    Means = MeansType given root is y.class_number r.text

    types_mean : AllOf Means (types_of_declaration y.tree)
    types_mean = declared_mean given root is y.class_number r.text r.at y.name y.tree r.declares

    kernel_body : (b : BuiltIn) → built_in_body y.class_number y.name ≡ Some b → IsKernelBody u y r.text b
    kernel_body b e =
        let k = built_in_is given y.class_number r.text r.at y.name y.tree b r.declares e in
        record {
          class_is = ap (λ (t : Text). t.0) k;
          signature_is = ap (λ (t : Text). t.1) k;
          empty = ap (λ (t : Text). t.2) k;
        }

    type_means : (t : TypeT) → IsLocalType y.tree t → Means t
    type_means t l = local_typed Means y.tree types_mean t l

    constant_typed : (v : Literal) → y.tree.kind ≡ constant v →
        (t : TypeT) × (y.tree.result_type ≡ Some t)
        × (conforms u y.class_number (literal_type v) (resolved u r.text t) ≡ true)
    constant_typed v e =
        constant_conforms given root is y.class_number r.text r.at y.name y.tree r.declares
        (λ t e. (type_means t (inr e)).0) v e

    written_body : (locals : List GroupT) (body : Inss) → built_in_body y.class_number y.name ≡ None →
        y.tree.kind ≡ routine locals body → IsWrittenBody u y r.text body
    written_body locals body e k =
        let g = given_declares given y.class_number r.text r.at y.name y.tree r.declares e in
        let s = spelled_declared r.text (spelled g.place r.text g.at) y.name y.tree r.declares in
        let form : HasForm y.tree (routine locals body) = subst (HasForm y.tree) k s.form in
        let groups : AreGroups (local_groups y.tree.kind) =
        subst (λ kind. AreGroups (local_groups kind)) (sym k) form.1 in
        let types : AllOf Means (types_of_groups locals ++ types_of_compound body) =
        subst (λ kind. AllOf Means (types_of_kind kind)) k (kind_typed Means y.tree types_mean) in
        record {
          valid = numbered_valid given none y.class_number r.text g.behind r.at y.name y.tree r.declares;
          named = called_by_name r.text y.name y.tree r.declares form.0;
          no_result = none_called_result y.tree s.arguments groups;
          written = compound_typed Means body form.2
              (all_right Means (types_of_groups locals) (types_of_compound body) types);
        }

  pub laws : BodyLaws u
  laws = record {
    built_in = λ y r b e. kernel_body y r b e;
    constant_of = λ y r v e k. constant_typed y r v k;
    routine_of = λ y r locals body e k. written_body y r locals body e k;
    locals_typed = λ y r t l. type_means y r t l;
  }
