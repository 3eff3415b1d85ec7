-- What serves in a class serves on objects: signatures with the actuals of an object put in.
use Rattle.std.proofs.Common.{◌≡◌, ℕ, false, List, Option, Some, None, sym, ap, subst, ◌∙◌}
use Rattle.eif_classes.specs.Ancestry.{ancestor}
use Rattle.eif_classes.specs.Entries.{Declaration}
use Rattle.eif_classes.specs.Features.{is_attribute}
use Rattle.eif_classes.specs.Resolution.{own_formals}
use Rattle.eif_classes.specs.Signatures.{Signature, declared_signature, with_actuals}
use Rattle.eif_classes.specs.Types.{TyT, Actuals, put_in_all}
use Rattle.eif_meaning.specs.Values.{ClassType}
use Rattle.eif_meaning.specs.System.{system_over}
use Rattle.eif_tree.specs.Tree.{ClassT}
use Rattle.eif_type_laws.specs.ClassTypes.{IsHierarchy, Defined}
use Rattle.eif_type_laws.proofs.Ancestors.{own_ancestor, ancestor_has_class, composes}
use Rattle.eif_type_laws.proofs.Substitution.{put_put_all}
use Rattle.eif_binding_laws.specs.KeptSignatures.{ResultConforms, Serves}
use Rattle.eif_binding_laws.proofs.Settings.{actuals_compose}
use Rattle.eif_run_laws.specs.ObjectTypes.{Suit, IsMade, Over}
use Rattle.eif_run_sound.specs.UniverseLaws.{OpenTypeLaws, ResultFits, IsServed, all_closed, maybe_closed}

module _ (u : List ClassT) (types : OpenTypeLaws u) where
  -- results that conform in a class fit on objects
  pub result_closed : (k : ℕ) (xs : Actuals) → Suit (system_over u) k xs → (a b : Option TyT) → ResultConforms u k a b
      → ResultFits u (maybe_closed xs a) (maybe_closed xs b)
  result_closed k xs suit None None h = tt
  result_closed k xs suit None (Some b) h = absurd h
  result_closed k xs suit (Some a) None h = absurd h
  result_closed k xs suit (Some a) (Some b) h = types.closes k xs suit a b h

  module _ (order : List ℕ) (is : IsHierarchy u order) (defined : Defined u) where
    -- an object has the actuals of its own class
    pub over_own : (t : ClassType) → IsMade (system_over u) t → Over (system_over u) t t.class_number t.actuals
    over_own t made =
        let d = t.class_number in
        let c = ancestor_has_class u order is d d ((system_over u).formals d) made.there in
        record {
          derived = own_formals c.0;
          gives = own_ancestor u order is d c.0 c.1;
          is = types.own d c.0 c.1 t.actuals made.suit;
        }

    -- what class k has on an object, class j above it has with that put in
    pub over_above : (t : ClassType) (k j : ℕ) (xs ys : Actuals) → Over (system_over u) t k xs
        → ancestor u k j ≡ Some ys
        → Over (system_over u) t j (put_in_all xs ys)
    over_above t k j xs ys over gives = record {
      derived = put_in_all over.derived ys;
      gives = composes u order is defined t.class_number k j over.derived ys over.gives gives;
      is = put_put_all over.derived t.actuals ys ∙ ap (λ xs. put_in_all xs ys) over.is;
    }

    -- a version that serves in class k, and is no field, serves on objects over which k has the actuals xs
    pub served_over : (t : ClassType) (k : ℕ) (xs : Actuals) → Over (system_over u) t k xs → Suit (system_over u) k xs
        → (y : Declaration) (s : Signature) → Serves u k y s → is_attribute y.tree.kind ≡ false
        → IsServed u t y (all_closed xs s.arguments) (maybe_closed xs s.result)
    served_over t k xs over suit y s serves no_field =
        let a = serves.above in
        let written = declared_signature u a.class y.tree in
        let whole : with_actuals xs (with_actuals a.actuals written) ≡ with_actuals (put_in_all xs a.actuals) written =
        actuals_compose a.actuals xs written in
        record {
          routine = record {
            text = a.class;
            at = a.at;
            declares = a.declares;
            no_field = no_field;
            effective = serves.written;
          };
          actuals = put_in_all xs a.actuals;
          over = over_above t k y.class_number xs a.actuals over a.gives;
          arguments_are = sym (ap (λ (s : Signature). s.arguments) whole) ∙ ap (all_closed xs) serves.stands.arguments;
          result_fits = subst (λ (r : Signature). ResultFits u r.result (maybe_closed xs s.result)) whole
              (result_closed k xs suit (with_actuals a.actuals written).result s.result serves.stands.result);
        }

-- a signature of class k, seen in the class of an object and with its actuals put in, is that with the actuals of k
pub seen_closed : (t : ClassType) (derived xs : Actuals) (g : Signature) → put_in_all t.actuals derived ≡ xs
    → with_actuals t.actuals (with_actuals derived g) ≡ with_actuals xs g
seen_closed t derived xs g e = actuals_compose derived t.actuals g ∙ ap (λ xs. with_actuals xs g) e
