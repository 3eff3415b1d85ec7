-- The target of an instruction without faults.
use Rattle.std.proofs.Common.{◌≡◌, ℕ, Bool, true, false, List, [], Option, Some, None, refl, sym, ap, ◌∙◌}
use Rattle.std.specs.Prelude.{if◌then◌else◌, not}
use Rattle.std.specs.Option.{option_map_or}
use Rattle.std.specs.Str.{bytes_eq}
use Rattle.eif_base.specs.declared.code.Code.TheVariants as code
use Rattle.eif_base.specs.declared.fault.Fault.{Fault}
use Rattle.eif_base.specs.declared.place.Place.{Place}
use Rattle.eif_tree.specs.declared.tree.NameAt.{NameAt}
use Rattle.eif_tree.specs.Members.{result_name}
use Rattle.eif_tree.specs.Tree.{TypeT}
use Rattle.eif_classes.specs.Types.{TyT}
use Rattle.eif_rules.specs.FaultForms.{fault_where}
use Rattle.eif_body_rules.specs.CallRules.{Argument, result_rule}
use Rattle.eif_body_rules.specs.CreationRules.{Creation, of_written, creation_faults, creation_rule, unfit_type}
use Rattle.eif_body_rules.specs.Facts.{Fact}
use Rattle.eif_body_rules.specs.InstructionFaults.{of_target, created_for, create_instruction_rule}
use Rattle.eif_body_rules.specs.Judgements.{first_of}
use Rattle.eif_body_rules.specs.Settings.{Setting, fault, fits, Meaning, test_local, entity, feature, unknown, meaning}
use Rattle.eif_body_rules.specs.Targets.{meant_type, target_type, is_attribute_name, variable_type, named_target, target_rule, unfit_source, assignment_faults}
use Rattle.eif_valid_bodies.specs.Valid.{Valid}
use Rattle.eif_valid_bodies.specs.ValidInstructions.{IsVariable, IsTargetBy, IsTarget, IsCreatedFor}
use Rattle.eif_valid_bodies.proofs.Parts.{no_more, no_value, some_same, left_empty, right_empty, none_first, HasValue, if_has, part_clean, rule_clean}
use Rattle.eif_valid_bodies.proofs.Nodes.{result_seen, Made, made_by}
use Rattle.eif_valid_bodies.proofs.TypedRules.{result_has, creation_has}

not_kept : (b : Bool) (f : Fault) → fault_where (not b) f ≡ [] → b ≡ true
not_kept true f h = refl
not_kept false f h = absurd (no_more h)

module _ (s : Setting) where
  -- ---- it is a target, of some type

  variable_has : (x : NameAt) (b : Bool) (o : Option TyT) → (variable_type s x b o).faults ≡ []
      → HasValue (variable_type s x b o)
  variable_has x b None h = absurd (no_more h)
  variable_has x b (Some t) h = if_has b t (fault s code.Vbar 1 x.place x.name) h

  named_has : (x : NameAt) (m : Meaning) → (named_target s x m).faults ≡ [] → HasValue (named_target s x m)
  named_has x unknown h = absurd (no_more h)
  named_has x (test_local o) h = variable_has x false None h
  named_has x (entity e) h = variable_has x e.is_local (Some e.type) h
  named_has x (feature g) h = variable_has x (is_attribute_name s x.name) g.result h

  target_has_by : (b : Bool) (k : List Fact) (x : NameAt)
      → (if b then result_rule s x.place else named_target s x (meaning s k x.name)).faults ≡ []
      → HasValue (if b then result_rule s x.place else named_target s x (meaning s k x.name))
  target_has_by true k x h = result_has s x.place h
  target_has_by false k x h = named_has x (meaning s k x.name) h

  target_has : (k : List Fact) (x : NameAt) → (target_rule s k x).faults ≡ [] → HasValue (target_rule s k x)
  unfolding target_rule
  target_has k x h = target_has_by (bytes_eq x.name result_name) k x h

  variable_is : (x : NameAt) (b : Bool) (o : Option TyT) (t : TyT) → Valid (variable_type s x b o) t
      → (b ≡ true) × (o ≡ Some t)
  variable_is x b None t v = absurd (no_value v.value)
  variable_is x true (Some u) t v = (refl, v.value)
  variable_is x false (Some u) t v = absurd (no_value v.value)

  named_is : (x : NameAt) (m : Meaning) (t : TyT) → Valid (named_target s x m) t → IsVariable s x.name t m
  named_is x unknown t v = absurd (no_value v.value)
  named_is x (test_local o) t v = absurd (no_value v.value)
  named_is x (entity e) t v =
      let is : (e.is_local ≡ true) × (Some e.type ≡ Some t) = variable_is x e.is_local (Some e.type) t v in
      (is.0, some_same is.1)
  named_is x (feature g) t v = variable_is x (is_attribute_name s x.name) g.result t v

  target_by : (b : Bool) (k : List Fact) (x : NameAt) (t : TyT)
      → Valid (if b then result_rule s x.place else named_target s x (meaning s k x.name)) t → IsTargetBy b s k x.name t
  target_by true k x t v = result_seen s x.place t v
  target_by false k x t v = named_is x (meaning s k x.name) t v

  target_is : (k : List Fact) (x : NameAt) (t : TyT) → Valid (target_rule s k x) t → IsTarget s k x.name t
  unfolding target_rule
  target_is k x t v = target_by (bytes_eq x.name result_name) k x t v

  -- ---- assignments

  meant_is : (x : List ℕ) (t : TyT) (m : Meaning) → IsVariable s x t m → meant_type m ≡ Some t
  meant_is x t (test_local o) v = absurd v
  meant_is x t (entity e) v = ap (λ t. Some t) v.1
  meant_is x t (feature g) v = v.1
  meant_is x t unknown v = absurd v

  type_by : (b : Bool) (k : List Fact) (x : List ℕ) (t : TyT) → IsTargetBy b s k x t
      → (if b then s.result else meant_type (meaning s k x)) ≡ Some t
  type_by true k x t v = v
  type_by false k x t v = meant_is x t (meaning s k x) v

  type_is : (k : List Fact) (x : List ℕ) (t : TyT) → IsTarget s k x t → target_type s k x ≡ Some t
  unfolding target_type
  type_is k x t v = type_by (bytes_eq x result_name) k x t v

  source_fits : (x : NameAt) (p : Place) (t u : TyT) (o : Option TyT) → o ≡ Some u
      → option_map_or (unfit_source s x p t) o [] ≡ [] → fits s t u ≡ true
  source_fits x p t u o is h =
      not_kept (fits s t u) (fault s code.Vbar 2 p x.name)
      (ap (λ o. option_map_or (unfit_source s x p t) o []) (sym is) ∙ h)

  pub record AssignedTo (k : List Fact) (x : NameAt) (t : TyT) : Type 0 where
    pub target : TyT
    pub is_target : IsTarget s k x.name target
    pub fit : fits s t target ≡ true

  pub assigned_to : (k : List Fact) (x : NameAt) (p : Place) (t : TyT) → assignment_faults s k x p t ≡ []
      → AssignedTo k x t
  unfolding assignment_faults
  assigned_to k x p t h =
      let a : HasValue (target_rule s k x) = target_has k x (left_empty _ _ h) in
      let is : IsTarget s k x.name a.it = target_is k x a.it a.valid in
      record {
        target = a.it;
        is_target = is;
        fit =
            source_fits x p t a.it (target_type s k x.name) (type_is k x.name a.it is)
            (right_empty (target_rule s k x).faults _ h);
      }

  -- ---- creations

  written_fits : (c : Creation) (x : List ℕ) (t : TyT) → unfit_type s c x t ≡ [] → fits s c.type t ≡ true
  unfolding unfit_type
  written_fits c x t h = not_kept (fits s c.type t) _ h

  created_for_target : (p : Place) (w : Option TypeT) (x : NameAt) (y : Option NameAt) (args : List Argument) (t : TyT)
      → (created_for s p w x y args t).faults ≡ [] → IsCreatedFor s p w y args t
  created_for_target p None x y args t h =
      let c : Creation = of_target p t y in
      let v : HasValue (creation_rule s c (creation_faults s c) args) = creation_has s c (creation_faults s c) args h in
      let made : (creation_faults s c ≡ []) × Made s c (creation_faults s c) args v.it =
      made_by s c (creation_faults s c) args v.it (λ h. h) v.valid in
      made.1.created
  created_for_target p (Some w) x y args t h =
      let c : Creation = of_written s code.Vgci p w y in
      let wrong : List Fault = first_of (creation_faults s c) (unfit_type s c x.name t) in
      let v : HasValue (creation_rule s c wrong args) = creation_has s c wrong args h in
      let made : (wrong ≡ []) × Made s c wrong args v.it =
      made_by s c wrong args v.it (λ h. (none_first (creation_faults s c) (unfit_type s c x.name t) h).0) v.valid in
      (made.1.created, written_fits c x.name t (none_first (creation_faults s c) (unfit_type s c x.name t) made.0).1)

  pub record CreatedFor
      (k : List Fact) (p : Place) (w : Option TypeT) (x : NameAt) (y : Option NameAt) (args : List Argument)
      : Type 0 where
    pub target : TyT
    pub is_target : IsTarget s k x.name target
    pub created : IsCreatedFor s p w y args target

  pub created_at : (k : List Fact) (p : Place) (w : Option TypeT) (x : NameAt) (y : Option NameAt)
      (args : List Argument)
      → (create_instruction_rule s k p w x y args).faults ≡ [] → CreatedFor k p w x y args
  unfolding create_instruction_rule
  created_at k p w x y args h =
      let a : HasValue (target_rule s k x) =
      target_has k x (part_clean (target_rule s k x) (created_for s p w x y args) h) in
      record {
        target = a.it;
        is_target = target_is k x a.it a.valid;
        created =
            created_for_target p w x y args a.it
            (rule_clean (target_rule s k x) (created_for s p w x y args) a.it a.valid h);
      }
