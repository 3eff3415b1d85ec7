-- Calls of declarations on values.
use Rattle.std.proofs.Common.{◌≡◌, true, false, List, [], ◌∷◌, ◌++◌, map, flat_map, length, Option, Some, refl, sym, ap, subst, ◌∙◌, arith}
use Rattle.std.specs.Prelude.{if◌then◌else◌}
use Rattle.std.specs.Option.{option_map, option_and_then}
use Rattle.std.proofs.lemmas.Bool.{eq-eqb}
use Rattle.eif_tree.specs.Tree.{KindT, attribute, constant, deferred_body, routine, GroupT, ClassT}
use Rattle.eif_classes.specs.Entries.{Declaration}
use Rattle.eif_classes.specs.Features.{is_attribute}
use Rattle.eif_classes.specs.Resolution.{resolved}
use Rattle.eif_classes.specs.Signatures.{declared_signature}
use Rattle.eif_classes.specs.Types.{TyT, put_in, put_in_all}
use Rattle.eif_feature_rules.specs.DeclarationRules.{is_deferred_kind}
use Rattle.eif_flow_rules.specs.FieldSets.{FieldSet}
use Rattle.eif_meaning.specs.Values.{Value, ClassType, Object, Store, no_feature, wrong}
use Rattle.eif_meaning.specs.System.{System, system_over}
use Rattle.eif_meaning.specs.Objects.{object_of}
use Rattle.eif_meaning.specs.Frames.{Runner, argument_names, is_routine, takes}
use Rattle.eif_meaning.specs.Calls.{body_on, run_body, run_declaration}
use Rattle.eif_run_laws.specs.ObjectTypes.{Over}
use Rattle.eif_run_laws.specs.Holders.{AllFit, IsHeap}
use Rattle.eif_run_laws.specs.Steps.{Safe}
use Rattle.eif_run_sound.specs.Bodies.{flow_on, body_of, Enters, Leaves, RunsBodies}
use Rattle.eif_run_sound.specs.Fields.{Ready, Met}
use Rattle.eif_run_sound.specs.UniverseLaws.{IsServed}
use Rattle.eif_run_sound.proofs.Flows.{and_both}
use Rattle.eif_run_sound.proofs.Types.{all_fit_length}

-- ---- arguments in number

map_length : {A B : Type 0} (f : A → B) (xs : List A) → length (map f xs) ≡ length xs
map_length f [] = refl
map_length f (x ∷ xs) = let e = map_length f xs in omega arith

append_length : {A B : Type 0} (xs : List A) (ys : List B) (rest : List A) (more : List B)
    → length xs ≡ length ys → length rest ≡ length more → length (xs ++ rest) ≡ length (ys ++ more)
append_length [] [] rest more e f = f
append_length [] (y ∷ ys) rest more e f = absurd (omega arith)
append_length (x ∷ xs) [] rest more e f = absurd (omega arith)
append_length (x ∷ xs) (y ∷ ys) rest more e f =
    let g : length xs ≡ length ys = omega arith in
    let h = append_length xs ys rest more g f in omega arith

groups_length : {A : Type 0} (f : GroupT → A) (gs : List GroupT)
    → length (flat_map (λ g. map (λ n. f g) g.names) gs) ≡ length (flat_map (λ g. g.names) gs)
groups_length f [] = refl
groups_length f (g ∷ gs) =
    append_length (map (λ n. f g) g.names) g.names _ _ (map_length (λ n. f g) g.names) (groups_length f gs)

routine_is : (k : KindT) → is_attribute k ≡ false → is_deferred_kind k ≡ false → is_routine k ≡ true
routine_is attribute e f = cc
routine_is (constant x) e f = refl
routine_is deferred_body e f = cc
routine_is (routine locals body) e f = refl

module _ (u : List ClassT) (again : Runner) (runs : RunsBodies u again) (s : Store) (heap : IsHeap
    (system_over u) s.heap)
    (v : Value) (o : Object) (there : object_of s.heap v ≡ Some o) (ty : ClassType) (is : o.made ≡ ty) where
  abbrev system : System
  system = system_over u

  taken : (y : Declaration) (args : List TyT) (result : Option TyT) (vs : List Value)
      (w : IsServed u ty y args result)
      → AllFit system s.heap args vs → takes y.tree vs ≡ true
  taken y args result vs w fit =
      let ts = (declared_signature u w.routine.text y.tree).arguments in
      let e : length (argument_names y.tree) ≡ length vs =
      sym (groups_length (λ g. resolved u w.routine.text g.type_tree) y.tree.arguments)
      ∙ (sym (map_length (put_in w.actuals) ts)
      ∙ all_fit_length system s.heap (map (put_in w.actuals) ts) vs
      (subst (λ args. AllFit system s.heap args vs) (sym w.arguments_are) fit)) in
      and_both (is_routine y.tree.kind) _ (routine_is y.tree.kind w.routine.no_field w.routine.effective)
      (eq-eqb (length (argument_names y.tree)) (length vs) e)

  pub declaration_ok : (y : Declaration) (args : List TyT) (result : Option TyT) (vs : List Value) (f : FieldSet)
      → (w : IsServed u ty y args result) → AllFit system s.heap args vs → Ready u f o
      → Met u ty.class_number (flow_on u ty.class_number y) f
      → Safe (run_declaration system again v y vs s) (Leaves u s.heap v y w.actuals f w.routine.text)
  declaration_ok y args result vs f w fit ready met =
      let over = subst (λ t. Over system t y.class_number w.actuals) (sym is) w.over in
      let entering : Enters u s.heap v y w.actuals vs f =
      record {
        routine = w.routine;
        heap = heap;
        object = o;
        there = there;
        over = over;
        ready = ready;
        met = subst (λ (t : ClassType). Met u t.class_number (flow_on u t.class_number y) f) (sym is) met;
        fit = subst (λ args. AllFit system s.heap args vs) (sym w.arguments_are) fit;
      } in
      let found : option_and_then (body_on system y) (object_of s.heap v) ≡ Some (body_of y w.actuals) =
      ap (option_and_then (body_on system y)) there
      ∙ (ap (option_map (λ xs. body_of y (put_in_all o.made.actuals xs))) over.gives
      ∙ ap (λ xs. Some (body_of y xs)) over.is) in
      subst (λ b. Safe (run_body again v vs b s) (Leaves u s.heap v y w.actuals f w.routine.text)) (sym found)
      (subst (λ b. Safe (if b then again v (body_of y w.actuals) vs s else wrong no_feature s.printed)
      (Leaves u s.heap v y w.actuals f w.routine.text)) (sym (taken y args result vs w fit))
      (runs v y w.actuals vs f s entering))
