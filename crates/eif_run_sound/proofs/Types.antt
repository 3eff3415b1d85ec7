-- What fits in a body, with its types closed.
use Rattle.std.proofs.Common.{◌≡◌, ℕ, Bool, true, false, List, [], ◌∷◌, map, length, Option, Some, None, refl, sym, ap₂, subst, arith}
use Rattle.std.specs.Prelude.{is_some}
use Rattle.std.specs.Option.{option_map, option_map_or}
use Rattle.eif_tree.specs.Tree.{ClassT}
use Rattle.eif_classes.specs.Ancestry.{ancestor}
use Rattle.eif_classes.specs.Conformance.{class_conforms, conforms}
use Rattle.eif_classes.specs.Constraints.{constraint, base_type, is_attached}
use Rattle.eif_classes.specs.Types.{TyT, class_type, formal_type, none_type, Actuals, marked, put_in}
use Rattle.eif_body_rules.specs.CallRules.{Argument}
use Rattle.eif_meaning.specs.Values.{Value, Object}
use Rattle.eif_meaning.specs.System.{System, system_over}
use Rattle.eif_meaning.specs.Calls.{seen_as}
use Rattle.eif_valid_bodies.specs.ValidCalls.{Fit}
use Rattle.eif_run_laws.specs.ObjectTypes.{Suit}
use Rattle.eif_run_laws.specs.Holders.{Fits, AllFit, Answers}
use Rattle.eif_run_laws.proofs.Fitting.{fits_conforming}
use Rattle.eif_run_sound.specs.Bodies.{Running, setting_of, closed}
use Rattle.eif_run_sound.specs.ExpressionRuns.{types_of}
use Rattle.eif_run_sound.specs.Invariant.{Gives}
use Rattle.eif_run_sound.proofs.Flows.{and_left}
use Rattle.eif_run_sound.specs.UniverseLaws.{ResultFits, all_closed, maybe_closed, UniverseLaws}

-- ---- lists

pub all_fit_length : (system : System) (h : List Object) (ts : List TyT) (vs : List Value) → AllFit system h ts vs
    → length ts ≡ length vs
all_fit_length system h [] [] f = refl
all_fit_length system h [] (v ∷ vs) f = absurd f
all_fit_length system h (t ∷ ts) [] f = absurd f
all_fit_length system h (t ∷ ts) (v ∷ vs) f =
    let e = all_fit_length system h ts vs f.1 in omega arith

-- ---- types with a class or a constraint

constrained : (b : TyT → Bool) (o : Option TyT) → option_map_or b o false ≡ true → is_some o ≡ true
constrained b None h = cc
constrained b (Some t) h = refl

-- an attached type that conforms to some type is one
pub has_base : (u : List ClassT) (k : ℕ) (a b : TyT) → conforms u k a b ≡ true → is_attached u k a ≡ true
    → is_some (base_type u k a) ≡ true
has_base u k (class_type d m ts) b c h = refl
has_base u k (formal_type i m) (class_type d n ts) c h =
    constrained (λ t. class_conforms (ancestor u) (marked m t) (class_type d n ts)) (constraint u k i) c
has_base u k (formal_type i m) (formal_type j n) c h = and_left (is_some (constraint u k i)) _ c
has_base u k (formal_type i m) none_type c h = cc
has_base u k none_type b c h = cc

-- a result of a type that conforms to another
pub answers_fit : (u : List ClassT) → UniverseLaws u → (h : List Object) (a b : Option TyT) (o : Option Value)
    → ResultFits u a b
    → Answers (system_over u) h a o → Answers (system_over u) h b o
answers_fit u laws h None None o c f = f
answers_fit u laws h None (Some b) o c f = absurd c
answers_fit u laws h (Some a) None o c f = absurd c
answers_fit u laws h (Some a) (Some b) None c f = f
answers_fit u laws h (Some a) (Some b) (Some v) c f = fits_conforming (system_over u) laws.types h a b v c f

module _ (u : List ClassT) (laws : UniverseLaws u) (r : Running u) where
  pub suit : Suit (system_over u) r.declaration.class_number r.actuals
  suit = laws.open_types.above r.type r.made r.declaration.class_number r.actuals r.over

  -- ---- conformance in the class

  pub fits_in : (h : List Object) (a b : TyT) (v : Value) → conforms u r.declaration.class_number a b ≡ true
      → Fits (system_over u) h (closed r a) v → Fits (system_over u) h (closed r b) v
  fits_in h a b v c f =
      fits_conforming (system_over u) laws.types h (closed r a) (closed r b) v
      (laws.open_types.closes r.declaration.class_number r.actuals suit a b c) f

  -- arguments that fit their types fit those of the formals
  pub all_fit : (h : List Object) (args : List Argument) (ts : List TyT) (vs : List Value)
      → Fit (setting_of u r) args ts → AllFit (system_over u) h (map (closed r) (types_of args)) vs
      → AllFit (system_over u) h (map (closed r) ts) vs
  all_fit h [] [] vs c f = f
  all_fit h [] (t ∷ ts) vs c f = absurd c
  all_fit h (a ∷ args) [] vs c f = absurd c
  all_fit h (a ∷ args) (t ∷ ts) [] c f = f
  all_fit h (a ∷ args) (t ∷ ts) (v ∷ vs) c f = (fits_in h a.type t v c.0 f.0, all_fit h args ts vs c.1 f.1)

  -- ---- results

  -- a result under the type as which the text sees it, which closes to that of the feature
  pub answers_seen : (h : List Object) (zs : Actuals) (see : TyT → TyT)
      → ((t : TyT) → closed r (see t) ≡ put_in zs t) → (t : Option TyT) (a : Option Value)
      → Answers (system_over u) h (maybe_closed zs t) a → Gives u r h (option_map see t) (seen_as
      (option_map see t) a)
  answers_seen h zs see e None None f = tt
  answers_seen h zs see e None (Some v) f = absurd f
  answers_seen h zs see e (Some t) None f = absurd f
  answers_seen h zs see e (Some t) (Some v) f =
      record { fits = subst (λ x. Fits (system_over u) h x v) (sym (e t)) f; seen = refl }

  -- the types of arguments, closed after the text's view of them
  pub closed_list : (zs : Actuals) (see : TyT → TyT) → ((t : TyT) → closed r (see t) ≡ put_in zs t) → (ts : List TyT)
      → map (closed r) (map see ts) ≡ all_closed zs ts
  closed_list zs see e [] = refl
  closed_list zs see e (t ∷ ts) = ap₂ ◌∷◌ (e t) (closed_list zs see e ts)
