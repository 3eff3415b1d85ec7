-- The types that texts write, their forms and substitution, worked out.
use Rattle.std.specs.Prelude.{◌≡◌, true, false, List, [], ◌∷◌, Some, None}
use Rattle.eif_tree.specs.declared.tree.Mark.TheVariants.{Plain, Detachable}
use Rattle.eif_tree.specs.Tree.{TypeT, ClassT}
use Rattle.eif_classes.specs.Constraints.{constraint, base_type, base_class, is_attached}
use Rattle.eif_classes.specs.Resolution.{resolved, own_type}
use Rattle.eif_classes.specs.Types.{TyT, none_type, name_count, attached_form, detachable_form, put_in, is_self_initialising}
use Rattle.eif_system.specs.Universe.{universe}
use Rattle.eif_classes_laws.specs.ClassTexts.{plain, sure, maybe, written, of, class, formal, constrained, generic}
use Rattle.eif_classes_laws.specs.TypesInWords.{actuals, detachable, applied_to_three, applied_or_void, plain_formal, attached_formal, detachable_formal, integer, string, string_or_void, array}

-- ---- written types

-- class BOX [G, H -> ARRAY [STRING], K -> detachable STRING] end
abbrev pub box : ClassT
box =
    generic
    (formal "g" ∷ constrained "h" (of "array" (plain "string")) ∷ constrained "k" (maybe "string") ∷ [])
    (class "box")

-- BOX has the number 6
abbrev pub boxes : List ClassT
boxes = universe (box ∷ [])

-- what a type means where it stands in BOX
abbrev pub in_box : TypeT → TyT
in_box t = resolved boxes box t

-- class TALL [STRING] end
abbrev pub tall : ClassT
tall = generic (formal "string" ∷ []) (class "tall")

pub record WrittenExamples : Type 0 where
  pub unmarked : in_box (plain "string") ≡ string
  pub with_attached : in_box (sure "string") ≡ string
  pub with_detachable : in_box (maybe "string") ≡ string_or_void
  pub attached_integer : in_box (sure "integer") ≡ integer
  pub first_formal : in_box (plain "g") ≡ plain_formal 0
  pub marked_formals : in_box (written Plain "box" (sure "g" ∷ maybe "h" ∷ plain "k" ∷ []))
      ≡ applied_to_three 6 (attached_formal 0) (detachable_formal 1) (plain_formal 2)
  -- detachable ARRAY [ARRAY [detachable G]]
  pub nested : in_box (written Detachable "array" (of "array" (maybe "g") ∷ []))
      ≡ applied_or_void 5 (array (detachable_formal 0))
  -- a formal hides the class of its name
  pub hidden : resolved (universe (tall ∷ [])) tall (plain "string") ≡ plain_formal 0
  pub unknown : in_box (plain "nope") ≡ none_type
  -- the type of `Current`
  pub own : own_type 6 box ≡ applied_to_three 6 (plain_formal 0) (plain_formal 1) (plain_formal 2)

-- ---- constraints, bases and marks

pub record FormalExamples : Type 0 where
  pub unconstrained : constraint boxes 6 0 ≡ Some (detachable 0)
  pub constrained : constraint boxes 6 1 ≡ Some (array string)
  pub no_formal : constraint boxes 6 3 ≡ None
  pub no_class : constraint boxes 7 0 ≡ None
  pub base_of_class : base_class boxes 6 (array string) ≡ Some 5
  pub base_of_unconstrained : base_class boxes 6 (plain_formal 0) ≡ Some 0
  pub base_of_constrained : base_type boxes 6 (detachable_formal 1) ≡ Some (array string)
  pub base_of_none : base_class boxes 6 none_type ≡ None
  pub class_attached : is_attached boxes 6 string ≡ true
  pub class_detachable : is_attached boxes 6 string_or_void ≡ false
  pub formal_plain : is_attached boxes 6 (plain_formal 0) ≡ false
  pub formal_attached : is_attached boxes 6 (attached_formal 0) ≡ true
  pub formal_detachable : is_attached boxes 6 (detachable_formal 1) ≡ false
  pub constraint_attached : is_attached boxes 6 (plain_formal 1) ≡ true
  pub constraint_detachable : is_attached boxes 6 (plain_formal 2) ≡ false
  pub none_attached : is_attached boxes 6 none_type ≡ false

-- ---- forms and substitution

pub record FormExamples : Type 0 where
  pub count : name_count (array (array (plain_formal 0))) ≡ 3
  pub attach : attached_form string_or_void ≡ string
  pub detach : detachable_form (plain_formal 1) ≡ detachable_formal 1
  pub none_attach : attached_form none_type ≡ none_type
  pub plain_actual : put_in (actuals (string ∷ integer ∷ [])) (plain_formal 1) ≡ integer
  pub detachable_actual : put_in (actuals (string ∷ [])) (detachable_formal 0) ≡ string_or_void
  pub attached_actual : put_in (actuals (string_or_void ∷ [])) (attached_formal 0) ≡ string
  -- by another formal
  pub formal_actual : put_in (actuals (plain_formal 3 ∷ [])) (attached_formal 0) ≡ attached_formal 3
  pub inside : put_in (actuals (string ∷ [])) (applied_or_void 5 (array (detachable_formal 0)))
      ≡ applied_or_void 5 (array string_or_void)
  pub no_formal : put_in (actuals (string ∷ [])) (array integer) ≡ array integer
  pub past_the_end : put_in (actuals (string ∷ [])) (detachable_formal 1) ≡ none_type
  pub basic : is_self_initialising integer ≡ true
  pub reference : is_self_initialising string ≡ false
  pub with_void : is_self_initialising string_or_void ≡ true
  pub formal_with_void : is_self_initialising (detachable_formal 0) ≡ true
  pub formal : is_self_initialising (plain_formal 0) ≡ false
  pub none : is_self_initialising none_type ≡ false
