-- Conformance, worked out.
use Rattle.std.specs.Prelude.{◌≡◌, Bool, true, false, List, [], ◌∷◌, ◌++◌}
use Rattle.eif_tree.specs.Tree.{ClassT}
use Rattle.eif_classes.specs.Conformance.{conforms, closed_conforms}
use Rattle.eif_system.specs.TreeForms.{parent_clause}
use Rattle.eif_classes.specs.Types.{TyT, none_type}
use Rattle.eif_system.specs.Universe.{universe}
use Rattle.eif_classes_laws.specs.ClassTexts.{plain, maybe, of, parent, class, formal, constrained, generic, inherits}
use Rattle.eif_classes_laws.specs.TypesInWords.{attached, detachable, applied, applied_or_void, plain_formal, attached_formal, detachable_formal, any, integer, string, string_or_void, array}

-- ---- class types

-- class Z end
abbrev pub class_z : ClassT
class_z = class "z"

-- class B inherit Z end
abbrev pub class_b : ClassT
class_b = inherits (parent "z" ∷ []) (class "b")

-- class LINK [G] end
abbrev pub link : ClassT
link = generic (formal "g" ∷ []) (class "link")

-- class NAMES inherit LINK [STRING] end
abbrev pub name_list : ClassT
name_list = inherits (parent_clause (of "link" (plain "string")) ∷ []) (class "names")

-- class MIXED inherit NAMES LINK [detachable STRING] end
abbrev pub mixed : ClassT
mixed = inherits (parent "names" ∷ parent_clause (of "link" (maybe "string")) ∷ []) (class "mixed")

-- Z has the number 6, B 7, LINK 8, NAMES 9, MIXED 10
abbrev pub classes : List ClassT
classes = class_z ∷ class_b ∷ link ∷ name_list ∷ mixed ∷ []

-- in Z, which has no formals
abbrev pub fits : TyT → TyT → Bool
fits a b = conforms (universe classes) 6 a b

pub record ClassConformance : Type 0 where
  pub heir : fits (attached 7) (attached 6) ≡ true
  pub parent : fits (attached 6) (attached 7) ≡ false
  pub void_heir : fits (detachable 7) (attached 6) ≡ false
  pub heir_or_void : fits (attached 7) (detachable 6) ≡ true
  pub void_heir_or_void : fits (detachable 7) (detachable 6) ≡ true
  pub itself : fits (attached 6) (attached 6) ≡ true
  pub to_any : fits (attached 7) any ≡ true
  pub basic_to_any : fits integer any ≡ true
  pub basic_to_basic : fits integer (attached 2) ≡ false
  -- NONE
  pub none : fits none_type (attached 6) ≡ false
  pub none_or_void : fits none_type (detachable 6) ≡ true
  pub none_to_none : fits none_type none_type ≡ false
  pub to_none : fits (detachable 6) none_type ≡ false
  -- actuals are equal
  pub same_actuals : fits (array (attached 6)) (array (attached 6)) ≡ true
  pub marked_actual : fits (array (attached 6)) (array (detachable 6)) ≡ false
  pub heir_as_actual : fits (array (attached 7)) (array (attached 6)) ≡ false
  pub generic_to_any : fits (array (detachable 6)) any ≡ true
  pub derived : fits (attached 9) (applied 8 string) ≡ true
  pub derived_or_void : fits (attached 9) (applied_or_void 8 string) ≡ true
  pub derived_other : fits (attached 9) (applied 8 string_or_void) ≡ false
  -- where its actuals are not defined it conforms to no LINK
  pub undefined : fits (attached 10) (applied 8 string) ≡ false
  pub undefined_to_any : fits (attached 10) any ≡ true
  -- closed types
  pub closed : closed_conforms (universe classes) (attached 7) (detachable 6) ≡ true
  pub closed_void : closed_conforms (universe classes) (detachable 7) (attached 6) ≡ false
  pub no_formal : closed_conforms (universe classes) (plain_formal 0) (plain_formal 0) ≡ false

-- ---- formals

-- class BOX [G, H -> B, K -> detachable B] end
abbrev pub box : ClassT
box = generic (formal "g" ∷ constrained "h" (plain "b") ∷ constrained "k" (maybe "b") ∷ []) (class "box")

-- BOX has the number 11
abbrev pub with_box : List ClassT
with_box = classes ++ box ∷ []

-- in BOX
abbrev pub fits_in_box : TyT → TyT → Bool
fits_in_box a b = conforms (universe with_box) 11 a b

pub record FormalConformance : Type 0 where
  -- one formal
  pub plain_to_plain : fits_in_box (plain_formal 0) (plain_formal 0) ≡ true
  pub plain_to_attached : fits_in_box (plain_formal 0) (attached_formal 0) ≡ false
  pub plain_to_detachable : fits_in_box (plain_formal 0) (detachable_formal 0) ≡ true
  pub attached_to_plain : fits_in_box (attached_formal 0) (plain_formal 0) ≡ true
  pub attached_to_attached : fits_in_box (attached_formal 0) (attached_formal 0) ≡ true
  pub attached_to_detachable : fits_in_box (attached_formal 0) (detachable_formal 0) ≡ true
  pub detachable_to_plain : fits_in_box (detachable_formal 0) (plain_formal 0) ≡ false
  pub detachable_to_attached : fits_in_box (detachable_formal 0) (attached_formal 0) ≡ false
  pub detachable_to_detachable : fits_in_box (detachable_formal 0) (detachable_formal 0) ≡ true
  pub other_formal : fits_in_box (plain_formal 0) (plain_formal 1) ≡ false
  pub past_the_end : fits_in_box (plain_formal 3) (plain_formal 3) ≡ false
  -- to a class type by the constraint, G
  pub unconstrained_to_any : fits_in_box (plain_formal 0) any ≡ false
  pub unconstrained_or_void : fits_in_box (plain_formal 0) (detachable 0) ≡ true
  pub attached_to_any : fits_in_box (attached_formal 0) any ≡ true
  -- H
  pub to_constraint : fits_in_box (plain_formal 1) (attached 7) ≡ true
  pub above_constraint : fits_in_box (plain_formal 1) (attached 6) ≡ true
  pub void_to_constraint : fits_in_box (detachable_formal 1) (attached 7) ≡ false
  pub void_or_constraint : fits_in_box (detachable_formal 1) (detachable 7) ≡ true
  -- K
  pub to_void_constraint : fits_in_box (plain_formal 2) (attached 7) ≡ false
  pub attached_to_constraint : fits_in_box (attached_formal 2) (attached 7) ≡ true
  -- no class type conforms to a formal, and NONE to a detachable one of the class alone
  pub constraint_to_formal : fits_in_box (attached 7) (plain_formal 1) ≡ false
  pub none_to_plain : fits_in_box none_type (plain_formal 0) ≡ false
  pub none_to_detachable : fits_in_box none_type (detachable_formal 0) ≡ true
  pub none_past_the_end : fits_in_box none_type (detachable_formal 3) ≡ false
  pub to_none : fits_in_box (detachable_formal 0) none_type ≡ false
  -- actuals are equal, also formals
  pub formal_actual : fits_in_box (array (plain_formal 0)) (array (plain_formal 0)) ≡ true
  pub marked_formal_actual : fits_in_box (array (attached_formal 0)) (array (plain_formal 0)) ≡ false
