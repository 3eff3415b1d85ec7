-- Signatures, worked out. Above each stands its class text; the first class of a list has the
-- number 6.
use Prim.Native.String.{String}
use Rattle.std.specs.Prelude.{◌≡◌, ℕ, List, [], ◌∷◌, map, Option, Some, None, codes}
use Rattle.std.specs.Option.{option_map}
use Rattle.eif_tree.specs.declared.tree.Mark.TheVariants.{Detachable}
use Rattle.eif_tree.specs.Tree.{TypeT, ParentT, ClassT}
use Rattle.eif_classes.specs.Precursors.{precursor}
use Rattle.eif_classes.specs.Signatures.{Signature, signature, signed_entries_in}
use Rattle.eif_system.specs.TreeForms.{parent_clause}
use Rattle.eif_classes.specs.Types.{TyT}
use Rattle.eif_system.specs.Universe.{universe}
use Rattle.eif_classes_laws.specs.ClassTexts.{plain, sure, maybe, written, of, field, group, command, query, deferred_query, constant_of, parent, renaming, undefining, redefining, class, formal, generic, inherits, creates, declares, class_at}
use Rattle.eif_classes_laws.specs.TypesInWords.{detachable, applied_or_void, plain_formal, attached_formal, integer, string, string_or_void, array}

-- of arguments and a result
abbrev pub function : List TyT → TyT → Option Signature
function arguments result = Some (record { arguments = arguments; result = Some result })

-- of arguments and no result
abbrev pub procedure : List TyT → Option Signature
procedure arguments = Some (record { arguments = arguments; result = None })

abbrev pub signature_in : List ClassT → ℕ → String → Option Signature
signature_in given d s = signature (universe given) (class_at given d) (codes s)

-- ---- generic classes

-- class LINK [G] create make feature item: G next: detachable LINK [G] make (v: G) do end
-- set_next (n: detachable LINK [G]) do end end
abbrev pub link : ClassT
link =
    generic (formal "g" ∷ []) (creates ("make" ∷ [])
    (declares (field "item" (plain "g") ∷ field "next" (written Detachable "link" (plain "g" ∷ []))
    ∷ command "make" (group ("v" ∷ []) (plain "g") ∷ [])
    ∷ command "set_next" (group ("n" ∷ []) (written Detachable "link" (plain "g" ∷ [])) ∷ []) ∷ [])
    (class "link")))

-- class NAMES inherit LINK [STRING] rename item as name end end
abbrev pub name_list : ClassT
name_list =
    inherits (renaming "item" "name" (parent_clause (of "link" (plain "string"))) ∷ []) (class "names")

-- class ROWS [H] inherit LINK [ARRAY [H]] end
abbrev pub rows : ClassT
rows =
    generic (formal "h" ∷ []) (inherits (parent_clause (of "link" (of "array" (plain "h"))) ∷ []) (class "rows"))

-- class TABLE inherit ROWS [INTEGER] end
abbrev pub table : ClassT
table = inherits (parent_clause (of "rows" (plain "integer")) ∷ []) (class "table")

-- LINK has the number 6, NAMES 7, ROWS 8, TABLE 9
abbrev pub links : List ClassT
links = link ∷ name_list ∷ rows ∷ table ∷ []

pub record GenericExamples : Type 0 where
  pub attribute : signature_in links 6 "item" ≡ function [] (plain_formal 0)
  pub creator : signature_in links 6 "make" ≡ procedure (plain_formal 0 ∷ [])
  pub command : signature_in links 6 "set_next" ≡ procedure (applied_or_void 6 (plain_formal 0) ∷ [])
  pub renamed : signature_in links 7 "name" ≡ function [] string
  pub no_more : signature_in links 7 "item" ≡ None
  pub inherited : signature_in links 7 "set_next" ≡ procedure (applied_or_void 6 string ∷ [])
  pub one_step : signature_in links 8 "item" ≡ function [] (array (plain_formal 0))
  pub two_steps : signature_in links 9 "item" ≡ function [] (array integer)
  pub two_steps_inside : signature_in links 9 "next" ≡ function [] (applied_or_void 6 (array integer))
  -- the kernel: one argument for each name of a group
  pub groups : signature_in [] 5 "make_filled" ≡ procedure (plain_formal 0 ∷ integer ∷ integer ∷ [])
  pub no_arguments : signature_in [] 0 "default_create" ≡ procedure []
  pub of_any : signature_in links 9 "out" ≡ function [] string
  pub absent : signature_in links 9 "nope" ≡ None

-- ---- marked formals

-- class BOX [G] feature same: G sure: attached G maybe: detachable G c: INTEGER = 1 end
abbrev pub box : ClassT
box =
    generic (formal "g" ∷ [])
    (declares
    (field "same" (plain "g") ∷ field "sure" (sure "g") ∷ field "maybe" (maybe "g") ∷ constant_of "c" ∷ [])
    (class "box"))

-- class D inherit BOX [T] end
abbrev pub boxed_d : TypeT → ClassT
boxed_d t = inherits (parent_clause (of "box" t) ∷ []) (class "d")

-- BOX has the number 6, and D 7
abbrev pub boxes : TypeT → List ClassT
boxes t = box ∷ boxed_d t ∷ []

pub record MarkExamples : Type 0 where
  pub attached : signature_in (boxes (plain "string")) 6 "sure" ≡ function [] (attached_formal 0)
  pub constant : signature_in (boxes (plain "string")) 6 "c" ≡ function [] integer
  pub same : signature_in (boxes (maybe "string")) 7 "same" ≡ function [] string_or_void
  pub sure : signature_in (boxes (maybe "string")) 7 "sure" ≡ function [] string
  pub maybe : signature_in (boxes (plain "string")) 7 "maybe" ≡ function [] string_or_void

-- ---- which signature counts

-- class P feature f: detachable ANY deferred end end
abbrev pub class_p : ClassT
class_p = declares (deferred_query "f" (maybe "any") ∷ []) (class "p")

-- class Q [G] feature f: G do end end
abbrev pub class_q : ClassT
class_q = generic (formal "g" ∷ []) (declares (query "f" [] (plain "g") ∷ []) (class "q"))

-- Q [STRING]
abbrev pub q_of_string : ParentT
q_of_string = parent_clause (of "q" (plain "string"))

-- class D inherit .. end
abbrev pub class_d : List ParentT → ClassT
class_d parents = inherits parents (class "d")

-- P has the number 6, Q 7, and D with these parents 8
abbrev pub heir_of : List ParentT → List ClassT
heir_of parents = class_p ∷ class_q ∷ class_d parents ∷ []

-- class D inherit P Q [STRING] redefine f end feature f: INTEGER do end end
abbrev pub redeclaring_d : ClassT
redeclaring_d =
    inherits (parent "p" ∷ redefining ("f" ∷ []) q_of_string ∷ [])
    (declares (query "f" [] (plain "integer") ∷ []) (class "d"))

abbrev pub redeclaring : List ClassT
redeclaring = class_p ∷ class_q ∷ redeclaring_d ∷ []

-- class D inherit Q [STRING] redefine f end Q [STRING] redefine f end feature f: INTEGER do end end
abbrev pub twice_redefined_d : ClassT
twice_redefined_d =
    inherits (redefining ("f" ∷ []) q_of_string ∷ redefining ("f" ∷ []) q_of_string ∷ [])
    (declares (query "f" [] (plain "integer") ∷ []) (class "d"))

abbrev pub twice_redefined : List ClassT
twice_redefined = class_p ∷ class_q ∷ twice_redefined_d ∷ []

-- the signatures of the entries of f in D, over D's formals
abbrev pub entry_signatures : List ClassT → List Signature
entry_signatures given =
    map (λ s. s.signature) (signed_entries_in (universe given) (class_at given 8) (codes "f"))

-- the signature of Precursor in D's f; where a parent is named, of that parent's version
abbrev pub precursor_signature : List ClassT → Option (List ℕ) → Option Signature
precursor_signature given parent =
    option_map (λ s. s.signature)
    (precursor (λ s. s.entry) parent (signed_entries_in (universe given) (class_at given 8) (codes "f")))

-- class D inherit P Q [STRING] end
abbrev pub effective_parents : List ParentT
effective_parents = parent "p" ∷ q_of_string ∷ []

-- class D inherit P Q [STRING] undefine f end end
abbrev pub first_parents : List ParentT
first_parents = parent "p" ∷ undefining ("f" ∷ []) q_of_string ∷ []

-- class D inherit Q [STRING] undefine f end P end
abbrev pub first_undefined_parents : List ParentT
first_undefined_parents = undefining ("f" ∷ []) q_of_string ∷ parent "p" ∷ []

pub record SourceExamples : Type 0 where
  pub effective : signature_in (heir_of effective_parents) 8 "f" ≡ function [] string
  pub first : signature_in (heir_of first_parents) 8 "f" ≡ function [] (detachable 0)
  pub first_undefined : signature_in (heir_of first_undefined_parents) 8 "f" ≡ function [] string
  pub declared : signature_in redeclaring 8 "f" ≡ function [] integer
  pub of_entries : entry_signatures redeclaring
      ≡ record { arguments = []; result = Some (detachable 0) }
      ∷ record { arguments = []; result = Some string } ∷ []
  -- Precursor, Precursor {Q}, Precursor {P}
  pub precursor : precursor_signature redeclaring None ≡ function [] string
  pub named_precursor : precursor_signature redeclaring (Some (codes "q")) ≡ function [] string
  pub no_precursor : precursor_signature redeclaring (Some (codes "p")) ≡ None
  -- two clauses redefine it
  pub two_precursors : precursor_signature twice_redefined None ≡ None
