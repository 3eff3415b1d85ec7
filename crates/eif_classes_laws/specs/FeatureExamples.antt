-- The names of classes, their origins and their fields, worked out. Above each stands its class text; the first
-- class of a list has the number 6.
use Prim.Native.String.{String}
use Rattle.std.specs.Prelude.{◌≡◌, ℕ, List, [], ◌∷◌, map, Option, Some, None, codes}
use Rattle.eif_tree.specs.Tree.{ParentT, DeclT, ClassT}
use Rattle.eif_classes.specs.Entries.{Declaration, Origin, deferred, declared_as, clashing}
use Rattle.eif_classes.specs.Features.{names, entries_in, origin, fields}
use Rattle.eif_classes.specs.Signatures.{signature_source}
use Rattle.eif_classes_laws.specs.ClassTexts.{texts, plain, routine_of, deferred_of, field, constant_of, parent, renaming, undefining, redefining, class, inherits, creates, declares, class_at}

-- a name as the class with that number declares it
abbrev pub declaration : ℕ → String → DeclT → Declaration
declaration d s x = record { class_number = d; name = codes s; tree = x }

abbrev pub declared : ℕ → String → DeclT → Option Origin
declared d s x = Some (declared_as (declaration d s x))

-- ---- a renamed creator

-- class PERSON create make feature name: STRING make do end end
abbrev pub person : ClassT
person =
    creates ("make" ∷ []) (declares (field "name" (plain "string") ∷ routine_of "make" ∷ []) (class "person"))

-- class APP inherit PERSON rename make as make_person end create make feature title: STRING make do end end
abbrev pub renaming_app : ClassT
renaming_app =
    inherits (renaming "make" "make_person" (parent "person") ∷ [])
    (creates ("make" ∷ []) (declares (field "title" (plain "string") ∷ routine_of "make" ∷ []) (class "app")))

-- APP has the number 6 and PERSON 7
abbrev pub renamed_system : List ClassT
renamed_system = renaming_app ∷ person ∷ []

pub record RenamedExamples : Type 0 where
  pub all_names : names (class_at renamed_system 6)
      ≡ texts ("default_create" ∷ "make" ∷ "make_person" ∷ "name" ∷ "out" ∷ "print" ∷ "title" ∷ [])
  pub all_fields : fields (class_at renamed_system 6) ≡ texts ("name" ∷ "title" ∷ [])
  -- in the order of PERSON's names
  pub finals : map (λ e. e.final) (entries_in (class_at renamed_system 6))
      ≡ texts ("default_create" ∷ "make_person" ∷ "name" ∷ "out" ∷ "print" ∷ [])
  pub renamed : origin (class_at renamed_system 6) (codes "make_person")
      ≡ declared 7 "make" (routine_of "make")
  pub own : origin (class_at renamed_system 6) (codes "make") ≡ declared 6 "make" (routine_of "make")
  pub absent : origin (class_at renamed_system 6) (codes "nope") ≡ None
  pub of_any : names (class_at renamed_system 0) ≡ texts ("default_create" ∷ "out" ∷ "print" ∷ [])

-- ---- joined features

-- class P feature f deferred end end
abbrev pub class_p : ClassT
class_p = declares (deferred_of "f" ∷ []) (class "p")

-- class Q feature f do end end
abbrev pub class_q : ClassT
class_q = declares (routine_of "f" ∷ []) (class "q")

-- class R feature f: INTEGER end
abbrev pub class_r : ClassT
class_r = declares (field "f" (plain "integer") ∷ []) (class "r")

-- class S inherit Q end
abbrev pub class_s : ClassT
class_s = inherits (parent "q" ∷ []) (class "s")

-- class D inherit .. end
abbrev pub class_d : List ParentT → ClassT
class_d parents = inherits parents (class "d")

-- P has the number 6, Q 7, R 8, S 9, and the class D with these parents 10
abbrev pub heir_of : List ParentT → List ClassT
heir_of parents = class_p ∷ class_q ∷ class_r ∷ class_s ∷ class_d parents ∷ []

abbrev pub origin_below : List ParentT → Option Origin
origin_below parents = origin (class_at (heir_of parents) 10) (codes "f")

abbrev pub source_below : List ParentT → Option Declaration
source_below parents = signature_source (class_at (heir_of parents) 10) (codes "f")

-- class D inherit P end
abbrev pub deferred_alone_parents : List ParentT
deferred_alone_parents = parent "p" ∷ []

-- class D inherit P Q end
abbrev pub effective_parents : List ParentT
effective_parents = parent "p" ∷ parent "q" ∷ []

-- class D inherit P Q undefine f end end
abbrev pub undefined_parents : List ParentT
undefined_parents = parent "p" ∷ undefining ("f" ∷ []) (parent "q") ∷ []

-- class D inherit Q undefine f end R end
abbrev pub other_parents : List ParentT
other_parents = undefining ("f" ∷ []) (parent "q") ∷ parent "r" ∷ []

-- class D inherit Q R end
abbrev pub clash_parents : List ParentT
clash_parents = parent "q" ∷ parent "r" ∷ []

-- class D inherit Q R rename f as g end end
abbrev pub apart_parents : List ParentT
apart_parents = parent "q" ∷ renaming "f" "g" (parent "r") ∷ []

-- class D inherit Q S end
abbrev pub shared_parents : List ParentT
shared_parents = parent "q" ∷ parent "s" ∷ []

-- class D inherit R undefine f end end
abbrev pub undefined_attribute_parents : List ParentT
undefined_attribute_parents = undefining ("f" ∷ []) (parent "r") ∷ []

-- class D inherit Q rename f as g, f as h end end
abbrev pub first_renaming_parents : List ParentT
first_renaming_parents = renaming "f" "h" (renaming "f" "g" (parent "q")) ∷ []

pub record JoinedExamples : Type 0 where
  pub deferred_alone : origin_below deferred_alone_parents ≡ Some deferred
  pub deferred_source : source_below deferred_alone_parents ≡ Some (declaration 6 "f" (deferred_of "f"))
  pub effective : origin_below effective_parents ≡ declared 7 "f" (routine_of "f")
  pub effective_source : source_below effective_parents ≡ Some (declaration 7 "f" (routine_of "f"))
  pub undefined : origin_below undefined_parents ≡ Some deferred
  pub undefined_source : source_below undefined_parents ≡ Some (declaration 6 "f" (deferred_of "f"))
  pub other : origin_below other_parents ≡ declared 8 "f" (field "f" (plain "integer"))
  pub clash : origin_below clash_parents ≡ Some clashing
  pub apart : origin_below apart_parents ≡ declared 7 "f" (routine_of "f")
  pub shared : origin_below shared_parents ≡ declared 7 "f" (routine_of "f")
  pub shared_names : names (class_at (heir_of shared_parents) 10)
      ≡ texts ("default_create" ∷ "f" ∷ "out" ∷ "print" ∷ [])
  -- an attribute counts as undefined where it is listed
  pub undefined_attribute : origin_below undefined_attribute_parents ≡ Some deferred
  -- the first renaming counts
  pub first_renaming : names (class_at (heir_of first_renaming_parents) 10)
      ≡ texts ("default_create" ∷ "g" ∷ "out" ∷ "print" ∷ [])

-- ---- declarations

-- class D inherit Q redefine f end feature .. end
abbrev pub redeclaring_d : List DeclT → ClassT
redeclaring_d ds = inherits (redefining ("f" ∷ []) (parent "q") ∷ []) (declares ds (class "d"))

-- Q has the number 6, and D 7
abbrev pub redeclaring : List DeclT → List ClassT
redeclaring ds = class_q ∷ redeclaring_d ds ∷ []

-- class D feature .. end
abbrev pub declaring_d : List DeclT → ClassT
declaring_d ds = declares ds (class "d")

abbrev pub alone : List DeclT → List ClassT
alone ds = declaring_d ds ∷ []

-- f do end
abbrev pub redefined_features : List DeclT
redefined_features = routine_of "f" ∷ []

-- f deferred end
abbrev pub made_deferred_features : List DeclT
made_deferred_features = deferred_of "f" ∷ []

-- f do end f: INTEGER
abbrev pub first_features : List DeclT
first_features = routine_of "f" ∷ field "f" (plain "integer") ∷ []

-- f: INTEGER f do end
abbrev pub first_field_features : List DeclT
first_field_features = field "f" (plain "integer") ∷ routine_of "f" ∷ []

-- c: INTEGER = 1
abbrev pub constant_features : List DeclT
constant_features = constant_of "c" ∷ []

-- fa do end f_1 do end f1 do end f do end
abbrev pub bytes_features : List DeclT
bytes_features = routine_of "fa" ∷ routine_of "f_1" ∷ routine_of "f1" ∷ routine_of "f" ∷ []

pub record DeclaredExamples : Type 0 where
  pub redefined : origin (class_at (redeclaring redefined_features) 7) (codes "f") ≡ declared 7 "f" (routine_of "f")
  pub made_deferred : origin (class_at (redeclaring made_deferred_features) 7) (codes "f") ≡ Some deferred
  pub deferred_source : signature_source (class_at (redeclaring made_deferred_features) 7) (codes "f")
      ≡ Some (declaration 7 "f" (deferred_of "f"))
  -- the first declaration counts
  pub first : origin (class_at (alone first_features) 6) (codes "f") ≡ declared 6 "f" (routine_of "f")
  pub first_no_field : fields (class_at (alone first_features) 6) ≡ []
  pub first_field : fields (class_at (alone first_field_features) 6) ≡ texts ("f" ∷ [])
  -- a constant is a routine
  pub constant : origin (class_at (alone constant_features) 6) (codes "c") ≡ declared 6 "c" (constant_of "c")
  pub constant_no_field : fields (class_at (alone constant_features) 6) ≡ []
  -- names go by their bytes
  pub bytes : names (class_at (alone bytes_features) 6)
      ≡ texts ("default_create" ∷ "f" ∷ "f1" ∷ "f_1" ∷ "fa" ∷ "out" ∷ "print" ∷ [])
