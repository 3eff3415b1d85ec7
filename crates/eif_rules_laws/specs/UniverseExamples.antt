-- For each rule of the universe a class that breaks it, with exactly its faults, and one that keeps it. Above each
-- stands its class text, which is one line of file 0; a second text is file 1.
use Rattle.std.specs.Prelude.{◌≡◌, ◌↔◌, ℕ, zero, suc, ◌+◌, true, false, List, [], ◌∷◌, take, Some, None, is_some, codes}
use Rattle.eif_base.specs.declared.code.Code.{Code}
use Rattle.eif_base.specs.declared.code.Code.TheVariants as code
use Rattle.eif_base.specs.declared.fault.Fault.{Fault}
use Rattle.eif_base.specs.declared.place.Place.{Place}
use Rattle.eif_base.specs.declared.root.Root.{Root}
use Rattle.eif_tree.specs.declared.tree.Mark.TheVariants.{Plain}
use Rattle.eif_tree.specs.Tree.{TypeT, type_at, no_types, and_type, void_value, unqualified, creation, test, no_exs, and_ex, call, no_inss, and_ins, FormalT, ParentT, ClassT}
use Rattle.eif_system.specs.TreeForms.{nowhere, inline, named, unmarked, detachable, bare_class, parent_clause, created_by, with_features, procedure, attribute_of}
use Rattle.eif_system.specs.Universe.{universe, class_number}
use Rattle.eif_system.specs.Graph.{IsProperAncestor, IsListOf}
use Rattle.eif_system.specs.Inheritance.{graph_of}
use Rattle.eif_rules.specs.FaultForms.{fault_in, fault_at}
use Rattle.eif_rules.specs.UniverseRules.{IsOwnAncestor, HasMoreAncestors, text_faults, repeated_class, ClassBroken, root_faults}

-- ---- class texts in a few words

abbrev pub at : ℕ → Place
at column = inline 0 column

-- a type that is a name
abbrev pub plain : ℕ → List ℕ → TypeT
plain column name = unmarked (at column) name

-- a type with one actual
abbrev pub with_actual : ℕ → List ℕ → TypeT → TypeT
with_actual column name actual = type_at (at column) (at column) Plain name (and_type actual no_types)

-- a formal without a constraint
abbrev pub formal : ℕ → List ℕ → FormalT
formal column name = record { place = at column; name = name; constraint = None }

abbrev pub constrained : ℕ → List ℕ → TypeT → FormalT
constrained column name constraint = record { place = at column; name = name; constraint = Some constraint }

-- class B end
abbrev pub class_b : ClassT
class_b = bare_class (at 7) (codes "b")

-- class B feature f: .. end
abbrev pub with_attribute : TypeT → ClassT
with_attribute ty = record class_b { features = with_features (attribute_of (named (at 17) (codes "f")) ty ∷ []) }

-- class B inherit .. end
abbrev pub with_parent : TypeT → ClassT
with_parent parent = record class_b { parents = parent_clause parent ∷ [] }

-- class B [..] end
abbrev pub with_formals : List FormalT → ClassT
with_formals formals = record class_b { formals = formals }

-- class B [..] inherit .. end
abbrev pub with_formal_and_parent : FormalT → TypeT → ClassT
with_formal_and_parent f parent = record (with_formals (f ∷ [])) { parents = parent_clause parent ∷ [] }

-- the faults of the text of a class that is given alone
abbrev pub faults_alone : ClassT → List Fault
faults_alone c = text_faults (universe (c ∷ [])) c

-- ---- written types

-- ARRAY [ARRAY [.. ANY ..]], from that column on, with so many arrays
abbrev pub arrays : ℕ → ℕ → TypeT
arrays column zero = plain column (codes "any")
arrays column (suc n) = with_actual column (codes "array") (arrays (column + 7) n)

-- a fault in the feature f of the class B
abbrev pub fault_in_attribute : Code → ℕ → ℕ → List ℕ → Fault
fault_in_attribute code case column about = fault_in class_b (codes "f") code case (at column) about

-- class B feature f: NOPE end
abbrev pub unknown_class_b : ClassT
unknown_class_b = with_attribute (plain 20 (codes "nope"))

-- class B feature f: B end
abbrev pub known_class_b : ClassT
known_class_b = with_attribute (plain 20 (codes "b"))

-- class B feature f: ARRAY end
abbrev pub no_actual_b : ClassT
no_actual_b = with_attribute (plain 20 (codes "array"))

-- class B feature f: ARRAY [ANY] end
abbrev pub one_actual_b : ClassT
one_actual_b = with_attribute (with_actual 20 (codes "array") (plain 27 (codes "any")))

-- class B feature f: ARRAY [NOPE] end
abbrev pub unknown_actual_b : ClassT
unknown_actual_b = with_attribute (with_actual 20 (codes "array") (plain 27 (codes "nope")))

-- class B feature f: detachable INTEGER end
abbrev pub marked_integer_b : ClassT
marked_integer_b = with_attribute (detachable (at 20) (at 31) (codes "integer"))

-- class B feature f: detachable STRING end
abbrev pub marked_string_b : ClassT
marked_string_b = with_attribute (detachable (at 20) (at 31) (codes "string"))

-- class B feature f: ARRAY [ARRAY [.. ANY ..]] end, with 100 arrays
abbrev pub long_type_b : ClassT
long_type_b = with_attribute (arrays 20 100)

-- class B feature f: ARRAY [ARRAY [.. ANY ..]] end, with 99 arrays
abbrev pub longest_type_b : ClassT
longest_type_b = with_attribute (arrays 20 99)

-- class B feature f, g: NOPE end
abbrev pub two_names_b : ClassT
two_names_b = record class_b {
  features = with_features (
      record (attribute_of (named (at 17) (codes "f")) (plain 23 (codes "nope"))) {
        names = named (at 17) (codes "f") ∷ named (at 20) (codes "g") ∷ [];
      }
      ∷ []);
}

-- class B feature f do print (create {NOPE}) end end
abbrev pub in_body_b : ClassT
in_body_b = record class_b {
  features = with_features (
      procedure (named (at 17) (codes "f"))
      (and_ins
      (call
      (unqualified (at 22) (codes "print")
      (and_ex (creation (at 29) (plain 37 (codes "nope")) None no_exs) no_exs))) no_inss)
      ∷ []);
}

-- class B invariant attached {NOPE} Void end
abbrev pub in_invariant_b : ClassT
in_invariant_b = record class_b {
  invariants = and_ex (test (at 19) (Some (plain 29 (codes "nope"))) None (void_value (at 35))) no_exs;
}

pub record TypeExamples : Type 0 where
  -- VTCT.1
  pub unknown_class : faults_alone unknown_class_b ≡ fault_in_attribute code.Vtct 1 20 (codes "nope") ∷ []
  pub known_class : faults_alone known_class_b ≡ []
  -- XGEN.1
  pub no_actual : faults_alone no_actual_b ≡ fault_in_attribute code.Xgen 1 20 (codes "array") ∷ []
  pub one_actual : faults_alone one_actual_b ≡ []
  pub unknown_actual : faults_alone unknown_actual_b ≡ fault_in_attribute code.Vtct 1 27 (codes "nope") ∷ []
  -- XMRK.1
  pub marked_integer : faults_alone marked_integer_b ≡ fault_in_attribute code.Xmrk 1 20 (codes "integer") ∷ []
  pub marked_string : faults_alone marked_string_b ≡ []
  -- XLIM.4
  pub long_type : faults_alone long_type_b ≡ fault_in_attribute code.Xlim 4 20 (codes "array") ∷ []
  pub longest_type : faults_alone longest_type_b ≡ []
  -- a fault in a declaration of two names is told of the first
  pub two_names : faults_alone two_names_b ≡ fault_in_attribute code.Vtct 1 23 (codes "nope") ∷ []
  -- in a body
  pub in_body : faults_alone in_body_b ≡ fault_in class_b (codes "f") code.Vtct 1 (at 37) (codes "nope") ∷ []
  -- in the class invariant
  pub in_invariant : faults_alone in_invariant_b
      ≡ fault_in class_b (codes "invariant") code.Vtct 1 (at 29) (codes "nope") ∷ []

-- ---- formals

-- A, B, C, .., from that column and letter on, so many
abbrev pub letters : ℕ → ℕ → ℕ → List FormalT
letters column letter zero = []
letters column letter (suc n) = formal column (letter ∷ []) ∷ letters (column + 3) (letter + 1) n

-- class Z [A, B, C, ..] end, with so many formals
abbrev pub with_letters : ℕ → ClassT
with_letters n = record (bare_class (at 7) (codes "z")) { formals = letters 10 97 n }

-- a fault in no feature of the class B
abbrev pub fault_in_text : Code → ℕ → ℕ → List ℕ → Fault
fault_in_text code case column about = fault_at class_b code case (at column) about

-- class B [ANY] end
abbrev pub names_class_b : ClassT
names_class_b = with_formals (formal 10 (codes "any") ∷ [])

-- class B [G] end
abbrev pub names_none_b : ClassT
names_none_b = with_formals (formal 10 (codes "g") ∷ [])

-- class B [G, G] end
abbrev pub repeated_b : ClassT
repeated_b = with_formals (formal 10 (codes "g") ∷ formal 13 (codes "g") ∷ [])

-- class B [G, H] end
abbrev pub distinct_b : ClassT
distinct_b = with_formals (formal 10 (codes "g") ∷ formal 13 (codes "h") ∷ [])

-- class B [G, H -> G] end
abbrev pub formal_constraint_b : ClassT
formal_constraint_b =
    with_formals (formal 10 (codes "g") ∷ constrained 13 (codes "h") (plain 18 (codes "g")) ∷ [])

-- class B [G -> ANY] end
abbrev pub class_constraint_b : ClassT
class_constraint_b = with_formals (constrained 10 (codes "g") (plain 15 (codes "any")) ∷ [])

-- class B [G -> NOPE] end
abbrev pub unknown_constraint_b : ClassT
unknown_constraint_b = with_formals (constrained 10 (codes "g") (plain 15 (codes "nope")) ∷ [])

-- class Z [A, B, C, ..] end, with 17 formals
abbrev pub many_z : ClassT
many_z = with_letters 17

-- class Z [A, B, C, ..] end, with 16 formals
abbrev pub most_z : ClassT
most_z = with_letters 16

-- class B [INTEGER] feature f: detachable INTEGER end
abbrev pub hidden_integer_b : ClassT
hidden_integer_b = record (with_formals (formal 10 (codes "integer") ∷ [])) {
  features = with_features (attribute_of (named (at 27) (codes "f")) (detachable (at 30) (at 41) (codes "integer")) ∷ []);
}

pub record FormalExamples : Type 0 where
  -- VCFG.1
  pub names_class : faults_alone names_class_b ≡ fault_in_text code.Vcfg 1 10 (codes "any") ∷ []
  pub names_none : faults_alone names_none_b ≡ []
  -- VCFG.2
  pub repeated : faults_alone repeated_b ≡ fault_in_text code.Vcfg 2 13 (codes "g") ∷ []
  pub distinct : faults_alone distinct_b ≡ []
  -- VCFG.3
  pub formal_constraint : faults_alone formal_constraint_b ≡ fault_in_text code.Vcfg 3 18 (codes "g") ∷ []
  pub class_constraint : faults_alone class_constraint_b ≡ []
  pub unknown_constraint : faults_alone unknown_constraint_b ≡ fault_in_text code.Vtct 1 15 (codes "nope") ∷ []
  -- XLIM.3
  pub many : faults_alone many_z ≡ fault_at many_z code.Xlim 3 (at 7) (codes "z") ∷ []
  pub most : faults_alone most_z ≡ []
  -- a formal hides the class of its name, so XMRK is kept
  pub hidden_integer : faults_alone hidden_integer_b ≡ fault_in_text code.Vcfg 1 10 (codes "integer") ∷ []

-- ---- parent clauses

-- ANY ANY .., from that column on, so many
abbrev pub any_clauses : ℕ → ℕ → List ParentT
any_clauses column zero = []
any_clauses column (suc n) = parent_clause (plain column (codes "any")) ∷ any_clauses (column + 4) n

-- class B inherit ANY ANY .. end, with so many clauses
abbrev pub with_any_clauses : ℕ → ClassT
with_any_clauses n = record class_b { parents = any_clauses 17 n }

-- class D end, in file 1
abbrev pub class_d : ClassT
class_d = bare_class (inline 1 7) (codes "d")

-- class D inherit B end, in file 1
abbrev pub class_d_below_b : ClassT
class_d_below_b = record class_d { parents = parent_clause (unmarked (inline 1 17) (codes "b")) ∷ [] }

-- class B inherit B end
abbrev pub own_parent_b : ClassT
own_parent_b = with_parent (plain 17 (codes "b"))

-- class B inherit D end
abbrev pub class_b_below_d : ClassT
class_b_below_d = with_parent (plain 17 (codes "d"))

-- the class B, whose number is 6, breaks VHPR.1 in its clause with that parent
abbrev pub IsAboveItself : List ClassT → TypeT → Fault → Type 0
IsAboveItself given parent f = IsOwnAncestor (universe given) 6 (with_parent parent) (parent_clause parent) f

-- class B [G] inherit G end
abbrev pub formal_parent_b : ClassT
formal_parent_b = with_formal_and_parent (formal 10 (codes "g")) (plain 21 (codes "g"))

-- class B [G] inherit ANY end
abbrev pub class_parent_b : ClassT
class_parent_b = with_formal_and_parent (formal 10 (codes "g")) (plain 21 (codes "any"))

-- class B inherit STRING end
abbrev pub kernel_parent_b : ClassT
kernel_parent_b = with_parent (plain 17 (codes "string"))

-- class B inherit ANY end
abbrev pub any_parent_b : ClassT
any_parent_b = with_parent (plain 17 (codes "any"))

-- class B [STRING] inherit STRING [ANY] end
abbrev pub hidden_class_b : ClassT
hidden_class_b =
    with_formal_and_parent (formal 10 (codes "string")) (with_actual 26 (codes "string") (plain 34 (codes "any")))

-- class B [ARRAY] inherit ARRAY end
abbrev pub hidden_generic_b : ClassT
hidden_generic_b = with_formal_and_parent (formal 10 (codes "array")) (plain 25 (codes "array"))

-- class B inherit ANY ANY .. end, with 65 clauses
abbrev pub many_b : ClassT
many_b = with_any_clauses 65

-- class B inherit ANY ANY .. end, with 64 clauses
abbrev pub most_b : ClassT
most_b = with_any_clauses 64

pub record ParentExamples : Type 0 where
  -- VTCT.2
  pub formal_parent : faults_alone formal_parent_b ≡ fault_in_text code.Vtct 2 21 (codes "g") ∷ []
  pub class_parent : faults_alone class_parent_b ≡ []
  -- XKER.1
  pub kernel_parent : faults_alone kernel_parent_b ≡ fault_in_text code.Xker 1 17 (codes "string") ∷ []
  pub any_parent : faults_alone any_parent_b ≡ []
  -- a formal hides the class of its name
  pub hidden_class : faults_alone hidden_class_b
      ≡ fault_in_text code.Xgen 1 26 (codes "string")
      ∷ fault_in_text code.Vcfg 1 10 (codes "string")
      ∷ fault_in_text code.Vtct 2 26 (codes "string") ∷ []
  pub hidden_generic : faults_alone hidden_generic_b
      ≡ fault_in_text code.Vcfg 1 10 (codes "array") ∷ fault_in_text code.Vtct 2 25 (codes "array") ∷ []
  -- VHPR.1
  pub own_parent : (f : Fault) → IsAboveItself (own_parent_b ∷ []) (plain 17 (codes "b")) f
      ↔ (f ≡ fault_in_text code.Vhpr 1 17 (codes "b"))
  pub own_ancestor : (f : Fault) → IsAboveItself (class_b_below_d ∷ class_d_below_b ∷ []) (plain 17 (codes "d")) f
      ↔ (f ≡ fault_in_text code.Vhpr 1 17 (codes "d"))
  pub no_own_ancestor : (f : Fault) → IsAboveItself (class_b_below_d ∷ class_d ∷ []) (plain 17 (codes "d")) f → ⊥
  -- XLIM.1
  pub many : faults_alone many_b ≡ fault_in_text code.Xlim 1 7 (codes "b") ∷ []
  pub most : faults_alone most_b ≡ []
  -- XLIM.2, with other bounds: B has one proper ancestor, ANY; it is more than none, and not more than one
  pub one_ancestor : IsListOf (IsProperAncestor (graph_of (universe (any_parent_b ∷ []))) 6) (0 ∷ [])
  pub more_than_none : HasMoreAncestors 0 (universe (any_parent_b ∷ [])) 6
  pub not_more_than_one : HasMoreAncestors 1 (universe (any_parent_b ∷ [])) 6 → ⊥

-- ---- classes of one name

-- class B feature f: NOPE end, in file 1
abbrev pub second_b : ClassT
second_b = record (bare_class (inline 1 7) (codes "b")) {
  features = with_features (attribute_of (named (inline 1 17) (codes "f")) (unmarked (inline 1 20) (codes "nope")) ∷ []);
}

-- class ANY end
abbrev pub class_any : ClassT
class_any = bare_class (at 7) (codes "any")

pub record ClassExamples : Type 0 where
  -- XDUP.1: the second is judged by nothing else
  pub repeated : is_some (class_number (take 7 (universe (class_b ∷ second_b ∷ []))) (codes "b")) ≡ true
  pub repeated_fault : (f : Fault) → ClassBroken (universe (class_b ∷ second_b ∷ [])) 7 second_b f
      ↔ (f ≡ fault_at second_b code.Xdup 1 (inline 1 7) (codes "b"))
  pub first : is_some (class_number (take 6 (universe (class_b ∷ second_b ∷ []))) (codes "b")) ≡ false
  pub kernel_name : is_some (class_number (take 6 (universe (class_any ∷ []))) (codes "any")) ≡ true
  pub kernel_name_fault : repeated_class class_any ≡ fault_at class_any code.Xdup 1 (at 7) (codes "any")
  pub distinct : is_some (class_number (take 7 (universe (class_b ∷ class_d ∷ []))) (codes "d")) ≡ false

-- ---- the root

-- created by `make`
abbrev pub root_of : List ℕ → Root
root_of name = record { class_name = name; procedure_name = codes "make" }

-- class B create make feature make do end end
abbrev pub created_b : ClassT
created_b = record class_b {
  creators = created_by (named (at 16) (codes "make") ∷ []);
  features = with_features (procedure (named (at 29) (codes "make")) no_inss ∷ []);
}

-- deferred class B end
abbrev pub deferred_b : ClassT
deferred_b = record (bare_class (at 16) (codes "b")) { is_deferred = true }

-- deferred class B [G] end
abbrev pub deferred_generic_b : ClassT
deferred_generic_b = record deferred_b { formals = formal 19 (codes "g") ∷ [] }

-- class STRING end
abbrev pub class_string : ClassT
class_string = bare_class (at 7) (codes "string")

-- told of no place
abbrev pub root_fault : List ℕ → Fault
root_fault name = record { code = code.Vsrt; case = 1; class = name; feature = []; place = nowhere; about = name }

-- class B [G] end
abbrev pub is_generic_b : ClassT
is_generic_b = with_formals (formal 10 (codes "g") ∷ [])

pub record RootExamples : Type 0 where
  -- the root B.make
  pub given : root_faults (created_b ∷ []) (root_of (codes "b")) ≡ []
  -- VSRT.1: the root D.make of the same class
  pub not_given : root_faults (created_b ∷ []) (root_of (codes "d")) ≡ root_fault (codes "d") ∷ []
  -- the root STRING.make, which is a class of the kernel also where a text has its name
  pub kernel_class : root_faults (class_string ∷ []) (root_of (codes "string")) ≡ root_fault (codes "string") ∷ []
  -- VSRT.2
  pub is_deferred : root_faults (deferred_b ∷ []) (root_of (codes "b"))
      ≡ fault_in_text code.Vsrt 2 16 (codes "b") ∷ []
  -- VSRT.3
  pub is_generic : root_faults (is_generic_b ∷ []) (root_of (codes "b"))
      ≡ fault_in_text code.Vsrt 3 7 (codes "b") ∷ []
  pub is_both : root_faults (deferred_generic_b ∷ []) (root_of (codes "b"))
      ≡ fault_in_text code.Vsrt 2 16 (codes "b") ∷ fault_in_text code.Vsrt 3 16 (codes "b") ∷ []
