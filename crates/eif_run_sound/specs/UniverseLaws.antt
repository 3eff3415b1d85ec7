-- What runs ask of the classes of a universe. Each law is one that follows from rules which its classes keep.
use Rattle.std.specs.Prelude.{◌≡◌, ◌⊎◌, ℕ, true, false, List, [], map, Option, Some, None, is_some, slice_get}
use Rattle.std.specs.Option.{option_map}
use Rattle.eif_tree.specs.declared.tree.Literal.{Literal}
use Rattle.eif_tree.specs.declared.tree.Mark.{Mark}
use Rattle.eif_tree.specs.declared.tree.Mark.TheVariants.{Attached}
use Rattle.eif_tree.specs.Members.{result_name, body_of}
use Rattle.eif_tree.specs.Tree.{TypeT, no_inss, Inss, GroupT, constant, routine, DeclT, ClassT}
use Rattle.eif_classes.specs.Ancestry.{ancestor}
use Rattle.eif_classes.specs.Binding.{bind}
use Rattle.eif_classes.specs.Conformance.{conforms, closed_conforms}
use Rattle.eif_classes.specs.Constraints.{base_type, is_attached}
use Rattle.eif_classes.specs.Creators.{is_creator_for}
use Rattle.eif_classes.specs.Entries.{Declaration, declared_as}
use Rattle.eif_classes.specs.Features.{is_attribute, has_feature, origin}
use Rattle.eif_classes.specs.KernelNumbers.{any_number, is_basic}
use Rattle.eif_classes.specs.Precursors.{precursor}
use Rattle.eif_classes.specs.Resolution.{resolved, own_formals}
use Rattle.eif_classes.specs.Signatures.{Signature, SignedEntry, signature, declared_signature, signed_entries_in}
use Rattle.eif_classes.specs.Types.{TyT, class_type, Actuals, put_in, put_in_all, is_self_initialising}
use Rattle.eif_system.specs.Lineage.{line_of}
use Rattle.eif_rules.specs.UniverseRules.{formal_count}
use Rattle.eif_type_laws.specs.ClassTypes.{IsOf, IsValid}
use Rattle.eif_body_rules.specs.BodyRules.{in_body}
use Rattle.eif_body_rules.specs.OperatorRules.{literal_type}
use Rattle.eif_body_rules.specs.Settings.{Setting}
use Rattle.eif_body_rules.specs.Targets.{is_attribute_name}
use Rattle.eif_flow_rules.specs.FieldSets.{FieldSet, no_fields, common}
use Rattle.eif_flow_rules.specs.MetNeeds.{Within}
use Rattle.eif_flow_rules.specs.Summaries.{summary}
use Rattle.eif_flow_rules.specs.VersionFlows.{precursor_origin}
use Rattle.eif_meaning.specs.Values.{ClassType, Object}
use Rattle.eif_meaning.specs.Frames.{local, entity}
use Rattle.eif_meaning.specs.KernelBodies.{BuiltIn, built_in_body}
use Rattle.eif_meaning.specs.KernelTypes.{string_type, out_name}
use Rattle.eif_meaning.specs.System.{system_over}
use Rattle.eif_meaning.specs.Objects.{field_type, type_of}
use Rattle.eif_valid_bodies.specs.ValidBodies.{ValidDeclaration}
use Rattle.eif_run_laws.specs.ObjectTypes.{takes_void, Suit, IsMade, Over}
use Rattle.eif_run_laws.specs.KernelSignatures.{class_with, signature_of}
use Rattle.eif_run_laws.specs.SystemLaws.{TypeLaws}
use Rattle.eif_run_sound.specs.Bodies.{IsRoutine, signature_on, flow_on}
use Rattle.eif_run_sound.specs.Fields.{due, Met, behind}
use Rattle.eif_spelled_trees.specs.WrittenTexts.{CompoundIsWritten}

-- ---- types

-- a type of class k whose actuals meet their constraints
abbrev pub IsTypeIn : List ClassT → ℕ → TyT → Type 0
IsTypeIn u k t = IsOf u (formal_count u k) t × IsValid u k t

-- xs are the actuals of class k on an object
pub record OpenTypeLaws (u : List ClassT) : Type 0 where
  -- with actuals put in what conforms in the class conforms
  pub closes : (k : ℕ) (xs : Actuals) → Suit (system_over u) k xs → (a b : TyT)
      → conforms u k a b ≡ true
      → closed_conforms u (put_in xs a) (put_in xs b) ≡ true
  -- and what is attached in the class takes no Void, if it has a class or a constraint
  pub attached : (k : ℕ) (xs : Actuals) → Suit (system_over u) k xs → (t : TyT)
      → is_attached u k t ≡ true
      → is_some (base_type u k t) ≡ true → takes_void (put_in xs t) ≡ false
  -- an object that fits a type has the class of the type, or of its constraint, above it
  pub base : (k : ℕ) (xs : Actuals) → Suit (system_over u) k xs → (o : Object) (t : TyT)
      → closed_conforms u (type_of o) (put_in xs t) ≡ true
      → (b : ℕ) (m : Mark) (ys : Actuals) → base_type u k t ≡ Some (class_type b m ys)
      → Over (system_over u) o.made b (put_in_all xs ys)
  -- what a class has on an object suits it
  pub above : (t : ClassType) → IsMade (system_over u) t → (k : ℕ) (xs : Actuals)
      → Over (system_over u) t k xs
      → Suit (system_over u) k xs
  -- and the object conforms to the class with these actuals, which are the formals with them put in
  pub up : (o : Object) → IsMade (system_over u) o.made → (k : ℕ) (xs : Actuals)
      → Over (system_over u) o.made k xs
      → closed_conforms u (type_of o) (class_type k Attached xs) ≡ true
  pub own : (k : ℕ) (text : ClassT) → slice_get u k ≡ Some text → (xs : Actuals)
      → Suit (system_over u) k xs
      → put_in_all xs (own_formals text) ≡ xs
  -- instances may be made of a class type of a class, if its class isn't deferred
  pub made : (k : ℕ) (xs : Actuals) → Suit (system_over u) k xs → (d : ℕ) (m : Mark) (ys : Actuals)
      → IsTypeIn u k (class_type d m ys) → (text : ClassT) → slice_get u d ≡ Some text
      → text.is_deferred ≡ false
      → IsMade (system_over u) (record { class_number = d; actuals = put_in_all xs ys })

-- ---- features

-- the first closed result conforms to the second, or there is neither
abbrev pub ResultFits : List ClassT → Option TyT → Option TyT → Type 0
ResultFits u None None = Unit {0}
ResultFits u (Some a) (Some b) = closed_conforms u a b ≡ true
ResultFits u _ _ = ⊥

-- on an object of type t the body of a declaration serves calls with these closed types
pub record IsServed (u : List ClassT) (t : ClassType) (y : Declaration) (args : List TyT)
    (result : Option TyT)
    : Type 0 where
  pub routine : IsRoutine u y
  pub actuals : Actuals
  pub over : Over (system_over u) t y.class_number actuals
  pub arguments_are : (signature_on u routine.text y actuals).arguments ≡ args
  pub result_fits : ResultFits u (signature_on u routine.text y actuals).result result

-- the name n of the class of t is a field that serves calls without arguments
pub record IsReadAs (u : List ClassT) (t : ClassType) (n : List ℕ) (y : Declaration)
    (args : List TyT)
    (result : Option TyT) : Type 0 where
  pub is_field : is_attribute y.tree.kind ≡ true
  pub no_arguments : args ≡ []
  pub type : TyT
  pub field : field_type (system_over u) t.class_number n ≡ Some type
  pub result_fits : ResultFits u (Some (put_in t.actuals type)) result

-- on an object of type t the feature x of class b is bound to what serves calls with these closed types
pub record IsAnswered (u : List ClassT) (t : ClassType) (b : ℕ) (x : List ℕ) (args : List TyT)
    (result : Option TyT)
    : Type 0 where
  pub name : List ℕ
  pub bound : bind (line_of u t.class_number) b x ≡ Some name
  pub version : Declaration
  pub version_is : origin (line_of u t.class_number) name ≡ Some (declared_as version)
  pub serves : IsReadAs u t name version args result ⊎ IsServed u t version args result

-- closed with actuals
abbrev pub all_closed : Actuals → List TyT → List TyT
all_closed xs ts = map (put_in xs) ts

abbrev pub maybe_closed : Actuals → Option TyT → Option TyT
maybe_closed xs o = option_map (put_in xs) o

-- the version of a parent that a declaration's `Precursor` runs
pub record IsVersionFor (u : List ClassT) (t : ClassType) (y : Declaration) (parent : Option
    (List ℕ)) (xs : Actuals)
    (e : SignedEntry) : Type 0 where
  pub version : Declaration
  pub version_is : e.entry.feature.origin ≡ declared_as version
  -- as creation flow sees it
  pub followed : precursor_origin u y parent ≡ Some (declared_as version)
  pub serves : IsServed u t version (all_closed xs e.signature.arguments)
      (maybe_closed xs e.signature.result)

pub record FeatureLaws (u : List ClassT) : Type 0 where
  -- binding keeps signatures
  pub answered : (t : ClassType) → IsMade (system_over u) t → (b : ℕ) (xs : Actuals)
      → Over (system_over u) t b xs
      → (x : List ℕ) (g : Signature) → signature u (line_of u b) x ≡ Some g
      → IsAnswered u t b x (all_closed xs g.arguments) (maybe_closed xs g.result)
  -- what is no name of the class is bound to nothing
  pub unnamed : (d k : ℕ) (x : List ℕ) → signature u (line_of u k) x ≡ None
      → bind (line_of u d) k x ≡ None
  -- what is no feature has no signature
  pub unknown : (k : ℕ) (x : List ℕ) → has_feature (line_of u k) x ≡ false
      → signature u (line_of u k) x ≡ None
  -- an attribute is bound to a field of its type
  pub field : (t : ClassType) → IsMade (system_over u) t → (k : ℕ) (xs : Actuals)
      → Over (system_over u) t k xs
      → (s : Setting) → s.universe ≡ u → s.number ≡ k → s.line ≡ line_of u k
      → (x : List ℕ) (g : Signature) (a : TyT)
      → is_attribute_name s x ≡ true → signature u (line_of u k) x ≡ Some g → g.result ≡ Some a
      → (n : List ℕ) × (type : TyT) × (bind (line_of u t.class_number) k x ≡ Some n)
      × (version : Declaration) × (origin (line_of u t.class_number) n ≡ Some (declared_as version))
      × (is_attribute version.tree.kind ≡ true)
      × (field_type (system_over u) t.class_number n ≡ Some type)
      × (put_in t.actuals type ≡ put_in xs a)
  -- the results of signatures are types of the class
  pub typed : (k : ℕ) (x : List ℕ) (g : Signature) (a : TyT) → signature u (line_of u k) x ≡ Some g
      → g.result ≡ Some a → IsTypeIn u k a
  -- no feature is called Result
  pub no_result : (k : ℕ) → signature u (line_of u k) result_name ≡ None
  -- Precursor
  pub version : (y : Declaration) → IsRoutine u y → (t : ClassType) → IsMade (system_over u) t
      → (xs : Actuals)
      → Over (system_over u) t y.class_number xs → (parent : Option (List ℕ)) (e : SignedEntry)
      → precursor (λ e. e.entry) parent (signed_entries_in u
      (line_of u y.class_number) y.name) ≡ Some e
      → IsVersionFor u t y parent xs e
  -- the kernel has `out`
  pub out : signature u (line_of u any_number) out_name ≡ Some
      (record { arguments = []; result = Some string_type })

-- ---- creation

-- the version of a creator serves calls, needs no field, and sets each
pub record IsCreator (u : List ClassT) (t : ClassType) (n : List ℕ) (args : List TyT) : Type 0 where
  pub version : Declaration
  pub version_is : origin (line_of u t.class_number) n ≡ Some (declared_as version)
  pub serves : IsServed u t version args None
  pub met : Met u t.class_number (flow_on u t.class_number version) no_fields
  pub sets_all :
      Within (due u t.class_number) (behind u t.class_number
      (flow_on u t.class_number version) no_fields)

pub record CreationLaws (u : List ClassT) : Type 0 where
  pub creators : (t : ClassType) → IsMade (system_over u) t → is_basic t.class_number ≡ false
      → (k : ℕ) (n : List ℕ) (g : Signature) → is_creator_for u
      (line_of u t.class_number) n k ≡ true
      → signature u (line_of u t.class_number) n ≡ Some g
      → IsCreator u t n (all_closed t.actuals g.arguments)
  -- a field is due, or has a value from the start
  pub due_or_set : (d : ℕ) (n : List ℕ) (t : TyT) → field_type (system_over u) d n ≡ Some t
      → is_self_initialising t ≡ false → due u d n ≡ true
  -- what is said of a body holds of its text, on objects of each class below
  pub needs : (d : ℕ) (y : Declaration) → IsRoutine u y → (xs : Actuals)
      → ancestor u d y.class_number ≡ Some xs
      → (f : FieldSet) → Within (common (due u d) (summary u (line_of u d) y).needs) f
      → Met u d (flow_on u d y) f
  pub sets : (d : ℕ) (y : Declaration) → IsRoutine u y → (xs : Actuals)
      → ancestor u d y.class_number ≡ Some xs
      → (f : FieldSet) → Within (common (due u d) (summary u (line_of u d) y).sets) (behind u d
      (flow_on u d y) f)

-- ---- bodies

-- the declared type of a local or of Result
abbrev pub IsLocalType : DeclT → TypeT → Type 0
IsLocalType x t = ((n : List ℕ) × (entity x n ≡ Some (local t))) ⊎ (x.result_type ≡ Some t)

-- a body that is built in has the kernel's signature and no text
pub record IsKernelBody (u : List ClassT) (y : Declaration) (text : ClassT)
    (b : BuiltIn) : Type 0 where
  pub class_is : y.class_number ≡ class_with b
  pub signature_is : declared_signature u text y.tree ≡ signature_of b
  pub empty : body_of y.tree.kind ≡ no_inss

-- a routine is called by its first name
abbrev pub IsNamed : List ClassT → Declaration → ClassT → Type 0
IsNamed u y text = (in_body u y.class_number text y.tree).declared ≡ Some y.name

-- a body that is written is valid, and its types are types of the class
pub record IsWrittenBody (u : List ClassT) (y : Declaration) (text : ClassT)
    (body : Inss) : Type 0 where
  pub valid : ValidDeclaration u y.class_number text y.tree
  pub named : IsNamed u y text
  pub no_result : entity y.tree result_name ≡ None
  pub written : CompoundIsWritten (λ t. IsTypeIn u y.class_number (resolved u text t)) body

pub record BodyLaws (u : List ClassT) : Type 0 where
  pub built_in : (y : Declaration) (r : IsRoutine u y) (b : BuiltIn)
      → built_in_body y.class_number y.name ≡ Some b
      → IsKernelBody u y r.text b
  pub constant_of : (y : Declaration) (r : IsRoutine u y) (x : Literal)
      → built_in_body y.class_number y.name ≡ None
      → y.tree.kind ≡ constant x
      → (t : TypeT) × (y.tree.result_type ≡ Some t)
      × (conforms u y.class_number (literal_type x) (resolved u r.text t) ≡ true)
  pub routine_of : (y : Declaration) (r : IsRoutine u y) (locals : List GroupT) (body : Inss)
      → built_in_body y.class_number y.name ≡ None → y.tree.kind ≡ routine locals body
      → IsWrittenBody u y r.text body
  -- the types of locals and Result are types of the class
  pub locals_typed : (y : Declaration) (r : IsRoutine u y) (t : TypeT) → IsLocalType y.tree t
      → IsTypeIn u y.class_number (resolved u r.text t)

-- ---- all

pub record UniverseLaws (u : List ClassT) : Type 0 where
  pub types : TypeLaws (system_over u)
  pub open_types : OpenTypeLaws u
  pub features : FeatureLaws u
  pub creation : CreationLaws u
  pub bodies : BodyLaws u
