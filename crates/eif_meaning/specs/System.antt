-- What a run asks of a system, and the system of some class texts. Classes go by numbers, features by names.
use Rattle.std.specs.Prelude.{ℕ, Bool, false, not, ◌&&◌, List, [], Option, Some, None, slice_get}
use Rattle.std.specs.Option.{option_map, option_map_or, option_and_then}
use Rattle.eif_tree.specs.Tree.{TypeT, ClassT}
use Rattle.eif_classes.specs.Ancestry.{ancestor}
use Rattle.eif_classes.specs.Binding.{bind}
use Rattle.eif_classes.specs.Constraints.{constraint}
use Rattle.eif_classes.specs.Conformance.{closed_conforms}
use Rattle.eif_classes.specs.Entries.{Declaration, Origin, declared_as}
use Rattle.eif_classes.specs.Features.{origin}
use Rattle.eif_classes.specs.KernelNumbers.{is_basic}
use Rattle.eif_system.specs.Lineage.{Line, line_of}
use Rattle.eif_classes.specs.Precursors.{precursor}
use Rattle.eif_classes.specs.Resolution.{resolved, own_formals}
use Rattle.eif_classes.specs.Signatures.{Signature, SignedEntry, signature, signed_entries_in}
use Rattle.eif_classes.specs.Types.{TyT, none_type, Actuals, no_actuals}
use Rattle.eif_system.specs.Universe.{universe, class_number}
use Rattle.eif_meaning.specs.KernelBodies.{BuiltIn, built_in_body}

-- what `Precursor` runs, and its types over the formals of the class in which it stands
pub record Version : Type 0 where
  pub declaration : Declaration
  pub signature : Signature

-- all that a run asks of a system
pub record System : Type 0 where
  -- the class with a name
  pub class_named : List ℕ → Option ℕ
  -- the name of a class
  pub name_of : ℕ → List ℕ
  -- the class may have instances: it is there, it is not deferred, and its values are references
  pub is_creatable : ℕ → Bool
  -- the declaration that a name of a class has its version from; none where it is deferred, or no such name
  pub origin : ℕ → List ℕ → Option Declaration
  -- the name that an object's class, the first, has for a name of another class
  pub bind : ℕ → ℕ → List ℕ → Option (List ℕ)
  -- the types of a name of a class, over the formals of the class
  pub signature : ℕ → List ℕ → Option Signature
  -- the version that `Precursor` runs in a declaration of a class, by its name and the parent's, if it is written
  pub precursor : ℕ → List ℕ → Option (List ℕ) → Option Version
  -- the formals of a class as types, plain
  pub formals : ℕ → Actuals
  -- the constraint of a formal of a class, by its place
  pub constraint : ℕ → ℕ → Option TyT
  -- the actuals of an ancestor, over the formals of the class
  pub ancestry : ℕ → ℕ → Option Actuals
  -- a type that a class writes, over the formals of the class
  pub resolve : ℕ → TypeT → TyT
  -- a closed type conforms to another
  pub conforms : TyT → TyT → Bool
  -- the built-in body of a routine, by its class and its name there
  pub built_in : ℕ → List ℕ → Option BuiltIn

-- ---- the system of class texts

-- of an effective feature
abbrev pub declaration_in : Origin → Option Declaration
declaration_in (declared_as x) = Some x
declaration_in _ = None

-- an entry's version, with the entry's signature
abbrev pub version_in : SignedEntry → Option Version
version_in s =
    option_map (λ x. record { declaration = x; signature = s.signature }) (declaration_in s.entry.feature.origin)

-- that of the one entry which `Precursor` stands for
abbrev pub version_by : List ClassT → Line → List ℕ → Option (List ℕ) → Option Version
version_by u l n parent = option_and_then version_in (precursor (λ s. s.entry) parent (signed_entries_in u l n))

-- over a universe, with the kernel in front
abbrev pub system_over : List ClassT → System
system_over u = record {
  class_named = class_number u;
  name_of = λ d. option_map_or (λ c. c.name) (slice_get u d) [];
  is_creatable = λ d. option_map_or (λ c. not c.is_deferred && not (is_basic d)) (slice_get u d) false;
  origin = λ d n. option_and_then declaration_in (origin (line_of u d) n);
  bind = λ d k n. bind (line_of u d) k n;
  signature = λ d n. signature u (line_of u d) n;
  precursor = λ d n parent. version_by u (line_of u d) n parent;
  formals = λ d. option_map_or own_formals (slice_get u d) no_actuals;
  constraint = constraint u;
  ancestry = ancestor u;
  resolve = λ d t. option_map_or (λ c. resolved u c t) (slice_get u d) none_type;
  conforms = closed_conforms u;
  built_in = built_in_body;
}

-- of the given classes
abbrev pub system_of : List ClassT → System
system_of given = system_over (universe given)
