-- What a class inherits, entry by entry.
use Rattle.std.specs.Prelude.{ℕ, ◌==◌, Bool, true, false, not, ◌&&◌, if◌then◌else◌, List, [], ◌∷◌, Option, slice_get}
use Rattle.std.specs.List.{filter, find, list_all}
use Rattle.std.specs.Option.{option_or}
use Rattle.std.specs.Str.{bytes_eq}
use Rattle.eif_tree.specs.Tree.{DeclT, ParentT}
use Rattle.eif_classes.specs.Names.{final_name, is_undefined}

-- a name as a class declares it: the number of the class, the name, the declaration
pub record Declaration : Type 0 where
  pub class_number : ℕ
  pub name : List ℕ
  pub tree : DeclT

-- where the version of a feature comes from
pub data Origin : Type 0 where
  -- there is no version
  deferred : Origin
  -- the version that a class declares
  declared_as : Declaration → Origin
  -- effective entries of different origins, which is a breach
  clashing : Origin

-- a name of a class, its origin, and the declaration that gives its signature
pub record Feature : Type 0 where
  pub name : List ℕ
  pub origin : Origin
  pub source : Option Declaration

-- a parent clause, a feature of its class, and the name of that feature in the heir
pub record Entry : Type 0 where
  pub clause : ParentT
  pub feature : Feature
  pub final : List ℕ

-- the entry of a clause for a feature of its class
abbrev pub entry : ParentT → Feature → Entry
entry p f = record { clause = p; feature = f; final = final_name p f.name }

-- the entries with that final name
abbrev pub entries_of : List ℕ → List Entry → List Entry
entries_of n es = filter (λ e. bytes_eq e.final n) es

-- there is a version
abbrev pub is_effective : Origin → Bool
is_effective deferred = false
is_effective _ = true

-- effective in the parent, and not undefined in the clause
abbrev pub lasts : Entry → Bool
lasts e = is_effective e.feature.origin && not (is_undefined e.clause e.final)

-- two declarations of one name in one class are one
abbrev pub same_origin : Origin → Origin → Bool
same_origin deferred deferred = true
same_origin (declared_as x) (declared_as y) =
    (x.class_number == y.class_number) && bytes_eq x.name y.name
same_origin clashing clashing = true
same_origin _ _ = false

-- the one origin that all of them are; deferred where there is none
abbrev pub joined : List Origin → Origin
joined [] = deferred
joined (o ∷ os) = if list_all (same_origin o) os then o else clashing

-- of items that tell of the entries of a name: that of the first entry that lasts, else the first
abbrev pub leading : {A : Type 0} → (A → Entry) → List A → Option A
leading entry_of xs = option_or (find (λ x. lasts (entry_of x)) xs) (slice_get xs 0)
