-- The features of a class: its names, each with its origin.
use Rattle.std.specs.Prelude.{ℕ, Bool, true, false, List, [], ◌++◌, map, Option, Some, None}
use Rattle.std.specs.List.{filter, find}
use Rattle.std.specs.Option.{option_map, option_and_then}
use Rattle.std.specs.Str.{bytes_eq}
use Rattle.eif_base.specs.Numbering.{is_among}
use Rattle.eif_tree.specs.Members.{has_name, declarations, declared_names}
use Rattle.eif_tree.specs.Tree.{GroupT, ParentT, KindT, attribute, deferred_body, routine, DeclT, ClassT}
use Rattle.eif_classes.specs.Entries.{Declaration, Origin, deferred, declared_as, Feature, Entry, entry, entries_of, lasts, joined, leading}
use Rattle.eif_system.specs.Lineage.{Line, line, cut, Ups, up, top}
use Rattle.eif_classes.specs.Names.{name_set}

-- the first declaration of the name
abbrev pub declaration_of : ClassT → List ℕ → Option DeclT
declaration_of c n = find (λ x. has_name x.names n) (declarations c)

-- a deferred declaration is no version
abbrev pub declared_origin : KindT → Declaration → Origin
declared_origin deferred_body x = deferred
declared_origin _ x = declared_as x

-- what a class has by a declaration
abbrev pub declared_feature : Declaration → Feature
declared_feature x = record { name = x.name; origin = declared_origin x.tree.kind x; source = Some x }

-- what a class has by the entries of a name
abbrev pub inherited_feature : List ℕ → List Entry → Feature
inherited_feature n es = record {
  name = n;
  origin = joined (map (λ e. e.feature.origin) (filter lasts es));
  source = option_and_then (λ e. e.feature.source) (leading (λ e. e) es);
}

-- of a name, by its declaration, or else by its entries
abbrev pub feature_by : ℕ → List Entry → List ℕ → Option DeclT → Feature
feature_by d es n (Some x) = declared_feature (record { class_number = d; name = n; tree = x })
feature_by d es n None = inherited_feature n (entries_of n es)

-- one for each name that the class declares or inherits
abbrev pub features_by : ℕ → ClassT → List Entry → List Feature
features_by d c es =
    map (λ n. feature_by d es n (declaration_of c n))
    (name_set (map (λ n. n.name) (declared_names c) ++ map (λ e. e.final) es))

abbrev mutual
  -- the features of a class, in the order of their names
  pub features : Line → List Feature
  features (line d c ups) = features_by d c (entries ups)
  features cut = []

  -- the entries, in the order of the clauses, and in each in that of the parent's names
  pub entries : Ups → List Entry
  entries top = []
  entries (up p l rest) = map (entry p) (features l) ++ entries rest

-- the entries of a class
abbrev pub entries_in : Line → List Entry
entries_in (line d c ups) = entries ups
entries_in cut = []

-- the entries of a name by one clause
abbrev pub clause_entries : ParentT → Line → List ℕ → List Entry
clause_entries p l n = entries_of n (map (entry p) (features l))

-- the set of the names of a class
abbrev pub names : Line → List (List ℕ)
names l = map (λ f. f.name) (features l)

-- the class has the name
abbrev pub has_feature : Line → List ℕ → Bool
has_feature l n = is_among (names l) n

-- what the class has under the name
abbrev pub feature : Line → List ℕ → Option Feature
feature l n = find (λ f. bytes_eq f.name n) (features l)

-- the origin of a name
abbrev pub origin : Line → List ℕ → Option Origin
origin l n = option_map (λ f. f.origin) (feature l n)

-- the locals of a written routine, in the groups of its text; nothing else has any
abbrev pub local_groups : KindT → List GroupT
local_groups (routine groups body) = groups
local_groups _ = []

-- a constant is a routine, and no attribute
abbrev pub is_attribute : KindT → Bool
is_attribute attribute = true
is_attribute _ = false

-- the declaration is of an attribute
abbrev pub is_field : Origin → Bool
is_field (declared_as x) = is_attribute x.tree.kind
is_field _ = false

-- the names whose origin is an attribute
abbrev pub fields : Line → List (List ℕ)
fields l = map (λ f. f.name) (filter (λ f. is_field f.origin) (features l))
