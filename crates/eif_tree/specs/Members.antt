-- What a class text says, by its parts.
use Rattle.std.specs.Prelude.{ℕ, Bool, List, [], ◌∷◌, ◌++◌, flat_map, codes}
use Rattle.std.specs.List.{list_any}
use Rattle.std.specs.Str.{bytes_eq}
use Rattle.eif_tree.specs.declared.tree.NameAt.{NameAt}
use Rattle.eif_tree.specs.Tree.{Ins, call, Inss, no_inss, and_ins, unqualified, no_exs, KindT, routine, DeclT, ClassT}

-- one of them has that name
abbrev pub has_name : List NameAt → List ℕ → Bool
has_name names name = list_any (λ n. bytes_eq n.name name) names

-- the name of the target `Result`
abbrev pub result_name : List ℕ
result_name = codes "result"

-- the declarations of a class, in the order of its text
abbrev pub declarations : ClassT → List DeclT
declarations c = flat_map (λ part. part.decls) c.features

-- the names that a class declares
abbrev pub declared_names : ClassT → List NameAt
declared_names c = flat_map (λ d. d.names) (declarations c)

-- the names of its creators parts
abbrev pub creator_names : ClassT → List NameAt
creator_names c = flat_map (λ part. part.names) c.creators

-- the body of a routine; nothing else has one
abbrev pub body_of : KindT → Inss
body_of (routine locals body) = body
body_of _ = no_inss

-- the unqualified calls without arguments that are instructions of a body
abbrev pub called_by : Ins → List NameAt
called_by (call (unqualified p n no_exs)) = record { place = p; name = n } ∷ []
called_by _ = []

abbrev pub called_in : Inss → List NameAt
called_in no_inss = []
called_in (and_ins i is) = called_by i ++ called_in is
