-- The signatures of a class's names, over its formals.
use Rattle.std.specs.Prelude.{ℕ, List, [], ◌++◌, map, flat_map, Option, None}
use Rattle.std.specs.List.{filter_map}
use Rattle.std.specs.Option.{option_and_then, option_map, option_or}
use Rattle.eif_tree.specs.Tree.{DeclT, ClassT}
use Rattle.eif_classes.specs.Entries.{Declaration, Entry, leading}
use Rattle.eif_classes.specs.Features.{clause_entries, declaration_of, feature}
use Rattle.eif_system.specs.Lineage.{Line, line, cut, Ups, up, top}
use Rattle.eif_classes.specs.Resolution.{resolved, clause_actuals}
use Rattle.eif_classes.specs.Types.{TyT, Actuals, put_in}

-- the declaration that gives the signature of a name
abbrev pub signature_source : Line → List ℕ → Option Declaration
signature_source l n = option_and_then (λ f. f.source) (feature l n)

-- the types of the arguments in order, and of the result, if there is one
pub record Signature : Type 0 where
  pub arguments : List TyT
  pub result : Option TyT

-- as a declaration of the class c writes it: one argument for each name of a group
abbrev pub declared_signature : List ClassT → ClassT → DeclT → Signature
declared_signature u c x = record {
  arguments = flat_map (λ g. map (λ n. resolved u c g.type_tree) g.names) x.arguments;
  result = option_map (resolved u c) x.result_type;
}

-- with the actuals put in, whatever the size of its types
abbrev pub with_actuals : Actuals → Signature → Signature
with_actuals xs s =
    record { arguments = map (put_in xs) s.arguments; result = option_map (put_in xs) s.result }

-- an entry with its signature over the formals of the heir
pub record SignedEntry : Type 0 where
  pub entry : Entry
  pub signature : Signature

-- an entry by the signature that its feature has in the parent
abbrev pub signed : Actuals → Entry → Signature → SignedEntry
signed xs e s = record { entry = e; signature = with_actuals xs s }

abbrev mutual
  -- of the declaration, else of the first effective entry that isn't undefined, else of the first one
  pub signature : List ClassT → Line → List ℕ → Option Signature
  signature u (line d c ups) n =
      option_or (option_map (declared_signature u c) (declaration_of c n))
      (option_map (λ s. s.signature) (leading (λ s. s.entry) (signed_entries u c ups n)))
  signature u cut n = None

  -- the entries of a name by clauses of the class c
  pub signed_entries : List ClassT → ClassT → Ups → List ℕ → List SignedEntry
  signed_entries u c top n = []
  signed_entries u c (up p l rest) n =
      filter_map (λ e. option_map (signed (clause_actuals u c p) e) (signature u l e.feature.name))
      (clause_entries p l n)
      ++ signed_entries u c rest n

-- the entries of a name of the class
abbrev pub signed_entries_in : List ClassT → Line → List ℕ → List SignedEntry
signed_entries_in u (line d c ups) n = signed_entries u c ups n
signed_entries_in u cut n = []
