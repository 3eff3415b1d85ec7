-- Whom a feature is available to.
use Rattle.std.specs.Prelude.{ℕ, Bool, if◌then◌else◌, List, [], ◌∷◌, ◌++◌, map, flat_map, Option, is_some}
use Rattle.std.specs.List.{filter_map, find, list_any}
use Rattle.std.specs.Option.{option_map_or, option_or}
use Rattle.eif_tree.specs.Members.{has_name}
use Rattle.eif_tree.specs.Tree.{ClientsT, ExportT, ParentT, FeaturesT, ClassT}
use Rattle.eif_classes.specs.Descent.{descends}
use Rattle.eif_classes.specs.Entries.{Entry}
use Rattle.eif_classes.specs.Features.{clause_entries}
use Rattle.eif_system.specs.Kernel.{any_name}
use Rattle.eif_system.specs.Lineage.{Line, line, cut, Ups, up, top, line_of}
use Rattle.eif_classes.specs.Names.{name_set}
use Rattle.eif_system.specs.Universe.{class_number}

-- the names of a client list; one that isn't written is ANY
abbrev pub client_names : ClientsT → List (List ℕ)
client_names cs = if cs.stated then map (λ n. n.name) cs.names else any_name ∷ []

-- the part that declares the name first
abbrev pub declaring_part : ClassT → List ℕ → Option FeaturesT
declaring_part c n = find (λ part. list_any (λ x. has_name x.names n) part.decls) c.features

-- the first export item of the clause that names the final name, else the first with `all`
abbrev pub export_item : ParentT → List ℕ → Option ExportT
export_item p n =
    option_or (find (λ x. has_name x.names n) p.exports) (find (λ x. is_some x.all) p.exports)

-- of an entry: those of the clause's export item, else those in the parent
abbrev pub entry_clients : Entry → List (List ℕ) → List (List ℕ)
entry_clients e in_parent =
    option_map_or (λ x. client_names x.clients) (export_item e.clause e.final) in_parent

-- of a name of the class c: those of the part that declares it, else those that it inherits
abbrev pub clients_by : ClassT → List ℕ → List (List ℕ) → List (List ℕ)
clients_by c n inherited = option_map_or (λ part. client_names part.clients) (declaring_part c n) inherited

abbrev mutual
  -- the set of the clients of a name
  pub clients : Line → List ℕ → List (List ℕ)
  clients (line d c ups) n = name_set (clients_by c n (inherited_clients ups n))
  clients cut n = []

  -- those of all its entries
  pub inherited_clients : Ups → List ℕ → List (List ℕ)
  inherited_clients top n = []
  inherited_clients (up p l rest) n =
      flat_map (λ e. entry_clients e (clients l e.feature.name)) (clause_entries p l n)
      ++ inherited_clients rest n

-- the class k is or descends from one of the clients; a name of no class names nobody
abbrev pub is_client : List ClassT → List (List ℕ) → ℕ → Bool
is_client u ns k = list_any (descends (line_of u k)) (filter_map (class_number u) ns)

-- the feature is available to the class k
abbrev pub is_available : List ClassT → Line → List ℕ → ℕ → Bool
is_available u l n k = is_client u (clients l n) k
