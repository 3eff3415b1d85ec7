-- The creators of a class.
use Rattle.std.specs.Prelude.{ℕ, Bool, ◌&&◌, List, [], ◌∷◌, map, flat_map, Option, codes}
use Rattle.std.specs.List.{list_any}
use Rattle.std.specs.Option.{option_to_list}
use Rattle.std.specs.Str.{bytes_eq}
use Rattle.eif_tree.specs.Tree.{no_clients, CreatorsT, ClassT}
use Rattle.eif_classes.specs.Binding.{bind}
use Rattle.eif_classes.specs.Clients.{client_names, is_client}
use Rattle.eif_classes.specs.KernelNumbers.{any_number}
use Rattle.eif_system.specs.Lineage.{Line, line, cut}

-- a creation procedure and whom it is available to
pub record Creator : Type 0 where
  pub name : List ℕ
  pub clients : List (List ℕ)

-- the names of a creators part, each with its clients
abbrev pub creators_in : CreatorsT → List Creator
creators_in part = map (λ n. record { name = n.name; clients = client_names part.clients }) part.names

-- the name of ANY's `default_create`
abbrev pub default_creator : Line → Option (List ℕ)
default_creator l = bind l any_number (codes "default_create")

-- a class without a creators part has that one, available to ANY
abbrev pub creators_by : Option (List ℕ) → List CreatorsT → List Creator
creators_by default [] =
    map (λ n. record { name = n; clients = client_names no_clients }) (option_to_list default)
creators_by default (part ∷ parts) = flat_map creators_in (part ∷ parts)

-- in the order of the text
abbrev pub creators : Line → List Creator
creators (line d c ups) = creators_by (default_creator (line d c ups)) c.creators
creators cut = []

-- the name is a creator that is available to the class k
abbrev pub is_creator_for : List ClassT → Line → List ℕ → ℕ → Bool
is_creator_for u l n k = list_any (λ x. bytes_eq x.name n && is_client u x.clients k) (creators l)
