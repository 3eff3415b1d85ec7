-- A class while its features are judged.
use Rattle.std.specs.Prelude.{◌≡◌, ℕ, ◌<◌, ◌^◌, List, length, map, Option, Some, slice_get}
use Rattle.std.specs.List.{position_from}
use Rattle.std.specs.Str.{bytes_eq}
use Rattle.eif_classes.specs.Entries.{entries_of}
use Rattle.eif_classes.specs.Features.{names, entries}
use Rattle.eif_feature_rules.specs.RuleForms.{declared_here}
use Rattle.eif_heirs.specs.Clauses.{ups_in, IsClause, entry_at}
use Rattle.eif_heirs.specs.DeclaredNames.{IsDeclaredName}
use Rattle.eif_heirs.specs.declared.heir.Heir.{Heir}
use Rattle.eif_heirs.specs.declared.heir.NameSources.{NameSources}
use Rattle.eif_rows.specs.Matched.{Match}
use Rattle.eif_rows.specs.Numbers.{names_of}
use Rattle.eif_system.specs.Inheritance.{clauses}
use Rattle.eif_system.specs.Lineage.{line, line_of}
use Rattle.eif_tree.specs.Tree.{ClassT}
use Rattle.eif_tree.specs.View.{class_view}

-- the number of the first declared name that is this name
abbrev pub first_declared : ClassT → List ℕ → Option ℕ
first_declared c n = position_from (λ x. bytes_eq x.name.name n) 0 (declared_here c)

-- what the name n of the class c stands for
pub record AreSources (u : List ClassT) (c : ClassT) (x : NameSources) (n : List ℕ) : Type 0 where
  pub declared_is : x.declared ≡ first_declared c n
  pub entries_are : map (entry_at (ups_in u c)) x.entries.items ≡ map Some (entries_of n (entries (ups_in u c)))

-- the class with the number and the text of the heir
pub record IsHeir (u : List ClassT) (h : Heir) : Type 0 where
  pub class_is : slice_get u h.class_id.0 ≡ Some (class_view h.tree.now)
  pub line_is : line_of u h.class_id.0 ≡ line h.class_id.0 (class_view h.tree.now) (ups_in u (class_view h.tree.now))
  pub clauses_are : Match (IsClause u (class_view h.tree.now)) h.clauses.items (clauses (class_view h.tree.now))
  pub declared_are : Match (IsDeclaredName (class_view h.tree.now)) h.declared.items (declared_here (class_view h.tree.now))
  pub names_are : h.names.items ≡ names (line_of u h.class_id.0)
  pub few : length h.names.items < 2 ^ 32
  pub finals_are : Match (λ fs x. names_of h.names.items fs.items ≡ map (λ e. Some e.final_name) x.adapted.items)
      h.finals.items h.clauses.items
  pub sources_are : Match (AreSources u (class_view h.tree.now)) h.sources.items h.names.items
