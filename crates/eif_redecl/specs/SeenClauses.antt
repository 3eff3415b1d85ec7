-- The entries of a class by its clauses, each with the signature that the class sees.
use Rattle.std.specs.Prelude.{◌≡◌, ℕ, List, [], map, Some, Vec, slice_get}
use Rattle.std.specs.List.{filter, filter_map}
use Rattle.std.specs.Option.{option_map, option_map_or}
use Rattle.std.specs.Str.{bytes_eq}
use Rattle.eif_base.specs.declared.class_id.ClassId.{ClassId}
use Rattle.eif_base.specs.declared.feat_id.FeatId.{FeatId}
use Rattle.eif_classes.specs.Entries.{Feature, entry}
use Rattle.eif_classes.specs.Features.{features, names}
use Rattle.eif_classes.specs.Resolution.{clause_actuals}
use Rattle.eif_classes.specs.Signatures.{SignedEntry, signature, signed, signed_entries_in}
use Rattle.eif_redecl.specs.EntryViews.{AreSeen}
use Rattle.eif_redecl.specs.declared.entry.Heir.{Heir}
use Rattle.eif_redecl.specs.declared.entry.SeenEntry.{SeenEntry}
use Rattle.eif_rows.specs.Numbers.{name_of}
use Rattle.eif_signatures.specs.DerivedSystems.{IsDerivedSystem, classes_in}
use Rattle.eif_system.specs.Inheritance.{clauses, parent_number}
use Rattle.eif_system.specs.Lineage.{Line, line_by, line_of}
use Rattle.eif_tree.specs.Tree.{ParentT, ClassT}
use Rattle.eif_tree.specs.View.{class_view, parent_view}

-- the class is one of a system that breaks no rule up to those of derivations
pub record IsHeir (h : Heir) : Type 0 where
  pub system : IsDerivedSystem h.system
  pub at : slice_get (classes_in h.system) h.class_id.0 ≡ Some (class_view h.class.now)
  pub clauses_are : map parent_view h.clauses.now ≡ clauses (class_view h.class.now)

-- the class c has the clause p, whose class has that number
pub record IsClause (u : List ClassT) (c : ClassT) (p : ParentT) (k : ClassId) : Type 0 where
  pub number : parent_number u c p ≡ Some k.0
  pub place : ℕ
  pub among : slice_get (clauses c) place ≡ Some p

-- ---- entries with their signatures

-- those of the clause p for these features of a class with the line l
abbrev pub signed_by : List ClassT → ClassT → ParentT → Line → List Feature → List SignedEntry
signed_by u c p l fs =
    filter_map (λ f. option_map (signed (clause_actuals u c p) (entry p f)) (signature u l f.name)) fs

-- those of a clause for all features of its class
abbrev pub signed_of : List ClassT → ClassT → ParentT → List SignedEntry
signed_of u c p =
    let l = line_by (line_of u) (parent_number u c p) in
    signed_by u c p l (features l)

-- those of that name
abbrev pub named : List ℕ → List SignedEntry → List SignedEntry
named n es = filter (λ e. bytes_eq e.entry.final n) es

-- ---- name by name

-- the list with that number
abbrev pub group_at : {Z : Type 0} → List (Vec SeenEntry Z) → FeatId → List SeenEntry
group_at groups f = option_map_or (λ group. group.items) (slice_get groups f.0) []

-- each name of the class d has those of these entries that are of that name
abbrev pub AreGroups : {Z : Type 0} → List ClassT → ℕ → List (Vec SeenEntry Z) → List SignedEntry → Type 0
AreGroups u d groups es =
    (f : FeatId) (n : List ℕ) → name_of (names (line_of u d)) f ≡ Some n → AreSeen (group_at groups f) (named n es)

-- each name of the class d has its entries
abbrev pub AreEntries : {Z : Type 0} → List ClassT → ℕ → List (Vec SeenEntry Z) → Type 0
AreEntries u d groups =
    (f : FeatId) (n : List ℕ) → name_of (names (line_of u d)) f ≡ Some n →
    AreSeen (group_at groups f) (signed_entries_in u (line_of u d) n)
