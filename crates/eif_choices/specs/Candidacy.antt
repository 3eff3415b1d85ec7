-- What becomes of one feature of an ancestor, clause by clause and in the class.
use Rattle.std.specs.Prelude.{◌≡◌, ℕ, List, [], ◌++◌, map, Option, Some, slice_get}
use Rattle.std.specs.List.{filter_map}
use Rattle.std.specs.Option.{option_and_then, option_map, option_map_or, option_to_list}
use Rattle.eif_base.specs.declared.feat_id.FeatId.{FeatId}
use Rattle.eif_classes.specs.Binding.{bind, candidates, reach, reached}
use Rattle.eif_classes.specs.Features.{names}
use Rattle.eif_classes.specs.Names.{final_name, name_set}
use Rattle.eif_heirs.specs.Clauses.{ups_in, IsClause}
use Rattle.eif_heirs.specs.Heirs.{IsHeir}
use Rattle.eif_heirs.specs.declared.clauses.Clause.{Clause}
use Rattle.eif_heirs.specs.declared.heir.Heir.{Heir}
use Rattle.eif_rows.specs.Numbers.{name_of, names_of}
use Rattle.eif_rows.specs.Systems.{IsSystem}
use Rattle.eif_system.specs.Lineage.{Line, Ups, up, top, line_of}
use Rattle.eif_tree.specs.Tree.{ParentT, ClassT}
use Rattle.eif_tree.specs.View.{class_view}

-- ---- in the class of a clause

-- of the feature of the class k with the number i, in each system that has the clause: its name, in the line of the
-- clause's class
abbrev pub InClause : Clause → ℕ → ℕ → (Line → List ℕ → Type 0) → Type 0
InClause x k i Holds =
    (u : List ClassT) (c : ClassT) (p : ParentT) (m : List ℕ) → IsSystem u → IsClause u c x p
    → slice_get (names (line_of u k)) i ≡ Some m → Holds (line_of u x.parent.0) m

-- the name that dynamic binding uses
abbrev pub IsBoundIn : Clause → ℕ → ℕ → Option FeatId → Type 0
IsBoundIn x k i f = InClause x k i (λ l m. option_and_then (name_of (names l)) f ≡ bind l k m)

-- all names
abbrev pub AreReachedIn : Clause → ℕ → ℕ → List FeatId → Type 0
AreReachedIn x k i fs = InClause x k i (λ l m. names_of (names l) fs ≡ map Some (reach l k m))

-- ---- what the clause makes of it

-- the numbers of the final names
abbrev pub AreFinals : List (List ℕ) → List FeatId → Clause → Type 0
AreFinals ns fs x = names_of ns fs ≡ map (λ e. Some e.final_name) x.adapted.items

-- those of some features of the clause's class
abbrev pub finals_of : List FeatId → List FeatId → List FeatId
finals_of finals fs = filter_map (λ f. slice_get finals f.0) fs

-- the numbers of the final names of the clause with that number
abbrev pub finals_at : Heir → ℕ → List FeatId
finals_at h j = option_map_or (λ fs. fs.items) (slice_get h.finals.items j) []

-- where more are added, these are the names that the clause gives the feature in the heir
abbrev pub Adds : (ParentT → Line → List ℕ → List (List ℕ)) → Clause → List FeatId → ℕ → ℕ
    → List FeatId → List FeatId → Type 0
Adds part x finals k i old new =
    (u : List ClassT) (c : ClassT) (p : ParentT) (ns : List (List ℕ)) (m : List ℕ) → IsSystem u → IsClause u c x p
    → AreFinals ns finals x → slice_get (names (line_of u k)) i ≡ Some m
    → names_of ns new ≡ names_of ns old ++ map Some (part p (line_of u x.parent.0) m)

-- the candidate by a clause, if there is one
abbrev pub candidate_by : ℕ → ParentT → Line → List ℕ → List (List ℕ)
candidate_by k p l m = option_to_list (option_map (final_name p) (bind l k m))

-- all names by a clause
abbrev pub reached_by : ℕ → ParentT → Line → List ℕ → List (List ℕ)
reached_by k p l m = map (final_name p) (reach l k m)

-- the same by all clauses, one after the other
abbrev pub by_each : (ParentT → Line → List ℕ → List (List ℕ)) → Ups → List ℕ → List (List ℕ)
by_each part top m = []
by_each part (up p l rest) m = part p l m ++ by_each part rest m

-- ---- in the heir

-- the same in each system that has the heir, over its clauses
abbrev pub InHeir : Heir → ℕ → ℕ → (Ups → List ℕ → Type 0) → Type 0
InHeir h k i Holds =
    (u : List ClassT) (m : List ℕ) → IsSystem u → IsHeir u h
    → slice_get (names (line_of u k)) i ≡ Some m → Holds (ups_in u (class_view h.tree.now)) m

abbrev pub AreCandidates : Heir → ℕ → ℕ → List FeatId → Type 0
AreCandidates h k i fs = InHeir h k i (λ ups m. names_of h.names.items fs ≡ map Some (candidates ups k m))

abbrev pub AreReached : Heir → ℕ → ℕ → List FeatId → Type 0
AreReached h k i fs = InHeir h k i (λ ups m. names_of h.names.items fs ≡ map Some (name_set (reached ups k m)))
