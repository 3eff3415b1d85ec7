-- The names of a class and the entries of each, by numbers.
use Rattle.std.specs.Prelude.{ℕ, ◌+◌, ◌==◌, ◌<◌, if◌then◌else◌, List, [], ◌∷◌, ◌++◌, map, flat_map, Option, Some, Vec, slice_get}
use Rattle.std.specs.List.{All}
use Rattle.std.specs.Option.{option_map_or, option_or}
use Rattle.eif_base.specs.declared.feat_id.FeatId.{FeatId}
use Rattle.eif_heirs.specs.declared.clauses.Clause.{Clause}
use Rattle.eif_heirs.specs.declared.declared.DeclaredName.{DeclaredName}
use Rattle.eif_heirs.specs.declared.heir.EntryId.{EntryId}
use Rattle.eif_heirs.specs.declared.heir.NameSources.{NameSources}

-- the declared names
abbrev pub declared_texts : List DeclaredName → List (List ℕ)
declared_texts xs = map (λ x. x.name.now.name) xs

-- the final names of the entries of a clause
abbrev pub clause_finals : Clause → List (List ℕ)
clause_finals x = map (λ a. a.final_name) x.adapted.items

-- those of all clauses, one after the other
abbrev pub final_texts : List Clause → List (List ℕ)
final_texts xs = flat_map clause_finals xs

-- ---- what stands under a number

-- all of them are numbers below n
abbrev pub AreBelow : ℕ → List FeatId → Type 0
AreBelow n fs = All (λ f. f.0 < n) fs

-- the item, where the name has the number k
abbrev pub if_named : {A : Type 0} → ℕ → FeatId → A → List A
if_named k f x = if f.0 == k then x ∷ [] else []

-- the entries of the clause i that stand under k, of those from the feature j on, whose final names have these numbers
abbrev pub ids_from : ℕ → ℕ → ℕ → List FeatId → List EntryId
ids_from k i j [] = []
ids_from k i j (f ∷ fs) = if_named k f (record { clause = i; feat = record { 0 = j } }) ++ ids_from k i (j + 1) fs

-- those of the clauses from the clause i on
abbrev pub ids_under : {Z : Type 0} → ℕ → ℕ → List (Vec FeatId Z) → List EntryId
ids_under k i [] = []
ids_under k i (fs ∷ rest) = ids_from k i 0 fs.items ++ ids_under k (i + 1) rest

-- the entries that are collected under k
abbrev pub collected : List NameSources → ℕ → List EntryId
collected sources k = option_map_or (λ s. s.entries.items) (slice_get sources k) []

-- the numbers of the declared names
abbrev pub declared_under : List NameSources → List (Option ℕ)
declared_under sources = map (λ s. s.declared) sources

-- the place that is noted under k, once this one is noted under `at`, unless there is one
abbrev pub noted_at : ℕ → ℕ → ℕ → Option ℕ → Option ℕ
noted_at k at place o = if at == k then option_or o (Some place) else o
