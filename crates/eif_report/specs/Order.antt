-- The order of faults in a report. Files go by their names, of which there is one for each file number.
use Rattle.std.specs.Prelude.{◌≡◌, ℕ, ◌==◌, if◌then◌else◌, List, [], ◌∷◌, Option, Some, None, slice_get}
use Rattle.std.specs.declared.cmp.Ordering.{Ordering}
use Rattle.std.specs.declared.cmp.Ordering.TheVariants as o
use Rattle.std.specs.Ordering.{nat_cmp, ordering_then}
use Rattle.std.specs.Cmp.Lexicographic.{slice_cmp}
use Rattle.eif_base.specs.declared.Fault.{Fault}
use Rattle.eif_base.specs.declared.Place.{Place}
use Rattle.eif_base.specs.declared.place.TheConstants.{NO_FILE}
use Rattle.eif_base.specs.Codes.{code_text}
use Rattle.eif_base.specs.Appends.{In}

-- the name of the file with that number, if it is one
abbrev pub file_name : List (List ℕ) → ℕ → Option (List ℕ)
file_name names file = if file == NO_FILE then None else slice_get names file

-- no file comes before every file
abbrev pub file_cmp : Option (List ℕ) → Option (List ℕ) → Ordering
file_cmp None None = o.Equal
file_cmp None (Some b) = o.Less
file_cmp (Some a) None = o.Greater
file_cmp (Some a) (Some b) = slice_cmp nat_cmp a b

abbrev pub place_cmp : Place → Place → Ordering
place_cmp a b =
    ordering_then (nat_cmp a.file b.file) (ordering_then (nat_cmp a.offset b.offset)
    (ordering_then (nat_cmp a.line b.line) (nat_cmp a.column b.column)))

-- by file name, file number, offset, line, column, code, class, feature and about, as numbers and bytes: faults that
-- differ in the case alone are equal here
abbrev pub line_cmp : List (List ℕ) → Fault → Fault → Ordering
line_cmp names a b =
    ordering_then (file_cmp (file_name names a.place.file) (file_name names b.place.file))
    (ordering_then (place_cmp a.place b.place)
    (ordering_then (slice_cmp nat_cmp (code_text a.code) (code_text b.code))
    (ordering_then (slice_cmp nat_cmp a.class b.class)
    (ordering_then (slice_cmp nat_cmp a.feature b.feature) (slice_cmp nat_cmp a.about b.about)))))

-- and then by the case
abbrev pub fault_cmp : List (List ℕ) → Fault → Fault → Ordering
fault_cmp names a b = ordering_then (line_cmp names a b) (nat_cmp a.case b.case)

-- each fault comes before the next, so none is listed twice
abbrev pub IsInOrder : List (List ℕ) → List Fault → Type 0
IsInOrder names [] = Unit {0}
IsInOrder names (a ∷ []) = Unit {0}
IsInOrder names (a ∷ b ∷ rest) = (fault_cmp names a b ≡ o.Less) × IsInOrder names (b ∷ rest)

-- the list has exactly the faults with that property, in order, each once
pub record Lists (names : List (List ℕ)) (list : List Fault) (broken : Fault → Type 0) : Type 0 where
  pub in_order : IsInOrder names list
  pub only : (f : Fault) → In list f → broken f
  pub each : (f : Fault) → broken f → In list f
