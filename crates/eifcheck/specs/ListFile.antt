-- A file with a list of file names, one on each line.
use Rattle.std.specs.Prelude.{ℕ, ◌+◌, ◌==◌, not, if◌then◌else◌, List, [], ◌∷◌, ◌++◌, length, map, filter}
use Rattle.std.specs.Str.{is_utf8}
use Rattle.eif_base.specs.declared.Fault.{Fault}
use Rattle.eif_base.specs.declared.Place.{Place}
use Rattle.eif_base.specs.declared.Code.TheVariants as code
use Rattle.eif_rules.specs.FaultForms.{fault_of_text}

-- a line that isn't empty: where it begins, and its bytes
pub record Line : Type 0 where
  pub place : Place
  pub bytes : List ℕ

abbrev joined : ℕ → List (List ℕ) → List (List ℕ)
joined b [] = (b ∷ []) ∷ []
joined b (piece ∷ pieces) = (b ∷ piece) ∷ pieces

-- what stands before, between and behind the line feeds
abbrev pub pieces_of : List ℕ → List (List ℕ)
pieces_of [] = [] ∷ []
pieces_of (b ∷ bs) = if b == 10 then [] ∷ pieces_of bs else joined b (pieces_of bs)

-- without one carriage return at the end
abbrev pub without_return : List ℕ → List ℕ
without_return [] = []
without_return (b ∷ []) = if b == 13 then [] else b ∷ []
without_return (b ∷ c ∷ bs) = b ∷ without_return (c ∷ bs)

-- the first column of the line with that number, which begins at that offset of the list; the list is its own file
abbrev pub line_place : ℕ → ℕ → Place
line_place offset number = record { file = 0; offset = offset; line = number; column = 1 }

abbrev pub line_of : ℕ → ℕ → List ℕ → List Line
line_of offset number [] = []
line_of offset number (b ∷ bs) = record { place = line_place offset number; bytes = b ∷ bs } ∷ []

-- The lines of these pieces, from that offset and line number on. A line ends with a line feed, before which one carriage
-- return is dropped; the last piece has no line feed behind it. Empty lines are skipped, and count.
abbrev pub lines_from : ℕ → ℕ → List (List ℕ) → List Line
lines_from offset number [] = []
lines_from offset number (piece ∷ []) = line_of offset number piece
lines_from offset number (piece ∷ next ∷ pieces) =
    line_of offset number (without_return piece) ++ lines_from (offset + length piece + 1) (number + 1) (next ∷ pieces)

abbrev pub lines_of : List ℕ → List Line
lines_of text = lines_from 0 1 (pieces_of text)

-- the file names that the list has
abbrev pub listed_names : List ℕ → List (List ℕ)
listed_names text = map (λ l. l.bytes) (lines_of text)

-- the lines that are UTF-8
abbrev pub names_on : List Line → List (List ℕ)
names_on lines = map (λ l. l.bytes) (filter (λ l. is_utf8 l.bytes) lines)

-- XLST.1: a line that is not UTF-8
abbrev pub faults_on : List Line → List Fault
faults_on lines = map (λ l. fault_of_text code.Xlst l.place []) (filter (λ l. not (is_utf8 l.bytes)) lines)

abbrev pub list_faults : List ℕ → List Fault
list_faults text = faults_on (lines_of text)
