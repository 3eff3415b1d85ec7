-- The bytes of a report.
use Rattle.std.specs.Prelude.{◌≡◌, ℕ, ◌==◌, Bool, if◌then◌else◌, List, [], ◌∷◌, ◌++◌, length, flat_map, count_by, slice_get, unwrap_or, codes, decimal}
use Rattle.std.specs.declared.cmp.Ordering.{Ordering}
use Rattle.std.specs.declared.cmp.Ordering.TheVariants as o
use Rattle.std.specs.Ordering.{nat_cmp, is_eq}
use Rattle.std.specs.Cmp.Lexicographic.{slice_cmp}
use Rattle.std.specs.Str.{bytes_eq}
use Rattle.eif_base.specs.declared.Code.{Code}
use Rattle.eif_base.specs.declared.Fault.{Fault}
use Rattle.eif_base.specs.declared.Place.{Place}
use Rattle.eif_base.specs.declared.place.TheConstants.{NO_FILE}
use Rattle.eif_base.specs.Codes.{code_text}
use Rattle.eif_report.specs.declared.form.ReportForm.{ReportForm}
use Rattle.eif_report.specs.declared.form.ReportForm.TheVariants as form
use Rattle.eif_report.specs.declared.verdict.Verdict.{Verdict}
use Rattle.eif_report.specs.declared.verdict.Verdict.TheVariants as v
use Rattle.eif_report.specs.Order.{line_cmp, Lists}

abbrev pub space : List ℕ
space = 32 ∷ []

abbrev pub colon : List ℕ
colon = 58 ∷ []

abbrev pub dot : List ℕ
dot = 46 ∷ []

abbrev pub line_feed : List ℕ
line_feed = 10 ∷ []

-- a name, or a dash where it is missing
abbrev pub name_or_dash : List ℕ → List ℕ
name_or_dash [] = codes "-"
name_or_dash (b ∷ bs) = b ∷ bs

abbrev pub place_text : List (List ℕ) → Place → List ℕ
place_text names p =
    if p.file == NO_FILE then codes "-:0:0"
    else unwrap_or (slice_get names p.file) [] ++ colon ++ decimal p.line ++ colon ++ decimal p.column

-- how a report names the rule: by its code, or in form 2 by its code and its case
abbrev pub rule_text : ReportForm → Fault → List ℕ
rule_text form.One f = code_text f.code
rule_text form.Two f = code_text f.code ++ dot ++ decimal f.case

-- `RULE CLASS FEATURE FILE:LINE:COLUMN ABOUT` and a line feed
abbrev pub fault_line : ReportForm → List (List ℕ) → Fault → List ℕ
fault_line form names f =
    rule_text form f ++ space ++ name_or_dash f.class ++ space ++ name_or_dash f.feature ++ space
    ++ place_text names f.place ++ space ++ name_or_dash f.about ++ line_feed

-- the faults behind f without each that differs from the one before it in the case alone
abbrev pub new_lines : List (List ℕ) → Fault → List Fault → List Fault
new_lines names f [] = []
new_lines names f (g ∷ gs) =
    if is_eq (line_cmp names f g) then new_lines names g gs else g ∷ new_lines names g gs

abbrev pub once : List (List ℕ) → List Fault → List Fault
once names [] = []
once names (f ∷ fs) = f ∷ new_lines names f fs

-- the faults that have a line: in form 1 those that differ in the case alone have one together
abbrev pub with_line : ReportForm → List (List ℕ) → List Fault → List Fault
with_line form.One names list = once names list
with_line form.Two names list = list

abbrev pub fault_lines : ReportForm → List (List ℕ) → List Fault → List ℕ
fault_lines form names list = flat_map (fault_line form names) (with_line form names list)

-- ---- how often codes occur

abbrev pub put_by : Ordering → Code → Code → List Code → List Code → List Code
put_by o.Less c d ds rest = c ∷ d ∷ ds
put_by o.Equal c d ds rest = d ∷ ds
put_by o.Greater c d ds rest = d ∷ rest

-- the code put into a list in the order of texts, once
abbrev pub put_code : Code → List Code → List Code
put_code c [] = c ∷ []
put_code c (d ∷ ds) = put_by (slice_cmp nat_cmp (code_text c) (code_text d)) c d ds (put_code c ds)

-- the codes that occur, each once, in the order of their texts
abbrev pub codes_of : List Fault → List Code
codes_of [] = []
codes_of (f ∷ fs) = put_code f.code (codes_of fs)

abbrev pub has_code : Code → Fault → Bool
has_code c f = bytes_eq (code_text f.code) (code_text c)

-- `CODE N` and a line feed, where N counts the faults with the code
abbrev pub count_line : List Fault → Code → List ℕ
count_line list c = code_text c ++ space ++ decimal (count_by (has_code c) list) ++ line_feed

-- in form 2 a line for each code that occurs
abbrev pub count_lines : ReportForm → List Fault → List ℕ
count_lines form.One list = []
count_lines form.Two list = flat_map (count_line list) (codes_of list)

-- ---- the report

-- a line for each fault, in form 2 a line for each code, and the count of the lines of faults
abbrev pub faults_text : ReportForm → List (List ℕ) → List Fault → List ℕ
faults_text form names list =
    fault_lines form names list ++ count_lines form list
    ++ codes "no " ++ decimal (length (with_line form names list)) ++ codes " faults" ++ line_feed

-- the count of texts without a fault
abbrev pub yes_text : ℕ → List ℕ
yes_text n = codes "yes " ++ decimal n ++ codes " classes" ++ line_feed

abbrev pub verdict_text : ReportForm → List (List ℕ) → Verdict → List ℕ
verdict_text form names (v.Yes n) = yes_text n
verdict_text form names (v.Faults list) = faults_text form names list

-- the bytes are the report in that form of exactly the faults with that property
abbrev pub IsReport : ReportForm → List (List ℕ) → (Fault → Type 0) → List ℕ → Type 0
IsReport form names broken bytes =
    (list : List Fault) × Lists names list broken × (bytes ≡ faults_text form names list)
