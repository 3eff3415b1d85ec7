-- The lines of a list, one after another.
use Rattle.std.proofs.Common.{◌≡◌, ℕ, suc, ◌+◌, ◌-◌, ◌<◌, ◌≤◌, ◌==◌, nat_lt, Bool, cond, true, false, List, [], ◌∷◌, ◌++◌}
use Rattle.std.proofs.Common.{Some, None, length, map, take, drop, position, refl, ap, sym, subst, ◌∙◌, arith}
use Rattle.std.proofs.Common.{append_assoc, length-drop}
use Rattle.std.specs.Str.{is_utf8, IsUtf8}
use Rattle.std.specs.List.{slice_split, onto_first, position_or_len}
use Rattle.std.proofs.lemmas.Bool.Decides.{nat_tests}
use Rattle.std.proofs.lemmas.Bool.{ltb-true, false_from_ne_true}
use Rattle.std.proofs.lemmas.List.{map-append, length-take-le}
use Rattle.std.proofs.lemmas.List.Elements.{filter-append}
use Rattle.std.proofs.lemmas.List.Splits.{slice_split_first, length-slice_split}
use Rattle.std.proofs.lemmas.Option.{cond_some}
use Rattle.std.proofs.lemmas.Str.{IsUtf8-from_is_utf8, is_utf8-from_IsUtf8}
use Rattle.eif_base.specs.declared.Fault.{Fault}
use Rattle.eif_base.specs.declared.Code.TheVariants as code
use Rattle.eif_rules.specs.FaultForms.{fault_of_text}
use Rattle.eifcheck.specs.ListFile.{Line, pieces_of, without_return, line_place, line_of, lines_from, lines_of}
use Rattle.eifcheck.specs.ListFile.{listed_names, list_faults, names_on, faults_on}

-- ---- a carriage return

return_one : (x b : ℕ) (is_return : Bool) → b == 13 ≡ is_return
    → without_return (x ∷ b ∷ []) ≡ cond is_return (x ∷ []) (x ∷ b ∷ [])
return_one x b true e = rw e
return_one x b false e = rw e

onto : (x : ℕ) (is_return : Bool) (bs cs : List ℕ) → x ∷ cond is_return bs cs ≡ cond is_return (x ∷ bs) (x ∷ cs)
onto x true bs cs = refl
onto x false bs cs = refl

-- a carriage return at the end is dropped
pub without_return_of : (front : List ℕ) (b : ℕ)
    → without_return (front ++ b ∷ []) ≡ cond (b == 13) front (front ++ b ∷ [])
without_return_of [] b = refl
without_return_of (x ∷ []) b = return_one x b (b == 13) refl
without_return_of (x ∷ y ∷ ys) b =
    ap (λ bs. x ∷ bs) (without_return_of (y ∷ ys) b) ∙ onto x (b == 13) (y ∷ ys) (y ∷ ys ++ b ∷ [])

-- ---- one line

abbrev Gives : List Line → List Fault → List (List ℕ) → Type 0
Gives lines faults names = (faults_on lines ≡ faults) × (names_on lines ≡ names)

utf8_line : (offset number : ℕ) (line : List ℕ) → is_utf8 line ≡ true → 0 < length line
    → Gives (line_of offset number line) [] (line ∷ [])
utf8_line offset number [] e some = absurd (omega arith)
utf8_line offset number (b ∷ bs) e some = (rw e, rw e)

other_line : (offset number : ℕ) (line : List ℕ) → is_utf8 line ≡ false → 0 < length line
    → Gives (line_of offset number line) (fault_of_text code.Xlst (line_place offset number) [] ∷ []) []
other_line offset number [] e some = absurd (omega arith)
other_line offset number (b ∷ bs) e some = (rw e, rw e)

-- a line that is UTF-8 is a name
pub name_line : (offset number : ℕ) (line : List ℕ) → IsUtf8 line → 0 < length line
    → Gives (line_of offset number line) [] (line ∷ [])
name_line offset number line is some = utf8_line offset number line (is_utf8-from_IsUtf8 line is) some

-- a line that is not UTF-8 is a fault
pub fault_line : (offset number : ℕ) (line : List ℕ) → (IsUtf8 line → ⊥) → 0 < length line
    → Gives (line_of offset number line) (fault_of_text code.Xlst (line_place offset number) [] ∷ []) []
fault_line offset number line bad some =
    other_line offset number line (false_from_ne_true (is_utf8 line) (λ e. bad (IsUtf8-from_is_utf8 line e))) some

-- ---- the pieces of a text

abbrev is_feed : ℕ → Bool
is_feed b = b == 10

abbrev feed : List ℕ → ℕ
feed text = position_or_len is_feed text

piece_more : (b : ℕ) (bs : List ℕ) (pieces : List (List ℕ)) → pieces_of bs ≡ pieces
    → pieces_of (b ∷ bs) ≡ cond (is_feed b) ([] ∷ pieces) (onto_first b pieces)
piece_more b bs [] e = rw e
piece_more b bs (piece ∷ pieces) e = rw e

split_at_feeds : (text : List ℕ) → pieces_of text ≡ slice_split is_feed text
split_at_feeds [] = refl
split_at_feeds (b ∷ bs) = piece_more b bs (slice_split is_feed bs) (split_at_feeds bs)

last_more : (b : ℕ) (bs : List ℕ) (here : Bool) → is_feed b ≡ here → (length bs ≤ feed bs → pieces_of bs ≡ bs ∷ [])
    → suc (length bs) ≤ feed (b ∷ bs) → pieces_of (b ∷ bs) ≡ (b ∷ bs) ∷ []
last_more b bs true e rest past = absurd (omega (arith, rw e at past))
last_more b bs false e rest past =
    let more = rw e at past in piece_more b bs (bs ∷ []) (rest (omega (arith, more))) ∙ rw e

last_piece : (text : List ℕ) → length text ≤ feed text → pieces_of text ≡ text ∷ []
last_piece [] past = refl
last_piece (b ∷ bs) past = last_more b bs (is_feed b) refl (last_piece bs) past

pieces_last : (text : List ℕ) → position is_feed text ≡ None → pieces_of text ≡ text ∷ []
pieces_last text e = last_piece text (grind (arith, nat_tests))

pieces_next : (text : List ℕ) (i : ℕ) → position is_feed text ≡ Some i
    → (i < length text) × (pieces_of text ≡ take i text ∷ pieces_of (drop (i + 1) text))
pieces_next text i e =
    let found = cond_some (nat_lt (feed text) (length text)) (feed text) i e in
    let within : feed text < length text = ltb-true (feed text) (length text) found.0 in
    let split = split_at_feeds text ∙ slice_split_first is_feed text 0 within in
    let rest = ap (λ pieces. take (feed text) text ∷ pieces) (sym (split_at_feeds (drop (feed text + 1) text))) in
    (omega arith, subst (λ k. pieces_of text ≡ take k text ∷ pieces_of (drop (k + 1) text)) found.1 (split ∙ rest))

some_pieces : (text : List ℕ) → 0 < length (pieces_of text)
some_pieces text = rw split_at_feeds (omega (arith, length-slice_split is_feed text))

-- ---- lines

lines_by : (offset number : ℕ) (piece : List ℕ) (pieces : List (List ℕ)) → 0 < length pieces
    → lines_from offset number (piece ∷ pieces)
    ≡ line_of offset number (without_return piece) ++ lines_from (offset + length piece + 1) (number + 1) pieces
lines_by offset number piece [] some = absurd (omega arith)
lines_by offset number piece (next ∷ pieces) some = refl

-- a line with a line feed behind it
lines_next : (offset number : ℕ) (text : List ℕ) (i : ℕ) → position is_feed text ≡ Some i
    → lines_from offset number (pieces_of text)
    ≡ line_of offset number (without_return (take i text))
    ++ lines_from (offset + (i + 1)) (number + 1) (pieces_of (drop (i + 1) text))
lines_next offset number text i e =
    let next = pieces_next text i e in
    let long : length (take i text) ≡ i = length-take-le i text (omega (arith, next.0)) in
    let at : offset + length (take i text) + 1 ≡ offset + (i + 1) = omega (arith, long) in
    let one = line_of offset number (without_return (take i text)) in
    let more = pieces_of (drop (i + 1) text) in
    ap (lines_from offset number) next.1
    ∙ lines_by offset number (take i text) more (some_pieces (drop (i + 1) text))
    ∙ ap (λ n. one ++ lines_from n (number + 1) more) at

-- the last line
lines_last : (offset number : ℕ) (text : List ℕ) → position is_feed text ≡ None
    → lines_from offset number (pieces_of text) ≡ line_of offset number text
lines_last offset number text e = rw (pieces_last text e)

-- ---- faults and names of lines

faults_on-append : (xs ys : List Line) → faults_on (xs ++ ys) ≡ faults_on xs ++ faults_on ys
faults_on-append xs ys = rw filter-append (map-append _ _ _)

names_on-append : (xs ys : List Line) → names_on (xs ++ ys) ≡ names_on xs ++ names_on ys
names_on-append xs ys = rw filter-append (map-append _ _ _)

no_faults_cons : (l : Line) (ls : List Line) (text : Bool) → is_utf8 l.bytes ≡ text
    → (faults_on ls ≡ [] → names_on ls ≡ map (λ l. l.bytes) ls)
    → faults_on (l ∷ ls) ≡ [] → names_on (l ∷ ls) ≡ l.bytes ∷ map (λ l. l.bytes) ls
no_faults_cons l ls true e rest none = rw e (ap (λ names. l.bytes ∷ names) (rest (rw e at none)))
no_faults_cons l ls false e rest none = let some = rw e at none in cc

-- where no line is a fault, each is a name
no_faults : (lines : List Line) → faults_on lines ≡ [] → names_on lines ≡ map (λ l. l.bytes) lines
no_faults [] none = refl
no_faults (l ∷ ls) none = no_faults_cons l ls (is_utf8 l.bytes) refl (no_faults ls) none

-- ---- a loop over the lines

one_more : {B : Type 0} (on : List Line → List B) → ((xs ys : List Line) → on (xs ++ ys) ≡ on xs ++ on ys)
    → (old new all : List B) (lines one rest : List Line) → lines ≡ one ++ rest → old ++ on lines ≡ all
    → new ≡ old ++ on one → new ++ on rest ≡ all
one_more on on-append old new all lines one rest cut before added =
    ap (λ done. done ++ on rest) added ∙ append_assoc old (on one) (on rest)
    ∙ ap (λ more. old ++ more) (sym (on-append one rest) ∙ ap on (sym cut)) ∙ before

-- The lines before the rest of a text were added: their faults and their names.
pub record Added (text : List ℕ) (faults : List Fault) (names : List (List ℕ)) (offset number : ℕ) (rest : List ℕ)
    : Type 0 where
  pub before : offset + length rest ≡ length text
  pub few : number ≤ offset + 1
  pub faults_are : faults ++ faults_on (lines_from offset number (pieces_of rest)) ≡ list_faults text
  pub names_are : names ++ names_on (lines_from offset number (pieces_of rest)) ≡ names_on (lines_of text)

module _ (text rest : List ℕ) (faults faults' : List Fault) (names names' : List (List ℕ)) (offset number : ℕ)
    (added : Added text faults names offset number rest) where
  -- one line more
  pub added_more : (end : ℕ) (line rest' : List ℕ) → position is_feed rest ≡ Some end
      → line ≡ without_return (take end rest) → rest' ≡ drop (end + 1) rest
      → faults' ≡ faults ++ faults_on (line_of offset number line)
      → names' ≡ names ++ names_on (line_of offset number line)
      → Added text faults' names' (offset + (end + 1)) (number + 1) rest'
  added_more end line rest' found is_line is_rest more_faults more_names =
      let within : end < length rest = (pieces_next rest end found).0 in
      let shorter : length rest' ≡ length rest - (end + 1) = ap length is_rest ∙ length-drop (end + 1) rest in
      let before = added.before in
      let few = added.few in
      let one = line_of offset number line in
      let more = lines_from (offset + (end + 1)) (number + 1) (pieces_of rest') in
      let cut : lines_from offset number (pieces_of rest) ≡ one ++ more =
      rw (is_line, is_rest) (lines_next offset number rest end found) in
      record {
        before = omega arith;
        few = omega arith;
        faults_are = one_more faults_on faults_on-append faults faults' _ _ one more cut added.faults_are more_faults;
        names_are = one_more names_on names_on-append names names' _ _ one more cut added.names_are more_names;
      }

  -- the last line
  pub added_last : position is_feed rest ≡ None → faults' ≡ faults ++ faults_on (line_of offset number rest)
      → names' ≡ names ++ names_on (line_of offset number rest)
      → (faults' ≡ list_faults text) × (list_faults text ≡ [] → names' ≡ listed_names text)
  added_last none more_faults more_names =
      let last = lines_last offset number rest none in
      let all = more_names ∙ ap (λ lines. names ++ names_on lines) (sym last) ∙ added.names_are in (
        more_faults ∙ ap (λ lines. faults ++ faults_on lines) (sym last) ∙ added.faults_are,
        λ good. all ∙ no_faults (lines_of text) good,
      )
