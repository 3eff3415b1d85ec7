-- Runs that are stopped.
use Rattle.std.specs.Prelude.{◌≡◌, ℕ, false, List, [], ◌∷◌, ◌++◌, length, Some, nat_le, codes}
use Rattle.eif_tree.specs.declared.tree.Op.TheVariants as op
use Rattle.eif_tree.specs.Tree.{Ins, Ex}
use Rattle.eif_meaning.specs.Values.{Object, State, stopped}
use Rattle.eif_meaning.specs.Objects.{object_of}
use Rattle.eif_meaning.specs.Frames.{Frame}
use Rattle.eif_meaning.specs.Operands.{most_items, bytes_or_stop, give_string}
use Rattle.eif_meaning.specs.BuiltIns.{append_bytes}
use Rattle.eif_meaning.specs.Run.{Ran, finished, halted}
use Rattle.eif_meaning.specs.BodyTexts.{plain, generic, number, text, the, dot, dot_with, one, two, perform, show, make, make_by}
use Rattle.eif_meaning.specs.RunSystems.{has, run_making, run_body}

-- prints "a", and then shows the value of an expression
abbrev pub shows_after : Ex → Ran
shows_after e = run_body 10 (show (text "a") ∷ show e ∷ [])

-- prints "a", makes an ARRAY `a`, and goes on
abbrev pub with_array : Ins → Ins → Ran
with_array makes last =
    run_making 10 (has "a" (generic "array" (plain "integer" ∷ [])) ∷ []) (show (text "a") ∷ makes ∷ last ∷ [])

-- fills it with 7 from one index to another
abbrev pub fills : Ex → Ex → Ins → Ran
fills lo up last = with_array (make_by "a" "make_filled" (number 7 ∷ lo ∷ up ∷ [])) last

-- from 3 to 4
abbrev pub fills_two : Ins → Ran
fills_two last = fills (number 3) (number 4) last

-- shows the item of an index
abbrev pub shows_item : Ex → Ins
shows_item i = show (dot_with (the "a") "item" (i ∷ []))

-- puts 8 at an index
abbrev pub puts : Ex → Ins
puts i = perform (dot_with (the "a") "put" (number 8 ∷ i ∷ []))

-- -1
abbrev pub minus_one : Ex
minus_one = one op.Minus (number 1)

-- the greatest INTEGER
abbrev pub greatest : Ex
greatest = number 9223372036854775807

-- the least INTEGER, which has no literal
abbrev pub least : Ex
least = two op.Minus (one op.Minus greatest) (number 1)

-- a sum has no more bytes than a STRING may have
abbrev pub LongTextStops : Type 0
LongTextStops =
    (a b : List ℕ) (s : State) → nat_le (length (a ++ b)) most_items ≡ false
    → bytes_or_stop (a ++ b) give_string s ≡ stopped s.store.printed

-- nor has a STRING to which others are appended
abbrev pub LongAppendStops : Type 0
LongAppendStops =
    (c : Frame) (bytes : List ℕ) (o : Object) (s : State) → object_of s.store.heap c.current ≡ Some o
    → nat_le (length (o.content.bytes ++ bytes)) most_items ≡ false
    → append_bytes c bytes s ≡ stopped s.store.printed

-- with 10 levels and turns
abbrev pub StoppedRuns : Type 0
StoppedRuns =
    -- a zero divisor, and a negative exponent
    (shows_after (two op.Divide (number 1) (number 0)) ≡ halted (codes "a"))
    × (shows_after (two op.Modulo (number 1) (number 0)) ≡ halted (codes "a"))
    × (shows_after (two op.Power (number 2) minus_one) ≡ halted (codes "a"))
    -- an index before a STRING, in it and behind it
    × (shows_after (dot_with (text "b") "item" (number 0 ∷ [])) ≡ halted (codes "a"))
    × (shows_after (dot_with (text "b") "item" (number 1 ∷ [])) ≡ finished (codes "ab"))
    × (shows_after (dot_with (text "b") "item" (number 2 ∷ [])) ≡ halted (codes "a"))
    -- of an ARRAY
    × (fills_two (shows_item (number 2)) ≡ halted (codes "a"))
    × (fills_two (shows_item (number 3)) ≡ finished (codes "a7"))
    × (fills_two (shows_item (number 4)) ≡ finished (codes "a7"))
    × (fills_two (shows_item (number 5)) ≡ halted (codes "a"))
    × (fills_two (shows_item minus_one) ≡ halted (codes "a"))
    × (fills_two (puts (number 2)) ≡ halted (codes "a"))
    × (fills_two (puts (number 4)) ≡ finished (codes "a"))
    × (fills_two (puts (number 5)) ≡ halted (codes "a"))
    -- one that was not filled has no item
    × (with_array (make "a") (shows_item (number 0)) ≡ halted (codes "a"))
    -- a number of values that is 0, negative, past 16,777,216, and past the greatest INTEGER, where it is not wrapped
    -- to 0
    × (fills (number 4) (number 3) (show (dot (the "a") "count")) ≡ finished (codes "a0"))
    × (fills (number 5) (number 3) (show (dot (the "a") "count")) ≡ halted (codes "a"))
    × (fills (number 1) (number 16777217) (show (dot (the "a") "lower")) ≡ halted (codes "a"))
    × (fills least greatest (show (dot (the "a") "count")) ≡ halted (codes "a"))
    × LongTextStops
    × LongAppendStops
