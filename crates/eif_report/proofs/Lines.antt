-- The faults that have a line, one fault after another.
use Rattle.std.proofs.Common.{◌≤◌, ℕ, suc, Bool, true, false, cond, List, [], ◌∷◌, length, Option, Some, None, Bor, arith}
use Rattle.std.specs.Ordering.{is_eq}
use Rattle.eif_base.specs.declared.Fault.{Fault}
use Rattle.eif_report.specs.Order.{line_cmp}
use Rattle.eif_report.specs.Report.{new_lines, once}

-- the faults that have a line of their own behind the last one, if there is one
abbrev pub once_behind : List (List ℕ) → Option (Bor Fault) → List Fault → List Fault
once_behind names None fs = once names fs
once_behind names (Some f) fs = new_lines names f.now fs

length-cond : (b : Bool) (x : Fault) (xs : List Fault) (n : ℕ) → length xs ≤ n → length (cond b xs (x ∷ xs)) ≤ suc n
length-cond true x xs n h = omega arith
length-cond false x xs n h = omega arith

length-new_lines : (names : List (List ℕ)) (f : Fault) (fs : List Fault) → length (new_lines names f fs) ≤ length fs
length-new_lines names f [] = omega arith
length-new_lines names f (g ∷ gs) =
    length-cond (is_eq (line_cmp names f g)) g (new_lines names g gs) (length gs) (length-new_lines names g gs)

pub length-once : (names : List (List ℕ)) (fs : List Fault) → length (once names fs) ≤ length fs
length-once names [] = omega arith
length-once names (f ∷ fs) = omega (arith, length-new_lines names f fs)
