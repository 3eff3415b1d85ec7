-- A larger bound changes no run that was not cut off.
use Rattle.std.specs.Prelude.{◌≡◌, ℕ, ◌≤◌, List}
use Rattle.eif_meaning.specs.System.{System}
use Rattle.eif_meaning.specs.Run.{run, IsUnfinished}

-- by the bound on levels and turns
abbrev pub RunsGrow : Type 0
RunsGrow =
    (n m : ℕ) (system : System) (class_name procedure : List ℕ)
    → n ≤ m
    → (IsUnfinished (run n system class_name procedure) → ⊥)
    → run m system class_name procedure ≡ run n system class_name procedure
