-- What a class gives the formals of an ancestor.
use Rattle.std.specs.Prelude.{ℕ, suc, ◌==◌, nat_le, Bool, false, if◌then◌else◌, List, [], ◌∷◌, Option, Some, None}
use Rattle.std.specs.List.{list_all}
use Rattle.std.specs.Option.{option_map, option_and_then}
use Rattle.eif_base.specs.declared.limits.TheConstants.{MOST_TYPE_NAMES}
use Rattle.eif_tree.specs.Tree.{ParentT, ClassT}
use Rattle.eif_classes.specs.Descent.{descends}
use Rattle.eif_system.specs.Lineage.{Line, line, cut, Ups, up, top, line_of}
use Rattle.eif_classes.specs.Resolution.{own_formals, clause_actuals}
use Rattle.eif_classes.specs.Types.{Actuals, name_count_in, put_in_all, same_actuals}

-- the actuals of an ancestor by one parent clause, where the parent's own are defined
pub record Way : Type 0 where
  pub clause : ParentT
  pub actuals : Option Actuals

-- both are defined, and the second list is the first
abbrev pub are_alike : Option Actuals → Option Actuals → Bool
are_alike (Some xs) (Some ys) = same_actuals ys xs
are_alike _ _ = false

-- the class type with these actuals has no more names than a type may have
abbrev pub is_small : Actuals → Bool
is_small xs = nat_le (suc (name_count_in xs)) MOST_TYPE_NAMES

-- the actuals, where they are not too large
abbrev pub if_small : Actuals → Option Actuals
if_small xs = if is_small xs then Some xs else None

-- the one list that all ways give, where it isn't too large
abbrev pub common : List Way → Option Actuals
common [] = None
common (w ∷ ws) =
    if list_all (λ v. are_alike w.actuals v.actuals) ws then option_and_then if_small w.actuals else None

-- by a clause of the class c whose parent gives k these actuals
abbrev pub way : List ClassT → ClassT → ParentT → Option Actuals → Way
way u c p o = record { clause = p; actuals = option_map (put_in_all (clause_actuals u c p)) o }

abbrev mutual
  -- the actuals of the ancestor k over the formals of the class; of the class itself its formals
  pub derived : List ClassT → Line → ℕ → Option Actuals
  derived u (line d c ups) k = if d == k then Some (own_formals c) else common (ways u c ups k)
  derived u cut k = None

  -- by each clause of the class c whose class is k or descends from it
  pub ways : List ClassT → ClassT → Ups → ℕ → List Way
  ways u c top k = []
  ways u c (up p l rest) k =
      if descends l k then way u c p (derived u l k) ∷ ways u c rest k else ways u c rest k

-- the actuals of the class k over the formals of the class d
abbrev pub ancestor : List ClassT → ℕ → ℕ → Option Actuals
ancestor u d k = derived u (line_of u d) k
