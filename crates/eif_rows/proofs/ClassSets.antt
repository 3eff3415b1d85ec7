-- The names and the proper ancestors of a class rise.
use Rattle.std.proofs.Common.{◌≡◌, ℕ, List, [], ◌∷◌, ◌++◌, map, Option, Some, None, refl, sym, ap₂, subst}
use Rattle.std.specs.List.Sorted.{IsStrictlySortedBy}
use Rattle.std.specs.Ordering.{nat_cmp}
use Rattle.eif_classes.specs.Descent.{above, all_above}
use Rattle.eif_classes.specs.Entries.{Entry, Feature}
use Rattle.eif_classes.specs.Features.{declaration_of, entries, feature_by, names}
use Rattle.eif_classes.specs.Names.{name_cmp, name_set}
use Rattle.eif_rows.proofs.NameSets.{rising-name_set, rising-numbers}
use Rattle.eif_system.specs.Lineage.{Line, line, cut}
use Rattle.eif_tree.specs.Members.{declared_names}
use Rattle.eif_tree.specs.Tree.{DeclT}

made_named : (make : List ℕ → Feature) → ((n : List ℕ) → (make n).name ≡ n) → (ns : List (List ℕ))
    → map (λ f. f.name) (map make ns) ≡ ns
made_named make named [] = refl
made_named make named (n ∷ ns) = ap₂ ◌∷◌ (named n) (made_named make named ns)

feature_named : (d : ℕ) (es : List Entry) (n : List ℕ) (x : Option DeclT) → (feature_by d es n x).name ≡ n
feature_named d es n (Some x) = refl
feature_named d es n None = refl

-- the names that a class declares and inherits, as a set
pub names-name_set : (l : Line) → (ns : List (List ℕ)) × (names l ≡ name_set ns)
names-name_set (line d c ups) =
    let es = entries ups in (
      map (λ n. n.name) (declared_names c) ++ map (λ e. e.final) es,
      made_named (λ n. feature_by d es n (declaration_of c n)) (λ n. feature_named d es n (declaration_of c n)) _,
    )
names-name_set cut = ([], refl)

pub rising-names : (l : Line) → IsStrictlySortedBy name_cmp (names l)
rising-names l =
    let set = names-name_set l in subst (IsStrictlySortedBy name_cmp) (sym set.1) (rising-name_set set.0)

pub rising-above : (l : Line) → IsStrictlySortedBy nat_cmp (above l)
rising-above (line d c ups) = rising-numbers (all_above ups)
rising-above cut = rising-numbers []
