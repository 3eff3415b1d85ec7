-- The faults of formals, one formal on.
use Rattle.std.proofs.Common.{◌≡◌, ℕ, ◌+◌, ◌<◌, List, ◌∷◌, ◌++◌, length, map, take, drop, get_or, sym, ap, ◌∙◌, append_assoc}
use Rattle.std.specs.Prelude.{flat_map}
use Rattle.std.specs.List.{enumerate_from}
use Rattle.std.proofs.lemmas.List.{drop_more, take-map}
use Rattle.eif_base.specs.declared.fault.Fault.{Fault}
use Rattle.eif_tree.specs.declared.class.FormalTree.{FormalTree}
use Rattle.eif_tree.specs.Tree.{ClassT}
use Rattle.eif_tree.specs.View.{formal_view}
use Rattle.eif_rules.specs.UniverseRules.{formal_faults, numbered_formal_faults}

module _ (u : List ClassT) (c : ClassT) (fs : List FormalTree) (same : c.formals ≡ map formal_view fs) where
  -- those of the formals from that one on
  abbrev pub from_on : ℕ → List FormalTree → List Fault
  from_on i rest = flat_map (numbered_formal_faults u c) (enumerate_from i (map formal_view rest))

  abbrev pub of_one : ℕ → FormalTree → List Fault
  of_one i f = formal_faults u c (map formal_view (take i fs)) (formal_view f)

  earlier : (i : ℕ) → take i c.formals ≡ map formal_view (take i fs)
  earlier i = ap (take i) same ∙ take-map formal_view i fs

  rest_is : (i : ℕ) (f : FormalTree) → i < length fs → f ≡ get_or fs i f
      → from_on i (drop i fs) ≡ of_one i f ++ from_on (i + 1) (drop (i + 1) fs)
  rest_is i f below is =
      ap (from_on i) (drop_more fs i f below ∙ ap (λ g. g ∷ drop (i + 1) fs) (sym is))
      ∙ ap (λ es. formal_faults u c es (formal_view f) ++ from_on (i + 1) (drop (i + 1) fs)) (earlier i)

  pub one_formal_on : (i : ℕ) (f : FormalTree) (out new whole : List Fault) → i < length fs → f ≡ get_or fs i f
      → new ≡ out ++ of_one i f → out ++ from_on i (drop i fs) ≡ whole
      → new ++ from_on (i + 1) (drop (i + 1) fs) ≡ whole
  one_formal_on i f out new whole below is pushed so_far =
      ap (λ l. l ++ from_on (i + 1) (drop (i + 1) fs)) pushed
      ∙ append_assoc out (of_one i f) (from_on (i + 1) (drop (i + 1) fs))
      ∙ ap (λ l. out ++ l) (sym (rest_is i f below is)) ∙ so_far
