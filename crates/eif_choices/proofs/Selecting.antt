-- The names that clauses select, list by list.
use Rattle.std.proofs.Common.{◌≡◌, ℕ, ◌+◌, ◌<◌, Bool, true, false, List, ◌∷◌, length, get_or, drop, sym, ap, refl, ◌∙◌}
use Rattle.std.specs.Prelude.{◌||◌}
use Rattle.std.specs.Str.{bytes_eq}
use Rattle.std.proofs.lemmas.Bool.Decides.{same_from_decides}
use Rattle.std.proofs.lemmas.List.{drop_more}
use Rattle.std.proofs.lemmas.Slice.Eq.{bytes_eq-Decides}
use Rattle.eif_choices.specs.Picked.{clause_trees}
use Rattle.eif_classes.specs.Binding.{is_selected_in}
use Rattle.eif_heirs.specs.declared.clauses.Clause.{Clause}
use Rattle.eif_tree.specs.Members.{has_name}
use Rattle.eif_tree.specs.declared.tree.NameAt.{NameAt}

or_rotated : (a b c : Bool) → (b || (a || c)) ≡ ((a || b) || c)
or_rotated true true c = refl
or_rotated true false c = refl
or_rotated false b c = refl

bytes_eq_swapped : (n m : List ℕ) → bytes_eq n m ≡ bytes_eq m n
bytes_eq_swapped n m =
    let other = bytes_eq-Decides m n in
    same_from_decides _ (bytes_eq m n) (bytes_eq-Decides n m) (λ e. sym (other.0 e), λ e. other.1 (sym e))

-- the item at a place, and what follows
pub drop_at : {A : Type 0} (xs : List A) (i : ℕ) (x : A) → i < length xs → x ≡ get_or xs i x
    → drop i xs ≡ x ∷ drop (i + 1) xs
drop_at xs i x within is = drop_more xs i x within ∙ ap (λ y. y ∷ drop (i + 1) xs) (sym is)

-- one name more of a list
pub name_more : (names : List NameAt) (i : ℕ) (x : NameAt) → i < length names → x ≡ get_or names i x → (n : List ℕ)
    (before after all : Bool) → after ≡ (bytes_eq n x.name || before) → (has_name (drop i names) n || before) ≡ all
    → (has_name (drop (i + 1) names) n || after) ≡ all
name_more names i x within is n before after all added so_far =
    ap (λ b. has_name (drop (i + 1) names) n || b)
    (added ∙ ap (λ b. b || before) (bytes_eq_swapped n x.name))
    ∙ (or_rotated (bytes_eq x.name n) (has_name (drop (i + 1) names) n) before
    ∙ (sym (ap (λ xs. has_name xs n || before) (drop_at names i x within is)) ∙ so_far))

-- one clause more
pub clause_more : (clauses : List Clause) (i : ℕ) (x : Clause) → i < length clauses → x ≡ get_or clauses i x
    → (n : List ℕ) (before after all : Bool) → after ≡ (has_name x.tree.now.selects.items n || before)
    → (is_selected_in (clause_trees (drop i clauses)) n || before) ≡ all
    → (is_selected_in (clause_trees (drop (i + 1) clauses)) n || after) ≡ all
clause_more clauses i x within is n before after all added so_far =
    ap (λ b. is_selected_in (clause_trees (drop (i + 1) clauses)) n || b) added
    ∙ (or_rotated (has_name x.tree.now.selects.items n) (is_selected_in (clause_trees (drop (i + 1) clauses)) n) before
    ∙ (sym (ap (λ xs. is_selected_in (clause_trees xs) n || before) (drop_at clauses i x within is)) ∙ so_far))
