-- Descent by the rows of ancestors.
use Rattle.std.proofs.Common.{◌≡◌, ◌≢◌, ℕ, ◌<◌, Bool, true, false, List, length, get_or, Option, Some, None, sym, ap, subst, ◌∙◌}
use Rattle.std.proofs.lemmas.List.{length-map}
use Rattle.std.specs.Prelude.{◌↔◌, slice_get}
use Rattle.std.proofs.lemmas.Option.{slice_get-get_or}
use Rattle.eif_ancestry.specs.Ancestries.{AreAncestries}
use Rattle.eif_ancestry.proofs.Members.{member_at, place_of}
use Rattle.eif_system.specs.Graph.{is_member, Reaches}
use Rattle.eif_system.specs.Inheritance.{graph_of, parent_number, parent_numbers}
use Rattle.eif_system.specs.WrittenTypes.{type_name}
use Rattle.eif_tree.specs.Tree.{ParentT, ClassT}
use Rattle.eif_universe.proofs.ParentNumbers.{class_denoted-within}

-- the class d descends from another one exactly where its row has it
pub reached : (g rows : List (List ℕ)) (d a : ℕ) (row : List ℕ) (b : Bool) → AreAncestries g rows → d < length rows →
    row ≡ get_or rows d row → d ≢ a → b ≡ is_member a row → (b ≡ true) ↔ Reaches g d a
reached g rows d a row b are w is other e =
    let at : slice_get rows d ≡ Some row = slice_get-get_or rows d row w ∙ ap Some (sym is) in
    let l = (are.each d row at).list in (
      λ t. let i = place_of row a (sym e ∙ t) in (l.only i.0 a i.1).above,
      λ r. let i = l.each a (record { other = other; above = r }) in e ∙ member_at row i.0 a i.1,
    )

-- each class has a row
pub rows_long : (u : List ClassT) (rows : List (List ℕ)) → AreAncestries (graph_of u) rows → length rows ≡ length u
rows_long u rows are = are.long ∙ length-map u (parent_numbers u)

pub parent_within : (u : List ClassT) (c : ClassT) (p : ParentT) (k : ℕ) (rows : List (List ℕ)) →
    AreAncestries (graph_of u) rows → parent_number u c p ≡ Some k → k < length rows
parent_within u c p k rows are e =
    subst (λ n. k < n) (sym (rows_long u rows are)) (class_denoted-within u c (type_name p.parent) k e)

-- the class of a clause, which is the class d or descends from it
abbrev HasOwn : List ClassT → ℕ → Option ℕ → Type 0
HasOwn u d o = (k : ℕ) × (o ≡ Some k) × Reaches (graph_of u) k d

pub own_by : (u : List ClassT) (d k : ℕ) (o : Option ℕ) (b : Bool) → o ≡ Some k →
    (b ≡ true) ↔ Reaches (graph_of u) k d → (b ≡ true) ↔ HasOwn u d o
own_by u d k o b e both = (
  λ t. (k, e, both.0 t),
  λ h. let s : Some k ≡ Some h.0 = sym e ∙ h.1 in let q : h.0 ≡ k = cc in
      both.1 (subst (λ k. Reaches (graph_of u) k d) q h.2),
)

pub own_by_none : (u : List ClassT) (d : ℕ) (o : Option ℕ) → o ≡ None → (false ≡ true) ↔ HasOwn u d o
own_by_none u d o e = (λ t. cc, λ h. let s : None ≡ Some h.0 = sym e ∙ h.1 in cc)
