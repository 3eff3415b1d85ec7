-- The clauses of a class by whether it writes any.
use Rattle.std.proofs.Common.{◌≡◌, Bool, true, false, List, [], ◌∷◌, length, map, refl, sym, ap, ◌∙◌}
use Rattle.std.specs.Prelude.{◌==◌, if◌then◌else◌}
use Rattle.std.specs.Str.{bytes_eq}
use Rattle.std.proofs.Math.Dec.{eqb-suc-zero}
use Rattle.eif_system.specs.Inheritance.{any_clause, clauses}
use Rattle.eif_system.specs.Kernel.{any_name}
use Rattle.eif_tree.specs.Tree.{ParentT}
use Rattle.eif_tree.specs.View.{class_view, parent_view}
use Rattle.eif_tree.specs.declared.class.ClassTree.{ClassTree}
use Rattle.eif_tree.specs.declared.class.ParentClause.{ParentClause}

pub none_left : (ps : List ParentClause) → (length ps == 0) ≡ true → ps ≡ []
none_left [] h = refl
none_left (p ∷ ps) h = let z = eqb-suc-zero (length ps) in cc

module _ (c : ClassTree) where
  -- the clauses where these are written
  abbrev clauses_where : List ParentClause → List ParentT
  clauses_where ps = clauses (record (class_view c) { parents = map parent_view ps })

  pub written_clauses : (ps : List ParentClause) → c.parents.items ≡ ps → (length ps == 0) ≡ false
      → map parent_view ps ≡ clauses (class_view c)
  written_clauses [] e h = cc
  written_clauses (p ∷ ps) e h = ap clauses_where (sym e)

  unwritten : c.parents.items ≡ [] → (b : Bool) → bytes_eq c.name any_name ≡ b
      → (if b then [] else any_clause ∷ []) ≡ clauses (class_view c)
  unwritten e b is =
      ap (λ (b : Bool). if b then [] else any_clause ∷ []) (sym is) ∙ ap clauses_where (sym e)

  pub any_without : c.parents.items ≡ [] → bytes_eq c.name any_name ≡ true → [] ≡ clauses (class_view c)
  any_without e is = unwritten e true is

  pub other_without : c.parents.items ≡ [] → bytes_eq c.name any_name ≡ false
      → any_clause ∷ [] ≡ clauses (class_view c)
  other_without e is = unwritten e false is
