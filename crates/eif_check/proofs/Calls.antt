-- Calls that are instructions.
use Rattle.std.proofs.Common.{◌≡◌, ℕ, false, ◌==◌, List, [], ◌∷◌, length, refl}
use Rattle.eif_base.specs.declared.Place.{Place}
use Rattle.eif_tree.specs.Tree.{Ex, call, unqualified}
use Rattle.eif_tree.specs.View.{exs_from}
use Rattle.eif_tree.specs.Members.{called_by}

-- a call with arguments is none of those that a plain class has
pub called_by-more : (p : Place) (n : List ℕ) (es : List Ex) → (length es == 0) ≡ false →
    called_by (call (unqualified p n (exs_from es))) ≡ []
called_by-more p n [] e = cc
called_by-more p n (x ∷ es) e = refl
