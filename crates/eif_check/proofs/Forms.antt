-- The tests of a plain form, by lengths.
use Rattle.std.proofs.Common.{◌≡◌, ℕ, ◌==◌, List, [], ◌∷◌, length, refl, rules}
use Rattle.eif_base.specs.declared.Place.{Place}
use Rattle.eif_tree.specs.Tree.{Ex, call, unqualified}
use Rattle.eif_tree.specs.View.{exs_from}
use Rattle.eif_system_rules.specs.PlainClasses.{no_assertions, is_plain_call}

pub no_assertions_are : (es : List Ex) → no_assertions (exs_from es) ≡ (length es == 0)
no_assertions_are [] = refl
no_assertions_are (e ∷ es) = search rules

pub plain_call_is : (p : Place) (n : List ℕ) (es : List Ex) →
    is_plain_call (call (unqualified p n (exs_from es))) ≡ (length es == 0)
plain_call_is p n [] = refl
plain_call_is p n (e ∷ es) = search rules
