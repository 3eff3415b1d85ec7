-- One signature beside another.
use Rattle.std.specs.Prelude.{ℕ, ◌==◌, Bool, true, false, ◌&&◌, List, length, Option, Some, None}
use Rattle.std.specs.List.{list_all, zip}
use Rattle.eif_tree.specs.Tree.{ClassT}
use Rattle.eif_classes.specs.Conformance.{conforms}
use Rattle.eif_classes.specs.Signatures.{Signature}
use Rattle.eif_classes.specs.Types.{TyT, same_type}

-- as many arguments
abbrev pub have_equal_count : Signature → Signature → Bool
have_equal_count s t = length s.arguments == length t.arguments

-- each argument's type beside the other's; of as many as both have
abbrev pub have_equal_arguments : Signature → Signature → Bool
have_equal_arguments s t = list_all (λ x. same_type x.0 x.1) (zip s.arguments t.arguments)

abbrev both_or_neither : Option TyT → Option TyT → Bool
both_or_neither (Some a) (Some b) = true
both_or_neither None None = true
both_or_neither _ _ = false

-- both have a result, or neither has
abbrev pub are_of_one_form : Signature → Signature → Bool
are_of_one_form s t = both_or_neither s.result t.result

abbrev related_by : (TyT → TyT → Bool) → Option TyT → Option TyT → Bool
related_by related (Some a) (Some b) = related a b
related_by related _ _ = true

-- the first result conforms to the second in the class d, where there are both
abbrev pub has_conforming_result : List ClassT → ℕ → Signature → Signature → Bool
has_conforming_result u d s t = related_by (conforms u d) s.result t.result

-- the results are of equal types, where there are both
abbrev pub have_equal_results : Signature → Signature → Bool
have_equal_results s t = related_by same_type s.result t.result

-- in the class d the first may stand for the second
abbrev pub fits : List ClassT → ℕ → Signature → Signature → Bool
fits u d s t =
    have_equal_count s t && have_equal_arguments s t && are_of_one_form s t && has_conforming_result u d s t

-- equal in number, types and form
abbrev pub are_equal : Signature → Signature → Bool
are_equal s t = have_equal_count s t && have_equal_arguments s t && are_of_one_form s t && have_equal_results s t
