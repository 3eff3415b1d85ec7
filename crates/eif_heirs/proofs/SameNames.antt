-- Names of a class are the same where their numbers are.
use Rattle.std.proofs.Common.{◌≡◌, ℕ, List, Some, sym, ap, ◌∙◌}
use Rattle.std.specs.Prelude.{◌==◌, slice_get}
use Rattle.std.specs.Ordering.{is_eq}
use Rattle.std.specs.List.Sorted.{IsStrictlySortedBy}
use Rattle.std.specs.Str.{bytes_eq}
use Rattle.std.proofs.lemmas.Cmp.{nat_list_cmp_total}
use Rattle.eif_classes.specs.Names.{name_cmp}
use Rattle.eif_rows.proofs.NameSets.{same_number_test, same_test}
use Rattle.eif_rows.proofs.RisingLists.{cmp-places}

-- names at two places of a rising list
pub same_places : (ns : List (List ℕ)) → IsStrictlySortedBy name_cmp ns → (i j : ℕ) (n m : List ℕ)
    → slice_get ns i ≡ Some n → slice_get ns j ≡ Some m → (i == j) ≡ bytes_eq n m
same_places ns up i j n m e f =
    sym (same_number_test i j)
    ∙ (ap is_eq (cmp-places nat_list_cmp_total ns up i j n m e f) ∙ same_test n m)
