-- Lists of faults that are empty.
use Rattle.std.proofs.Common.{◌≡◌, Bool, true, false, List, [], ◌∷◌, ◌++◌, Option, Some, None, refl}
use Rattle.std.specs.List.{flat_map}
use Rattle.std.specs.Option.{option_map, option_to_list}
use Rattle.eif_base.specs.declared.fault.Fault.{Fault}
use Rattle.eif_base.specs.Appends.{In}
use Rattle.eif_lineage_laws.proofs.EachItem.{AllOf}
use Rattle.eif_rules.specs.FaultForms.{IsNone, fault_where}

pub none_left : {A : Type 0} (xs ys : List A) → xs ++ ys ≡ [] → xs ≡ []
none_left [] ys h = refl
none_left (x ∷ xs) ys h = cc

pub none_right : {A : Type 0} (xs ys : List A) → xs ++ ys ≡ [] → ys ≡ []
none_right [] ys h = h
none_right (x ∷ xs) ys h = cc

-- no item has a fault
pub none_of_each : {A : Type 0} (f : A → List Fault) (xs : List A) → flat_map f xs ≡ [] → AllOf (λ x. f x ≡ []) xs
none_of_each f [] h = tt
none_of_each f (x ∷ xs) h = (none_left (f x) (flat_map f xs) h, none_of_each f xs (none_right (f x) (flat_map f xs) h))

pub none_where : (b : Bool) (f : Fault) → fault_where b f ≡ [] → b ≡ false
none_where true f h = cc
none_where false f h = refl

pub none_mapped : {A : Type 0} (f : A → Fault) (o : Option A) → option_to_list (option_map f o) ≡ [] → o ≡ None
none_mapped f None h = refl
none_mapped f (Some x) h = cc

pub none_in : (xs : List Fault) → IsNone (In xs) → xs ≡ []
none_in [] h = refl
none_in (x ∷ xs) h = absurd (h x (0, refl))
