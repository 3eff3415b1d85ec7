-- The types of a universe by its classes.
use denote.Ref.{Bor}
use Rattle.std.proofs.Common.{◌≡◌, ℕ, ◌<◌, Bool, true, false, List, length, map, Option, Some, None, refl, sym, ap, ◌∙◌}
use Rattle.std.proofs.lemmas.List.{length-map}
use Rattle.std.proofs.lemmas.Option.{slice_get-map}
use Rattle.std.specs.Option.{option_map, option_and_then}
use Rattle.std.specs.Prelude.{IfSome, if◌then◌else◌, slice_get}
use Rattle.eif_classes.specs.Ancestry.{ancestor}
use Rattle.eif_classes.specs.Constraints.{constraint, formal_constraint}
use Rattle.eif_classes.specs.Descent.{descends}
use Rattle.eif_classes.specs.Types.{TyT}
use Rattle.eif_derivations.proofs.Given.{given_descends}
use Rattle.eif_lineage_laws.proofs.Numbers.{class_number_within}
use Rattle.eif_system.specs.Lineage.{line_of}
use Rattle.eif_system.specs.Universe.{class_denoted, class_number, is_formal}
use Rattle.eif_tree.specs.Tree.{ClassT}
use Rattle.eif_type_forms.specs.View.{actuals_view}
use Rattle.eif_type_forms.specs.declared.ty.Ty.{Ty}
use Rattle.eif_types.specs.TypeTables.{AreTypes, AreTypesOf, constraint_lists, constraints_of}
use Rattle.eif_types.specs.declared.types.Types.{Types}

module _ (u : List ClassT) (t : Types) (are : AreTypesOf u t) where
  -- there are as many lists of constraints as classes
  pub as_many : length t.constraints.items ≡ length u
  as_many =
      sym (length-map t.constraints.items (λ v. map _ v.items))
      ∙ (ap length are.constraints_are ∙ length-map u (constraints_of u))

  -- the constraints of the class with that number
  pub listed : (d : ℕ) → slice_get (constraint_lists t) d ≡ option_map (constraints_of u) (slice_get u d)
  listed d = ap (λ ls. slice_get ls d) are.constraints_are ∙ slice_get-map (constraints_of u) u d

-- the constraint in that place of the list of a class
abbrev pub at_place : Option (List TyT) → ℕ → Option TyT
at_place o i = option_and_then (λ ts. slice_get ts i) o

pub constraint_at : (u : List ClassT) (d i : ℕ) →
    at_place (option_map (constraints_of u) (slice_get u d)) i ≡ constraint u d i
constraint_at u d i = go (slice_get u d)
  where
    go : (o : Option ClassT) →
        at_place (option_map (constraints_of u) o) i
        ≡ option_and_then (λ c. option_map (formal_constraint u c) (slice_get c.formals i)) o
    go None = refl
    go (Some c) = slice_get-map (formal_constraint u c) c.formals i

-- whom a class gives something it is or descends from
pub down_where_some : (t : Types) (c k : ℕ) (o : Option (Bor (List Ty))) →
    ((u : List ClassT) → AreTypesOf u t → option_map (λ l. actuals_view l.now) o ≡ ancestor u c k) →
    IfSome o (λ l. (u : List ClassT) → AreTypes u t → descends (line_of u c) k ≡ true)
down_where_some t c k None h = tt
down_where_some t c k (Some l) h =
    λ u is. given_descends u is.are.system c k (actuals_view l.now) (sym (h u is.are))

-- a class that a name denotes is one of the universe
pub denoted_within : (u : List ClassT) (c : ClassT) (n : List ℕ) (k : ℕ) → class_denoted u c n ≡ Some k → k < length u
denoted_within u c n k = go (is_formal c n)
  where
    go : (b : Bool) → (if b then None else class_number u n) ≡ Some k → k < length u
    go true e = cc
    go false e = class_number_within u n k e
