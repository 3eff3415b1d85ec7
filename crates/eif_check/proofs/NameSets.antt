-- Sets of names beside the lists that they are taken from.
use Rattle.std.proofs.Common.{◌≡◌, ℕ, Bool, true, false, List, [], ◌∷◌, ◌++◌, refl, sym, ap, ap₂, ◌∙◌}
use Rattle.std.specs.List.{flat_map, list_all}
use Rattle.std.specs.Prelude.{not, ◌&&◌, ◌||◌}
use Rattle.std.specs.Str.{bytes_eq}
use Rattle.std.proofs.lemmas.Cmp.{nat_list_eq_equiv}
use Rattle.eif_base.specs.declared.code.Code.TheVariants as code
use Rattle.eif_base.specs.declared.fault.Fault.{Fault}
use Rattle.eif_base.specs.Numbering.{is_among}
use Rattle.eif_rules.specs.FaultForms.{fault_in, fault_where}
use Rattle.eif_system.specs.WrittenTypes.{feature_name}
use Rattle.eif_system_rules.specs.PlainClasses.{are_distinct}
use Rattle.eif_system_rules.specs.SystemRules.{unknown_name, unknown_names}
use Rattle.eif_tree.specs.declared.tree.NameAt.{NameAt}
use Rattle.eif_tree.specs.Members.{has_name, body_of, called_in}
use Rattle.eif_tree.specs.Tree.{DeclT, ClassT}
use Rattle.eif_check.specs.Mentions.{IsNameSet}
use Rattle.eif_check.specs.UnknownNames.{unknown_in, all_unknown_in}

-- none of the names is in the set
abbrev pub none_among : List (List ℕ) → List NameAt → Bool
none_among set ns = list_all (λ n. not (is_among set n.name)) ns

-- the set has one name more
abbrev pub HasMore : List (List ℕ) → List (List ℕ) → List ℕ → Type 0
HasMore old new name = (n : List ℕ) → is_among new n ≡ (bytes_eq n name || is_among old n)

-- ---- a name more

cases_of : (e a h b : Bool) → (not (e || a) && (not h && b)) ≡ (not (e || h) && (not a && b))
cases_of true a h b = refl
cases_of false true true b = refl
cases_of false true false b = refl
cases_of false false true b = refl
cases_of false false false b = refl

-- names are in the larger set where they are in the old one or are the new name
none_more : (old new : List (List ℕ)) (x : NameAt) (ns : List NameAt) → HasMore old new x.name →
    none_among new ns ≡ (not (has_name ns x.name) && none_among old ns)
none_more old new x [] more = refl
none_more old new x (y ∷ ns) more =
    ap₂ (λ b c. not b && c) (more y.name) (none_more old new x ns more)
    ∙ cases_of (bytes_eq y.name x.name) (is_among old y.name) (has_name ns x.name) (none_among old ns)

swap_and : (a b c : Bool) → ((a && b) && c) ≡ (b && (a && c))
swap_and true true c = refl
swap_and true false c = refl
swap_and false true c = refl
swap_and false false c = refl

-- the next name is none of the earlier ones
pub distinct_on : (old new : List (List ℕ)) (x : NameAt) (ns : List NameAt) → HasMore old new x.name →
    is_among old x.name ≡ false →
    (none_among new ns && are_distinct ns) ≡ (none_among old (x ∷ ns) && are_distinct (x ∷ ns))
distinct_on old new x ns more none =
    ap (λ b. b && are_distinct ns) (none_more old new x ns more)
    ∙ swap_and (not (has_name ns x.name)) (none_among old ns) (are_distinct ns)
    ∙ sym (ap (λ b. (not b && none_among old ns) && (not (has_name ns x.name) && are_distinct ns)) none)

-- the next name is one of the earlier ones
pub not_distinct : (old : List (List ℕ)) (x : NameAt) (ns : List NameAt) → is_among old x.name ≡ true →
    (none_among old (x ∷ ns) && are_distinct (x ∷ ns)) ≡ false
not_distinct old x ns among = ap (λ b. (not b && none_among old ns) && (not (has_name ns x.name) && are_distinct ns)) among

none_of_empty : (ns : List NameAt) → none_among [] ns ≡ true
none_of_empty [] = refl
none_of_empty (n ∷ ns) = none_of_empty ns

pub distinct_at_first : (ns : List NameAt) → (none_among [] ns && are_distinct ns) ≡ are_distinct ns
distinct_at_first ns = ap (λ b. b && are_distinct ns) (none_of_empty ns)

or_on : (a b c : Bool) → ((a || b) || c) ≡ (b || (a || c))
or_on true true c = refl
or_on true false c = refl
or_on false b c = refl

-- the set takes the next name of the list
pub set_on : (old new : List (List ℕ)) (x : NameAt) (ns : List NameAt) → HasMore old new x.name → (n : List ℕ) →
    (is_among new n || has_name ns n) ≡ (is_among old n || has_name (x ∷ ns) n)
set_on old new x ns more n =
    ap (λ b. b || has_name ns n) (more n ∙ ap (λ b. b || is_among old n) (nat_list_eq_equiv.symm n x.name))
    ∙ or_on (bytes_eq x.name n) (is_among old n) (has_name ns n)

-- ---- unknown names by a set

module _ (c : ClassT) (set : List (List ℕ)) (names : List NameAt) (is : IsNameSet set names) where
  same_called : (d : DeclT) (ns : List NameAt) → flat_map (unknown_in c set d) ns ≡ flat_map (unknown_name c names d) ns
  same_called d [] = refl
  same_called d (n ∷ ns) =
      ap₂ (λ (b : Bool) (fs : List Fault). unknown_by d n b ++ fs) (is n.name) (same_called d ns)
    where
      unknown_by : DeclT → NameAt → Bool → List Fault
      unknown_by d n b = fault_where (not b) (fault_in c (feature_name d.names) code.Veen 1 n.place n.name)

  pub same_unknown : (ds : List DeclT) → flat_map (all_unknown_in c set) ds ≡ flat_map (unknown_names c names) ds
  same_unknown [] = refl
  same_unknown (d ∷ ds) = ap₂ (λ (fs gs : List Fault). fs ++ gs) (same_called d (called_in (body_of d.kind))) (same_unknown ds)

pub not_true : (b : Bool) → not b ≡ true → b ≡ false
not_true true h = cc
not_true false h = refl
