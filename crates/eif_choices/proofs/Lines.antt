-- The lines of the classes of a system: whom they descend from, and what has no name in them.
use Rattle.std.proofs.Common.{◌≡◌, ◌≢◌, ℕ, Bool, true, false, List, [], ◌∷◌, ◌++◌, map, Option, Some, None, refl, sym, ap, ap₂, subst, ◌∙◌}
use Rattle.std.specs.Prelude.{◌||◌, ◌==◌, if◌then◌else◌}
use Rattle.std.specs.List.{cons_option}
use Rattle.std.specs.Option.{option_map, option_to_list}
use Rattle.std.proofs.lemmas.Bool.{eq-eqb, eqb-true}
use Rattle.std.proofs.lemmas.Option.{same_Some}
use Rattle.eif_base.specs.Numbering.{is_among}
use Rattle.eif_classes.specs.Binding.{own_name, reach, reached, picked, bind, candidates}
use Rattle.eif_classes.specs.Descent.{class_of, descends, any_descends, above, all_above}
use Rattle.eif_classes.specs.Features.{names}
use Rattle.eif_classes.specs.Names.{final_name, name_set}
use Rattle.eif_lineage_laws.proofs.Numbers.{parent_within}
use Rattle.eif_lineage_laws.proofs.Unfolding.{class_within, unfolded}
use Rattle.eif_lineage_laws.proofs.WholeClasses.{has_order}
use Rattle.eif_rows.specs.Systems.{IsSystem}
use Rattle.eif_rows.proofs.NameSets.{is_member-in_order}
use Rattle.eif_system.specs.Graph.{is_member, IsOrder}
use Rattle.eif_system.specs.Inheritance.{clauses, parent_number, graph_of}
use Rattle.eif_system.specs.Lineage.{Line, line, cut, Ups, up, top, line_of}
use Rattle.eif_tree.specs.Tree.{ParentT, ClassT}

no_first : (a b : Bool) → (a || b) ≡ false → a ≡ false
no_first true b e = absurd (cc)
no_first false b e = refl

no_second : (a b : Bool) → (a || b) ≡ false → b ≡ false
no_second true b e = absurd (cc)
no_second false b e = e

or_grouped : (a b c : Bool) → (a || (b || c)) ≡ ((a || b) || c)
or_grouped true b c = refl
or_grouped false b c = refl

pub differ : (d k : ℕ) → d ≢ k → (d == k) ≡ false
differ d k ne = go (d == k) refl
  where
    go : (b : Bool) → (d == k) ≡ b → (d == k) ≡ false
    go true e = absurd (ne (eqb-true d k e))
    go false e = e

-- ---- a class that doesn't descend from k

mutual
  pub bind_none : (l : Line) (k : ℕ) (m : List ℕ) → descends l k ≡ false → bind l k m ≡ None
  bind_none (line d c ups) k m e =
      ap (λ b. if b then own_name (line d c ups) m else picked (clauses c) (candidates ups k m))
      (no_first (d == k) (any_descends ups k) e)
      ∙ ap (picked (clauses c)) (candidates_none ups k m (no_second (d == k) (any_descends ups k) e))
  bind_none cut k m e = refl

  candidates_none : (ups : Ups) (k : ℕ) (m : List ℕ) → any_descends ups k ≡ false → candidates ups k m ≡ []
  candidates_none top k m e = refl
  candidates_none (up p l rest) k m e =
      ap₂ (λ o ns. cons_option (option_map (final_name p) o) ns)
      (bind_none l k m (no_first (descends l k) (any_descends rest k) e))
      (candidates_none rest k m (no_second (descends l k) (any_descends rest k) e))

mutual
  pub reach_none : (l : Line) (k : ℕ) (m : List ℕ) → descends l k ≡ false → reach l k m ≡ []
  reach_none (line d c ups) k m e =
      ap (λ b. if b then option_to_list (own_name (line d c ups) m) else name_set (reached ups k m))
      (no_first (d == k) (any_descends ups k) e)
      ∙ ap name_set (reached_none ups k m (no_second (d == k) (any_descends ups k) e))
  reach_none cut k m e = refl

  reached_none : (ups : Ups) (k : ℕ) (m : List ℕ) → any_descends ups k ≡ false → reached ups k m ≡ []
  reached_none top k m e = refl
  reached_none (up p l rest) k m e =
      ap₂ (λ ms ns. map (final_name p) ms ++ ns)
      (reach_none l k m (no_first (descends l k) (any_descends rest k) e))
      (reached_none rest k m (no_second (descends l k) (any_descends rest k) e))

-- ---- the proper ancestors that a line lists

member_append : (k : ℕ) (xs ys : List ℕ) → is_member k (xs ++ ys) ≡ (is_member k xs || is_member k ys)
member_append k [] ys = refl
member_append k (x ∷ xs) ys =
    ap (λ b. (x == k) || b) (member_append k xs ys) ∙ or_grouped (x == k) (is_member k xs) (is_member k ys)

member_parts : (k : ℕ) (o : Option ℕ) (xs ys : List ℕ)
    → is_member k (cons_option o (xs ++ ys)) ≡ (is_member k (cons_option o xs) || is_member k ys)
member_parts k None xs ys = member_append k xs ys
member_parts k (Some x) xs ys = member_append k (x ∷ xs) ys

mutual
  listed : (l : Line) (k : ℕ) → is_member k (cons_option (class_of l) (above l)) ≡ descends l k
  listed (line d c ups) k = ap (λ b. (d == k) || b) (is_member-in_order (all_above ups) k ∙ all_listed ups k)
  listed cut k = refl

  all_listed : (ups : Ups) (k : ℕ) → is_member k (all_above ups) ≡ any_descends ups k
  all_listed top k = refl
  all_listed (up p l rest) k =
      member_parts k (class_of l) (above l) (all_above rest) ∙ ap₂ ◌||◌ (listed l k) (all_listed rest k)

-- a class that isn't k and doesn't list it among its proper ancestors
pub no_descent : (l : Line) (d k : ℕ) → class_of l ≡ Some d → (d == k) ≡ false → is_member k (above l) ≡ false
    → descends l k ≡ false
no_descent l d k is other none =
    sym (listed l k) ∙ (ap (λ o. is_member k (cons_option o (above l))) is ∙ ap₂ ◌||◌ other none)

-- ---- a class itself

own_there : (l : Line) (m : List ℕ) → is_among (names l) m ≡ true → own_name l m ≡ Some m
own_there l m e = ap (λ b. if b then Some m else None) e

pub bind_own : (l : Line) (k : ℕ) (m : List ℕ) → class_of l ≡ Some k → is_among (names l) m ≡ true
    → bind l k m ≡ Some m
bind_own (line d c ups) k m is e =
    ap (λ b. if b then own_name (line d c ups) m else picked (clauses c) (candidates ups k m))
    (eq-eqb d k (same_Some d k is))
    ∙ own_there (line d c ups) m e
bind_own cut k m is e = absurd (cc)

pub reach_own : (l : Line) (k : ℕ) (m : List ℕ) → class_of l ≡ Some k → is_among (names l) m ≡ true
    → reach l k m ≡ m ∷ []
reach_own (line d c ups) k m is e =
    ap (λ b. if b then option_to_list (own_name (line d c ups) m) else name_set (reached ups k m))
    (eq-eqb d k (same_Some d k is))
    ∙ ap option_to_list (own_there (line d c ups) m e)
reach_own cut k m is e = absurd (cc)

-- ---- classes of a system

module _ (u : List ClassT) (s : IsSystem u) where
  pub order_in : (order : List ℕ) × IsOrder (graph_of u) order
  order_in = subst (λ u. (order : List ℕ) × IsOrder (graph_of u) order) (sym s.is) (has_order s.given s.root s.sound)

  -- the line of the class of a clause is that class's
  pub parent_line : (c : ClassT) (p : ParentT) (k : ℕ) → parent_number u c p ≡ Some k
      → class_of (line_of u k) ≡ Some k
  parent_line c p k e =
      let class = class_within u k (parent_within u c p k e) in
      let order = order_in in
      ap class_of (unfolded u order.0 order.1 k class.0 class.1)
