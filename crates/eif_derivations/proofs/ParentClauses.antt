-- The parent clauses of a class of a system, with the numbers and the rows of their classes.
use Rattle.std.proofs.Common.{◌≡◌, ℕ, zero, suc, ◌+◌, min, List, [], ◌∷◌, ◌++◌, length, map, take, Option, Some, None, refl, sym, ap, subst, ◌∙◌, arith}
use Rattle.std.specs.Prelude.{if◌then◌else◌, slice_get}
use Rattle.std.specs.List.{cons_option, filter_map}
use Rattle.std.specs.Option.{option_map}
use Rattle.std.proofs.lemmas.List.{length-map}
use Rattle.std.proofs.lemmas.Option.{same_Some, slice_get-map}
use Rattle.eif_base.specs.declared.class_id.ClassId.{ClassId}
use Rattle.eif_classes.specs.Resolution.{clause_actuals}
use Rattle.eif_classes.specs.Types.{Actuals}
use Rattle.eif_derivations.specs.DerivationRows.{IsDerivationRow}
use Rattle.eif_derivations.specs.Filled.{HaveDerivations}
use Rattle.eif_derivations.specs.ParentActuals.{AreClauseActuals, IsClauseActuals}
use Rattle.eif_derivations.specs.declared.clause.ClauseActuals.{ClauseActuals}
use Rattle.eif_derivations.specs.declared.derivation.DerivationRow.{DerivationRow}
use Rattle.eif_derivations.proofs.Turns.{Match-all, Match-more}
use Rattle.eif_lineage_laws.proofs.EachItem.{all_at}
use Rattle.eif_lineage_laws.proofs.Unfolding.{parents_at}
use Rattle.eif_lineage_laws.proofs.WholeClasses.{parents_named}
use Rattle.eif_lineage_laws.specs.Universes.{NamesClass}
use Rattle.eif_rows.specs.Matched.{Match}
use Rattle.eif_rows.specs.Systems.{IsSystem}
use Rattle.eif_system.specs.Graph.{parents_of}
use Rattle.eif_system.specs.Inheritance.{clauses, parent_number, parent_numbers, graph_of}
use Rattle.eif_system.specs.Universe.{class_number, universe}
use Rattle.eif_system.specs.WrittenTypes.{type_name}
use Rattle.eif_tree.specs.Tree.{ParentT, ClassT}
use Rattle.eif_tree.specs.View.{parent_view}
use Rattle.eif_tree.specs.declared.class.ParentClause.{ParentClause}
use Rattle.eif_type_forms.specs.View.{actuals_view}
use Rattle.eif_type_laws.proofs.Ways.{clause_member}
use Rattle.eif_universe.specs.Universes.{numbers_of}

-- the clause of the class c names a class
abbrev Names : List ClassT → ClassT → ParentT → Type 0
Names u c p = (k : ℕ) × (parent_number u c p ≡ Some k)

number_is : (u : List ClassT) (c : ClassT) (p : ParentT) (k : ℕ) → NamesClass u c p.parent k
    → parent_number u c p ≡ Some k
number_is u c p k h = ap (λ b. if b then None else class_number u (type_name p.parent)) h.no_formal ∙ h.number

-- numbers that go with clauses which all name classes
module _ (u : List ClassT) (c : ClassT) where
  pub record AreNumbers (ps : List ParentT) (ks : List ClassId) : Type 0 where
    pub long : length ks ≡ length ps
    pub each : (i : ℕ) (p : ParentT) (k : ClassId) → slice_get ps i ≡ Some p → slice_get ks i ≡ Some k
        → parent_number u c p ≡ Some k.0

  numbers_by : (ps : List ParentT) (ks : List ClassId)
      → ((i : ℕ) (p : ParentT) → slice_get ps i ≡ Some p → Names u c p)
      → numbers_of ks ≡ filter_map (parent_number u c) ps → AreNumbers ps ks
  numbers_by [] [] named e = record { long = refl; each = λ i p k at here. absurd (cc) }
  numbers_by [] (k ∷ ks) named e = absurd (cc)
  numbers_by (p ∷ ps) ks named e =
      let n = named 0 p refl in
      first ks n.0 n.1 (e ∙ ap (λ o. cons_option o (filter_map (parent_number u c) ps)) n.1)
      (λ ks e. numbers_by ps ks (λ i. named (suc i)) e)
    where
      first : (ks : List ClassId) (n : ℕ) → parent_number u c p ≡ Some n
          → numbers_of ks ≡ n ∷ filter_map (parent_number u c) ps
          → ((ks : List ClassId) → numbers_of ks ≡ filter_map (parent_number u c) ps → AreNumbers ps ks)
          → AreNumbers (p ∷ ps) ks
      first [] n number e later = absurd (cc)
      first (k ∷ ks) n number e later =
          let same : k.0 ≡ n = cc in
          let rest = later ks (let z : numbers_of ks ≡ filter_map (parent_number u c) ps = cc in z) in
          record { long = ap suc rest.long; each = at_place (number ∙ ap Some (sym same)) rest }
        where
          at_place : parent_number u c p ≡ Some k.0 → AreNumbers ps ks → (i : ℕ) (q : ParentT) (j : ClassId)
              → slice_get (p ∷ ps) i ≡ Some q → slice_get (k ∷ ks) i ≡ Some j → parent_number u c q ≡ Some j.0
          at_place here rest zero q j at there =
              ap (parent_number u c) (sym (same_Some p q at))
              ∙ (here ∙ ap (λ (k : ClassId). Some k.0) (same_Some k j there))
          at_place here rest (suc i) q j at there = rest.each i q j at there

-- the view of a tree stands where the tree does
pub place_in_view : (trees : List ParentClause) (ps : List ParentT) → map parent_view trees ≡ ps → (i : ℕ)
    (tree : ParentClause) → slice_get trees i ≡ Some tree → slice_get ps i ≡ Some (parent_view tree)
place_in_view trees ps viewed i tree at =
    ap (λ ps. slice_get ps i) (sym viewed) ∙ (slice_get-map parent_view trees i ∙ ap (option_map parent_view) at)

-- the clauses before that number
abbrev pub AreClausesSoFar : List ClassT → ℕ → List (Option DerivationRow) → ℕ → List ClauseActuals → Type 0
AreClausesSoFar u d rows i xs =
    (c : ClassT) (lists : List Actuals) → slice_get u d ≡ Some c
    → HaveDerivations u lists rows (parent_numbers u c) → Match (IsClauseActuals u lists c) xs (take i (clauses c))

pub no_clause_so_far : (u : List ClassT) (d : ℕ) (rows : List (Option DerivationRow)) (xs : List ClauseActuals)
    → xs ≡ [] → AreClausesSoFar u d rows 0 xs
no_clause_so_far u d rows xs none = λ c lists at have.
    subst (λ xs. Match (IsClauseActuals u lists c) xs []) (sym none) tt

module _ (u : List ClassT) (s : IsSystem u) (d : ℕ) (c : ClassT) (at : slice_get u d ≡ Some c)
    (ks : List ClassId) (numbers : numbers_of ks ≡ parents_of (graph_of u) d) where
  clause_names : (i : ℕ) (p : ParentT) → slice_get (clauses c) i ≡ Some p → Names u c p
  clause_names i p among =
      subst (λ v. slice_get v d ≡ Some c → Names v c p) (sym s.is)
      (λ at. let n = all_at (λ p. (k : ℕ) × NamesClass (universe s.given) c p.parent k) (clauses c) i p
      (parents_named s.given s.root s.sound d c at) among in
      (n.0, number_is (universe s.given) c p n.0 n.1))
      at

  -- the numbers of its parents go with its clauses
  pub are_numbers : AreNumbers u c (clauses c) ks
  are_numbers = numbers_by u c (clauses c) ks clause_names (numbers ∙ parents_at u d c at)

  module _ (rows : List (Option DerivationRow)) (i : ℕ) where
    -- one clause more
    pub one_clause_more : (p : ParentT) (k : ClassId) → slice_get (clauses c) i ≡ Some p → slice_get ks i ≡ Some k
        → (x : ClauseActuals) (old new : List ClauseActuals) → new ≡ old ++ x ∷ [] → parent_view x.tree.now ≡ p
        → x.parent ≡ k → slice_get rows k.0 ≡ Some (Some x.row.now)
        → actuals_view x.actuals.items ≡ clause_actuals u c p
        → AreClausesSoFar u d rows i old → AreClausesSoFar u d rows (i + 1) new
    one_clause_more p k among there x old new pushed tree parent row actuals so_far = λ c' lists here have.
        let same : c ≡ c' = same_Some c c' (sym at ∙ here) in
        subst (λ c. HaveDerivations u lists rows (parent_numbers u c)
        → Match (IsClauseActuals u lists c) new (take (i + 1) (clauses c))) same
        (λ have.
        let number = are_numbers.each i p k among there in
        let own = have k.0 (clause_member u c (clauses c) i p k.0 among number) in
        let found : own.0 ≡ x.row.now =
        same_Some own.0 x.row.now (same_Some (Some own.0) (Some x.row.now) (sym own.1 ∙ row)) in
        let row_is : IsDerivationRow u lists x.parent.0 x.row.now =
        subst (λ (k : ClassId). IsDerivationRow u lists k.0 x.row.now) (sym parent)
        (subst (IsDerivationRow u lists k.0) found own.2) in
        Match-more (IsClauseActuals u lists c) (clauses c) i old new x p pushed among (so_far c lists at have) record {
          tree_is = tree;
          parent_is = number ∙ ap (λ (k : ClassId). Some k.0) (sym parent);
          row_is = row_is;
          actuals_are = actuals;
        })
        have

    -- all clauses, where the shorter of their trees and the numbers ends there
    pub all_clauses : (trees : List ParentClause) → map parent_view trees ≡ clauses c
        → i ≡ min (length trees) (length ks) → (xs : List ClauseActuals) → AreClausesSoFar u d rows i xs
        → (c : ClassT) (lists : List Actuals) → slice_get u d ≡ Some c
        → HaveDerivations u lists rows (parent_numbers u c) → AreClauseActuals u lists c xs
    all_clauses trees viewed ends xs so_far = λ c' lists here have.
        let same : c ≡ c' = same_Some c c' (sym at ∙ here) in
        subst (λ c. HaveDerivations u lists rows (parent_numbers u c) → AreClauseActuals u lists c xs) same
        (λ have.
        let long = are_numbers.long in
        let whole : length trees ≡ length (clauses c) = sym (length-map trees parent_view) ∙ ap length viewed in
        Match-all (IsClauseActuals u lists c) (clauses c) i xs (omega arith) (so_far c lists at have))
        have
