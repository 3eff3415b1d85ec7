-- Where nothing is broken no class inherits from itself.
use Rattle.std.proofs.Common.{◌≡◌, ℕ, zero, suc, ◌+◌, ◌<◌, ◌≤◌, Bool, true, false, List, [], ◌∷◌, ◌++◌, take, drop, Some, None, refl, sym, ap, subst, ◌∙◌, inl, inr, ⊎_elim, arith}
use Rattle.std.specs.Prelude.{slice_get, is_some, if◌then◌else◌}
use Rattle.std.specs.Bool.{MatchBool}
use Rattle.std.specs.Str.{bytes_eq}
use Rattle.std.proofs.lemmas.Bool.{cases_lt}
use Rattle.std.proofs.lemmas.List.{take-append-drop}
use Rattle.eif_base.specs.declared.code.Code.TheVariants as code
use Rattle.eif_base.specs.declared.fault.Fault.{Fault}
use Rattle.eif_base.specs.declared.root.Root.{Root}
use Rattle.eif_rules.specs.FaultForms.{IsNone, fault_at}
use Rattle.eif_rules.specs.UniverseRules.{UniverseBroken, OwnBroken, repeated_class}
use Rattle.eif_system.specs.Graph.{is_member, parents_of, Climbs, Reaches, HasNoCycle}
use Rattle.eif_system.specs.Inheritance.{any_clause, clauses, parent_number, graph_of}
use Rattle.eif_system.specs.Kernel.{any_name, kernel, kernel_count}
use Rattle.eif_system.specs.Universe.{class_number, is_formal, universe}
use Rattle.eif_system.specs.WrittenTypes.{type_name, type_name_place}
use Rattle.eif_tree.specs.Tree.{ParentT, ClassT}
use Rattle.eif_universe.specs.Universes.{HasKernel, given_in}
use Rattle.eif_universe.proofs.ParentNumbers.{parent_by}

-- ---- the kernel's classes

any_first : (given : List ClassT) → class_number (universe given) any_name ≡ Some 0
unfolding kernel
any_first given = refl

any_parents : (given : List ClassT) → parents_of (graph_of (universe given)) 0 ≡ []
unfolding kernel
any_parents given = refl

bare : (x c : ClassT) → x.parents ≡ [] → Some x ≡ Some c → c.parents ≡ []
bare x c h e = let q : x ≡ c = cc in subst (λ (c : ClassT). c.parents ≡ []) q h

kernel_bare : (given : List ClassT) (d : ℕ) (c : ClassT) → d < kernel_count →
    slice_get (universe given) d ≡ Some c → c.parents ≡ []
unfolding kernel
kernel_bare given zero c l e = bare _ c refl e
kernel_bare given (suc zero) c l e = bare _ c refl e
kernel_bare given (suc (suc zero)) c l e = bare _ c refl e
kernel_bare given (suc (suc (suc zero))) c l e = bare _ c refl e
kernel_bare given (suc (suc (suc (suc zero)))) c l e = bare _ c refl e
kernel_bare given (suc (suc (suc (suc (suc zero))))) c l e = bare _ c refl e
kernel_bare given (suc (suc (suc (suc (suc (suc d)))))) c l e = absurd (omega arith)

-- a class that is not of the kernel
given_at : (given : List ClassT) (d : ℕ) (c : ClassT) → kernel_count ≤ d → slice_get (universe given) d ≡ Some c →
    (i : ℕ) × (d ≡ kernel_count + i) × (slice_get given i ≡ Some c)
unfolding kernel
given_at given zero c l e = absurd (omega arith)
given_at given (suc zero) c l e = absurd (omega arith)
given_at given (suc (suc zero)) c l e = absurd (omega arith)
given_at given (suc (suc (suc zero))) c l e = absurd (omega arith)
given_at given (suc (suc (suc (suc zero)))) c l e = absurd (omega arith)
given_at given (suc (suc (suc (suc (suc zero))))) c l e = absurd (omega arith)
given_at given (suc (suc (suc (suc (suc (suc d)))))) c l e = (d, omega arith, e)

module _ (given : List ClassT) where
  abbrev u : List ClassT
  u = universe given

  -- ANY descends from no other class
  any_reaches : (d : ℕ) → Reaches (graph_of u) 0 d → 0 ≡ d
  any_reaches d r = go r.0 r.1
    where
      go : (steps : List ℕ) → Climbs (graph_of u) 0 steps d → 0 ≡ d
      go [] e = e
      go (p ∷ ps) h = let z : is_member p [] ≡ true = subst (λ xs. is_member p xs ≡ true) (any_parents given) h.0 in cc

  -- where no clause is written the parent is ANY
  unwritten : (c : ClassT) (i : ℕ) (clause : ParentT) (p : ℕ) → c.parents ≡ [] →
      slice_get (clauses c) i ≡ Some clause → parent_number u c clause ≡ Some p → 0 ≡ p
  unwritten c i clause p none at names = go (bytes_eq c.name any_name) i (rw none at at)
    where
      names_any : (b : Bool) → (if b then None else class_number u any_name) ≡ Some p → 0 ≡ p
      names_any true e = cc
      names_any false e = let q = any_first given in let z : Some 0 ≡ Some p = sym q ∙ e in cc

      go : (b : Bool) (i : ℕ) → slice_get (if b then [] else any_clause ∷ []) i ≡ Some clause → 0 ≡ p
      go true i e = cc
      go false zero e =
          let q : any_clause ≡ clause = cc in
          names_any (is_formal c any_name) (subst (λ (x : ParentT). parent_number u c x ≡ Some p) (sym q) names)
      go false (suc i) e = cc

  module _ (root : Root) (never : IsNone (UniverseBroken given root)) where
    -- no given class is broken by itself
    own_never : (i : ℕ) (c : ClassT) (f : Fault) → slice_get given i ≡ Some c →
        OwnBroken u (kernel_count + i) c f → ⊥
    own_never i c f at own = go (is_some (class_number (take (kernel_count + i) u) c.name)) refl
      where
        go : (b : Bool) → is_some (class_number (take (kernel_count + i) u) c.name) ≡ b → ⊥
        go true e = never (repeated_class c) (inl (record {
          i = i;
          x = c;
          at = at;
          judged = subst (λ b. MatchBool b (repeated_class c ≡ repeated_class c)
              (OwnBroken u (kernel_count + i) c (repeated_class c))) (sym e) refl;
        }))
        go false e = never f (inl (record {
          i = i;
          x = c;
          at = at;
          judged = subst (λ b. MatchBool b (f ≡ repeated_class c) (OwnBroken u (kernel_count + i) c f)) (sym e) own;
        }))

    -- no class of a clause that is written descends from the class
    written : (d : ℕ) (c : ClassT) (i : ℕ) (clause : ParentT) (p : ℕ) → slice_get u d ≡ Some c → kernel_count ≤ d →
        slice_get c.parents i ≡ Some clause → parent_number u c clause ≡ Some p → Reaches (graph_of u) p d → ⊥
    written d c i clause p at far among names r =
        let g = given_at given d c far at in
        let f : Fault = fault_at c code.Vhpr 1 (type_name_place clause.parent) (type_name clause.parent) in
        let up = subst (λ d. Reaches (graph_of u) p d) g.1 r in
        own_never g.0 c f g.2 (inr (inl (record { i = i; x = clause; at = among; judged = (p, names, up, refl) })))

    no_circle : HasNoCycle (graph_of u)
    no_circle d p m r =
        let b = parent_by u d p m in
        by_clauses b.class b.place b.clause b.at b.among b.names b.class.parents refl
      where
        -- no clause is written
        alone : (c : ClassT) (i : ℕ) (clause : ParentT) → c.parents ≡ [] → slice_get (clauses c) i ≡ Some clause →
            parent_number u c clause ≡ Some p → ⊥
        alone c i clause none among names =
            let zero_is : 0 ≡ p = unwritten c i clause p none among names in
            let d_is : 0 ≡ d = any_reaches d (subst (λ p. Reaches (graph_of u) p d) (sym zero_is) r) in
            let z : is_member p (parents_of (graph_of u) 0) ≡ true =
            subst (λ d. is_member p (parents_of (graph_of u) d) ≡ true) (sym d_is) m in
            let w : is_member p [] ≡ true = subst (λ xs. is_member p xs ≡ true) (any_parents given) z in
            cc

        by_clauses : (c : ClassT) (i : ℕ) (clause : ParentT) → slice_get u d ≡ Some c →
            slice_get (clauses c) i ≡ Some clause → parent_number u c clause ≡ Some p →
            (ps : List ParentT) → c.parents ≡ ps → ⊥
        by_clauses c i clause at among names [] e = alone c i clause e among names
        by_clauses c i clause at among names (q ∷ qs) e = ⊎_elim
            (λ (near : d < kernel_count).
            let none = kernel_bare given d c near at in let z : q ∷ qs ≡ [] = sym e ∙ none in cc)
            (λ (far : kernel_count ≤ d).
            let there : slice_get (q ∷ qs) i ≡ Some clause = rw e at among in
            written d c i clause p at far (ap (λ (l : List ParentT). slice_get l i) e ∙ there) names r)
            (cases_lt d kernel_count)

-- ---- a universe that begins with the kernel

pub universe_split : (u : List ClassT) → HasKernel u → universe (given_in u) ≡ u
universe_split u h = ap (λ k. k ++ drop kernel_count u) (sym h) ∙ take-append-drop kernel_count u

pub no_circle_in : (u : List ClassT) (root : Root) → HasKernel u → IsNone (UniverseBroken (given_in u) root) →
    HasNoCycle (graph_of u)
no_circle_in u root h never = subst (λ (u : List ClassT). HasNoCycle (graph_of u)) (universe_split u h)
    (no_circle (given_in u) root never)
