-- What a check of classes adds to the faults.
use Rattle.std.proofs.Common.{◌≡◌, ℕ, ◌<◌, Bool, true, false, List, [], ◌∷◌, ◌++◌, length, get_or, map, take, Some, refl, sym, ap, subst, ◌∙◌, inl, inr, ⊎_elim}
use Rattle.std.specs.Prelude.{◌⊎◌, slice_get, is_some}
use Rattle.std.specs.Bool.{MatchBool}
use Rattle.std.specs.Option.{option_map}
use Rattle.std.proofs.lemmas.Option.{get_or_from_slice_get, slice_get-get_or, slice_get-map}
use Rattle.eif_base.specs.Appends.{In, Has, Appends}
use Rattle.eif_base.specs.declared.fault.Fault.{Fault}
use Rattle.eif_base.specs.declared.root.Root.{Root}
use Rattle.eif_base.proofs.Adding.{adds_as, adds_both, adds_list, adds_one, adds_to_none}
use Rattle.eif_rules.specs.FaultForms.{IsNone, fault_where}
use Rattle.eif_rules.specs.UniverseRules.{ClassBroken, OwnBroken, UniverseBroken, repeated_class, root_faults}
use Rattle.eif_system.specs.Universe.{class_number, universe}
use Rattle.eif_tree.specs.Tree.{ClassT}
use Rattle.eif_universe.specs.ClassNumbering.{MarksRepeats}
use Rattle.eif_universe.specs.Universes.{GivenBroken, HasKernel, given_in}
use Rattle.eif_universe.proofs.NoCircle.{universe_split}

-- the faults of one test and then those of another
pub adds_either : (a b c : List Fault) (A B : Fault → Type 0) → Appends a b A → Appends b c B →
    Appends a c (λ f. A f ⊎ B f)
adds_either a b c A B p q =
    adds_both a b c A B (λ f. A f ⊎ B f) (λ f h. inl h) (λ f h. inr h) (λ P f h l r. ⊎_elim l r h) p q

-- the one fault g, where the rule is broken
pub adds_where : (old new : List Fault) (b : Bool) (g : Fault) (B : Fault → Type 0) → new ≡ old ++ fault_where b g →
    (b ≡ true → B g) → ((f : Fault) → B f → (b ≡ true) × (f ≡ g)) → Appends old new B
adds_where old new true g B e so only = subst (λ new. Appends old new B) (sym e)
    (adds_as old (old ++ g ∷ []) (λ f. Some g ≡ Some f) B
    (λ f s. let q : g ≡ f = cc in subst B q (so refl))
    (λ f h. ap Some (sym (only f h).1))
    (adds_one old g))
adds_where old new false g B e so only = record {
  more = [];
  is = e;
  only = λ f h. let z = h.1 in cc;
  each = λ f h. let z : false ≡ true = (only f h).0 in cc;
}

-- a class whose name an earlier one has
pub adds_repeated : (u : List ClassT) (d : ℕ) (c : ClassT) (b : Bool) (old new : List Fault) →
    b ≡ is_some (class_number (take d u) c.name) → b ≡ true → new ≡ old ++ fault_where true (repeated_class c) →
    Appends old new (ClassBroken u d c)
adds_repeated u d c b old new is so e =
    let t : is_some (class_number (take d u) c.name) ≡ true = sym is ∙ so in
    subst (λ b. Appends old new (λ f. MatchBool b (f ≡ repeated_class c) (OwnBroken u d c f))) (sym t)
    (adds_where old new true (repeated_class c) (λ f. f ≡ repeated_class c) e (λ _. refl) (λ f h. (refl, h)))

-- any other class
pub adds_own : (u : List ClassT) (d : ℕ) (c : ClassT) (b : Bool) (old new : List Fault) →
    b ≡ is_some (class_number (take d u) c.name) → b ≡ false → Appends old new (OwnBroken u d c) →
    Appends old new (ClassBroken u d c)
adds_own u d c b old new is so p =
    let t : is_some (class_number (take d u) c.name) ≡ false = sym is ∙ so in
    subst (λ b. Appends old new (λ f. MatchBool b (f ≡ repeated_class c) (OwnBroken u d c f))) (sym t) p

-- all faults: those of the given classes, and then those of the root
pub adds_all : (u : List ClassT) (root : Root) (given new : List Fault) → HasKernel u →
    Appends [] given (GivenBroken u (given_in u)) → new ≡ given ++ root_faults (given_in u) root →
    Has new (UniverseBroken (given_in u) root)
adds_all u root given new h p e =
    let first : Appends [] given (GivenBroken (universe (given_in u)) (given_in u)) =
    subst (λ (v : List ClassT). Appends [] given (GivenBroken v (given_in u))) (sym (universe_split u h)) p in
    adds_to_none new (UniverseBroken (given_in u) root)
    (adds_either [] given new (GivenBroken (universe (given_in u)) (given_in u)) (In (root_faults (given_in u) root))
    first (adds_list given new (root_faults (given_in u) root) e))

-- an item of a list as plain data
pub view_at : {A B : Type 0} (v : A → B) (xs : List A) (i : ℕ) (x : A) → i < length xs → x ≡ get_or xs i x →
    slice_get (map v xs) i ≡ Some (v x)
view_at v xs i x w is =
    slice_get-map v xs i ∙ ap (option_map v) (slice_get-get_or xs i x w ∙ ap Some (sym is))

-- the mark of a class
pub mark_is : (u : List ClassT) (marks : List Bool) (d : ℕ) (c : ClassT) (b : Bool) → MarksRepeats u marks →
    slice_get u d ≡ Some c → get_or marks d b ≡ is_some (class_number (take d u) c.name)
mark_is u marks d c b m at = get_or_from_slice_get marks d _ b (m.each d c at)

-- ---- lists of all faults

pub none_has : (list : List Fault) (B : Fault → Type 0) → list ≡ [] → Has list B → IsNone B
none_has list B e h f b =
    let r : In [] f = subst (λ (xs : List Fault). In xs f) e (h.each f b) in
    let z = r.1 in
    cc
