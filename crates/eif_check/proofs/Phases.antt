-- The faults of phases, of which the first that has any counts.
use Rattle.std.proofs.Common.{◌≡◌, ◌≢◌, ℕ, zero, suc, ◌+◌, ◌≤◌, Bool, true, false, List, [], ◌∷◌, ◌++◌, length, map, drop, Some, Result, Ok, Err, refl, sym, ap, subst, ◌∙◌, inl, inr, ⊎_elim, arith}
use Rattle.std.proofs.lemmas.List.{drop_at, length-map}
use Rattle.std.specs.Prelude.{◌⊎◌, IsTrue, slice_get}
use Rattle.eif_base.specs.Appends.{In, Has}
use Rattle.eif_base.specs.declared.Fault.{Fault}
use Rattle.eif_base.specs.declared.root.Root.{Root}
use Rattle.eif_report.specs.Order.{Lists}
use Rattle.eif_rules.specs.FaultForms.{FirstOf, IsNone}
use Rattle.eif_system_rules.specs.SystemRules.{SystemBroken}
use Rattle.eif_system.specs.Kernel.{kernel, kernel_count}
use Rattle.eif_system.specs.Universe.{universe}
use Rattle.eif_tree.specs.Tree.{ClassT}
use Rattle.eif_tree.specs.View.{class_view}
use Rattle.eif_universe.proofs.KernelCount.{length-kernel}
use Rattle.eif_check.specs.Parsed.{IsParsed, classes_in, faults_in}
use Rattle.eif_check.specs.Systems.{AreClasses, Broken, TextsBroken}
use Rattle.eif_check.specs.TextFaults.{TextGives}
use Rattle.eif_check.specs.declared.texts.Parsed.{Parsed}
use Rattle.eif_check.proofs.OneReading.{no_text_fault, one_reading, partner, same_classes}

-- ---- lists of faults

pub has_in : (list more : List Fault) → list ≡ more → Has list (In more)
has_in list more e = record {
  only = λ f h. subst (λ xs. In xs f) e h;
  each = λ f h. subst (λ xs. In xs f) (sym e) h;
}

pub none_in : (list : List Fault) → list ≡ [] → IsNone (In list)
none_in list e f h = absurd (no_item h.0 f (subst (λ xs. slice_get xs h.0 ≡ Some f) e h.1))
  where
    no_item : (i : ℕ) (f : Fault) → slice_get [] i ≡ Some f → ⊥
    no_item i f e = cc

some_in : (list : List Fault) → list ≢ [] → (f : Fault) × In list f
some_in [] some = absurd (some refl)
some_in (f ∷ fs) some = (f, (zero, refl))

pub not_empty : (b : Bool) (list : List Fault) → (list ≡ [] → IsTrue b) → b ≡ false → list ≢ []
not_empty true list tells is_false e = cc
not_empty false list tells is_false e = let t : false ≡ true = tells e in cc

-- the first phase has faults
pub first_has : (list : List Fault) (A B : Fault → Type 0) → list ≢ [] → Has list A → Has list (FirstOf A B)
first_has list A B some h = record {
  only = λ f i. inl (h.only f i);
  each = λ f b. ⊎_elim (λ a. h.each f a)
      (λ later. let s = some_in list some in absurd (later.0 s.0 (h.only s.0 s.1))) b;
}

-- the first phase has none
pub later_has : (list : List Fault) (A B : Fault → Type 0) → IsNone A → Has list B → Has list (FirstOf A B)
later_has list A B none h = record {
  only = λ f i. inr (none, h.only f i);
  each = λ f b. ⊎_elim (λ a. absurd (none f a)) (λ later. h.each f later.1) b;
}

-- a sorted list of the faults
pub lists_all : (names : List (List ℕ)) (old new : List Fault) (B : Fault → Type 0) → Has old B →
    Lists names new (In old) → Lists names new B
lists_all names old new B h l = record {
  in_order = l.in_order;
  only = λ f i. h.only f (l.only f i);
  each = λ f b. l.each f (h.each f b);
}

pub lists_some : (names : List (List ℕ)) (old new : List Fault) → old ≢ [] → Lists names new (In old) → new ≢ []
lists_some names old new some l e =
    let s = some_in old some in none_in new e s.0 (l.each s.0 s.1)

-- ---- the given classes of a universe

pub given_classes : (given : List ClassT) → drop kernel_count (universe given) ≡ given
given_classes given = drop_at kernel given kernel_count length-kernel

-- ---- the texts

fault_at : (rs : List (Result ClassT Fault)) (i : ℕ) (f : Fault) → slice_get (faults_in rs) i ≡ Some f →
    (k : ℕ) × (slice_get rs k ≡ Some (Err f))
fault_at [] i f e = cc
fault_at (Ok c ∷ rs) i f e = let k = fault_at rs i f e in (suc k.0, k.1)
fault_at (Err g ∷ rs) zero f e = let same : g ≡ f = cc in (zero, ap (λ g. Some (Err g)) same)
fault_at (Err g ∷ rs) (suc i) f e = let k = fault_at rs i f e in (suc k.0, k.1)

fault_listed : (rs : List (Result ClassT Fault)) (k : ℕ) (f : Fault) → slice_get rs k ≡ Some (Err f) →
    In (faults_in rs) f
fault_listed [] k f e = cc
fault_listed (Ok c ∷ rs) zero f e = cc
fault_listed (Ok c ∷ rs) (suc k) f e = fault_listed rs k f e
fault_listed (Err g ∷ rs) zero f e = let same : g ≡ f = cc in (zero, ap Some same)
fault_listed (Err g ∷ rs) (suc k) f e = let i = fault_listed rs k f e in (suc i.0, i.1)

module _ (texts : List (List ℕ)) (p : Parsed) (h : IsParsed 0 texts p) where
  gives : (i : ℕ) (text : List ℕ) (r : Result ClassT Fault) → slice_get texts i ≡ Some text →
      slice_get h.readings i ≡ Some r → TextGives i text r
  gives i text r at_text at_r =
      let n : 0 + i ≡ i = omega arith in
      subst (λ k. TextGives k text r) n (h.are_readings.each i text r at_text at_r)

  fault_is_broken : (f : Fault) → In p.faults f → TextsBroken texts f
  fault_is_broken f listed =
      let i = subst (λ xs. In xs f) h.faults_are listed in
      let k = fault_at h.readings i.0 f i.1 in
      let text = partner h.readings texts k.0 (Err f) (sym h.are_readings.long) k.1 in
      record { i = k.0; x = text.0; at = text.1; judged = gives k.0 text.0 (Err f) text.1 k.1 }

  broken_is_listed : (f : Fault) → TextsBroken texts f → In p.faults f
  broken_is_listed f broken =
      let r = partner texts h.readings broken.i broken.x h.are_readings.long broken.at in
      let same : r.0 ≡ Err f = one_reading broken.i broken.x r.0 (Err f)
      (gives broken.i broken.x r.0 broken.at r.1) broken.judged in
      let at : slice_get h.readings broken.i ≡ Some (Err f) = r.1 ∙ ap Some same in
      subst (λ xs. In xs f) (sym h.faults_are) (fault_listed h.readings broken.i f at)

  -- texts with a fault
  pub text_faults_are : (root : Root) → p.faults ≢ [] → Has p.faults (Broken texts root)
  text_faults_are root some = record {
    only = λ f i. inl (fault_is_broken f i);
    each = λ f b. ⊎_elim (λ t. broken_is_listed f t)
        (λ s. let g = some_in p.faults some in
        absurd (no_text_fault texts s.0 s.1 g.0 (fault_is_broken g.0 g.1))) b;
  }

  -- texts without a fault
  pub classes_are : p.faults ≡ [] → AreClasses texts (map class_view p.trees.items)
  classes_are none =
      subst (λ cs. AreClasses texts cs) (sym h.trees_are) record {
        long = long h.readings no_fault ∙ h.are_readings.long;
        each = λ i text c at_text at_c. gives i text (Ok c) at_text (at h.readings no_fault i c at_c);
      }
    where
      no_fault : faults_in h.readings ≡ []
      no_fault = sym h.faults_are ∙ none

      long : (rs : List (Result ClassT Fault)) → faults_in rs ≡ [] → length (classes_in rs) ≡ length rs
      long [] e = refl
      long (Ok c ∷ rs) e = ap suc (long rs e)
      long (Err f ∷ rs) e = cc

      at : (rs : List (Result ClassT Fault)) → faults_in rs ≡ [] → (i : ℕ) (c : ClassT) →
          slice_get (classes_in rs) i ≡ Some c → slice_get rs i ≡ Some (Ok c)
      at [] e i c h = cc
      at (Ok d ∷ rs) e zero c h = let same : d ≡ c = cc in ap (λ d. Some (Ok d)) same
      at (Ok d ∷ rs) e (suc i) c h = at rs e i c h
      at (Err f ∷ rs) e i c h = cc

  pub tree_count : p.faults ≡ [] → length p.trees.items ≡ length texts
  tree_count none = sym (length-map p.trees.items class_view) ∙ (classes_are none).long

-- the faults of the classes that the texts are
pub system_has : (texts : List (List ℕ)) (given : List ClassT) (root : Root) (list : List Fault) →
    AreClasses texts given → Has list (SystemBroken given root) → Has list (Broken texts root)
system_has texts given root list are h = record {
  only = λ f i. inr (given, are, h.only f i);
  each = λ f b. ⊎_elim (λ t. absurd (no_text_fault texts given are f t))
      (λ s. h.each f (subst (λ g. SystemBroken g root f) (same_classes texts given s.0 are s.1) s.2)) b;
}
