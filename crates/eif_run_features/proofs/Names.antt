-- Names, features and signatures: what is no name has none.
use Rattle.std.proofs.Common.{◌≡◌, ℕ, Bool, true, false, List, Option, Some, None, refl, sym, ap, ◌∙◌, ⊎_elim}
use Rattle.std.specs.Prelude.{slice_get}
use Rattle.eif_classes.specs.Binding.{bind}
use Rattle.eif_classes.specs.Entries.{Feature}
use Rattle.eif_classes.specs.Features.{has_feature, feature}
use Rattle.eif_classes.specs.Signatures.{Signature, signature}
use Rattle.eif_classes.specs.Types.{TyT}
use Rattle.eif_lineage_laws.proofs.Descending.{lines_of, no_line, class_or_none}
use Rattle.eif_lineage_laws.proofs.Unfolding.{unfolded}
use Rattle.eif_system.specs.Inheritance.{clauses}
use Rattle.eif_system.specs.Lineage.{line_of}
use Rattle.eif_tree.specs.Tree.{ClassT}
use Rattle.eif_binding_laws.specs.Signatures.{IsTypeOf, IsSigned}
use Rattle.eif_binding_laws.proofs.Bound.{unbound}
use Rattle.eif_binding_laws.proofs.Formed.{signed_feature, signature_types, of_types}
use Rattle.eif_binding_laws.proofs.Inherited.{has_name_of, found_made}
use Rattle.eif_binding_laws.proofs.Keeping.{found_feature}
use Rattle.eif_binding_laws.proofs.Searches.{apart}
use Rattle.eif_binding_laws.proofs.Settings.{IsSignedSetting}
use Rattle.eif_binding_laws.proofs.Signing.{all_signed}
use Rattle.eif_run_sound.specs.UniverseLaws.{IsTypeIn}

module _ (u : List ClassT) (order : List ℕ) (strict : IsSignedSetting u order) where
  -- what is found is a name
  pub found_named : (d : ℕ) (n : List ℕ) (f : Feature) → feature (line_of u d) n ≡ Some f
      → has_feature (line_of u d) n ≡ true
  found_named d n f found = ⊎_elim
      (λ (c : (c : ClassT) × (slice_get u d ≡ Some c)).
      let l = unfolded u order strict.setting.hierarchy.ordered d c.0 c.1 in
      let ups = lines_of u c.0 (clauses c.0) in
      ap (λ l. has_feature l n) l
      ∙ (has_name_of d c.0 ups n ∙ (found_made d c.0 ups n f (sym (ap (λ l. feature l n) l) ∙ found)).1))
      (λ (e : slice_get u d ≡ None).
      let z : None ≡ Some f = sym (ap (λ l. feature l n) (no_line u d e)) ∙ found in cc)
      (class_or_none u d)

  -- what has a signature is a name
  pub signed_named : (d : ℕ) (n : List ℕ) (g : Signature) → signature u (line_of u d) n ≡ Some g
      → has_feature (line_of u d) n ≡ true
  signed_named d n g signed =
      let f = signed_feature u order strict.setting d n g signed in found_named d n f.0 f.1

  pub unknown : (d : ℕ) (n : List ℕ) → has_feature (line_of u d) n ≡ false → signature u (line_of u d) n ≡ None
  unknown d n absent = go (signature u (line_of u d) n) refl
    where
      go : (o : Option Signature) → signature u (line_of u d) n ≡ o → o ≡ None
      go None e = refl
      go (Some g) e = absurd (apart (has_feature (line_of u d) n) (signed_named d n g e) absent)

  -- a name has a feature and a signature
  pub named_signed : (d : ℕ) (n : List ℕ) → has_feature (line_of u d) n ≡ true
      → (f : Feature) × (feature (line_of u d) n ≡ Some f)
      × (g : Signature) × (signature u (line_of u d) n ≡ Some g) × IsSigned u d f g
  named_signed d n has = ⊎_elim
      (λ (c : (c : ClassT) × (slice_get u d ≡ Some c)).
      let f = found_feature u order strict d c.0 c.1 n has in
      let g = all_signed u order strict.setting d n f.0 f.1 in
      (f.0, f.1, g.0, g.1, g.2))
      (λ (e : slice_get u d ≡ None).
      let z : false ≡ true = sym (ap (λ l. has_feature l n) (no_line u d e)) ∙ has in cc)
      (class_or_none u d)

  pub unnamed : (d k : ℕ) (n : List ℕ) → signature u (line_of u k) n ≡ None → bind (line_of u d) k n ≡ None
  unnamed d k n none =
      unbound u order strict.setting.hierarchy.ordered k n (go (has_feature (line_of u k) n) refl) d
    where
      go : (b : Bool) → has_feature (line_of u k) n ≡ b → b ≡ false
      go false e = refl
      go true e = let s = named_signed k n e in let z : None ≡ Some s.2 = sym none ∙ s.3 in cc

  pub typed : (k : ℕ) (n : List ℕ) (g : Signature) (a : TyT) → signature u (line_of u k) n ≡ Some g
      → g.result ≡ Some a
      → IsTypeIn u k a
  typed k n g a signed e =
      let t = (of_types (IsTypeOf u k) g (signature_types u order strict.setting k n g signed)).result a e in
      (t.formed, t.valid)
