-- What classes give, by their rows, and what they do not give.
use Rattle.std.proofs.Common.{◌≡◌, ℕ, zero, suc, ◌<◌, true, false, List, [], ◌∷◌, length, Option, Some, None, refl, sym, ap, subst, ◌∙◌, arith}
use Rattle.std.specs.Prelude.{slice_get}
use Rattle.std.proofs.lemmas.Option.{slice_get_within}
use Rattle.eif_classes.specs.Ancestry.{ancestor, derived}
use Rattle.eif_classes.specs.Descent.{descends}
use Rattle.eif_classes.specs.Types.{Actuals}
use Rattle.eif_lineage_laws.proofs.Descending.{no_line}
use Rattle.eif_derivations.specs.Filled.{AreDerivations}
use Rattle.eif_derivations.specs.declared.derivation.DerivationRow.{DerivationRow}
use Rattle.eif_derivations.specs.declared.fill.Derivations.{Derivations}
use Rattle.eif_lineage_laws.proofs.Unfolding.{class_within}
use Rattle.eif_lineage_laws.proofs.WholeClasses.{has_order}
use Rattle.eif_rows.specs.Systems.{IsSystem}
use Rattle.eif_system.specs.Lineage.{line_of}
use Rattle.eif_tree.specs.Tree.{ClassT}
use Rattle.eif_type_laws.specs.ClassTypes.{IsHierarchy}
use Rattle.eif_type_laws.proofs.Ancestors.{ancestor_descends}
use Rattle.eif_type_laws.proofs.WholeUniverses.{hierarchy}

-- ---- rows

row_within : (rows : List DerivationRow) (d : ℕ) → d < length rows →
    (r : DerivationRow) × (slice_get rows d ≡ Some r)
row_within [] d h = absurd (omega arith)
row_within (r ∷ rows) zero h = (r, refl)
row_within (r ∷ rows) (suc d) h = row_within rows d (omega arith)

module _ (u : List ClassT) (x : Derivations) (are : AreDerivations u x) where
  -- a row is that of a class
  pub row_class : (d : ℕ) (r : DerivationRow) → slice_get x.rows.items d ≡ Some r →
      (c : ClassT) × (slice_get u d ≡ Some c)
  row_class d r at = class_within u d (subst (λ n. d < n) are.long (slice_get_within x.rows.items d r at))

  -- where there is no row there is no class
  pub past_rows : (d : ℕ) → slice_get x.rows.items d ≡ None → slice_get u d ≡ None
  past_rows d none = go (slice_get u d) refl
    where
      go : (o : Option ClassT) → slice_get u d ≡ o → slice_get u d ≡ None
      go None e = e
      go (Some c) e =
          let within : d < length x.rows.items = subst (λ n. d < n) (sym are.long) (slice_get_within u d c e) in
          let row = row_within x.rows.items d within in
          let z : Some row.0 ≡ None = sym row.1 ∙ none in cc

-- ---- what is given

module _ (u : List ClassT) (s : IsSystem u) where
  -- the classes of a system are a hierarchy
  pub hierarchy_in : (order : List ℕ) × IsHierarchy u order
  hierarchy_in = subst (λ u. (order : List ℕ) × IsHierarchy u order) (sym s.is)
      (let o = has_order s.given s.root s.sound in (o.0, hierarchy s.given s.root s.sound o.0 o.1))

  -- whom a class gives something it is or descends from
  pub given_descends : (d k : ℕ) (xs : Actuals) → ancestor u d k ≡ Some xs → descends (line_of u d) k ≡ true
  given_descends d k xs e = let o = hierarchy_in in ancestor_descends u o.0 o.1 d k xs e

  pub nothing_given : (d k : ℕ) → descends (line_of u d) k ≡ false → None ≡ ancestor u d k
  nothing_given d k h = go (ancestor u d k) refl
    where
      go : (o : Option Actuals) → ancestor u d k ≡ o → None ≡ ancestor u d k
      go None e = sym e
      go (Some xs) e = let z : true ≡ false = sym (given_descends d k xs e) ∙ h in cc

  pub no_class_gives : (d k : ℕ) → slice_get u d ≡ None → None ≡ ancestor u d k
  no_class_gives d k none = ap (λ l. derived u l k) (sym (no_line u d none))
