-- The creators of a class, with and without creators parts.
use Rattle.std.proofs.Common.{◌≡◌, ℕ, ◌==◌, Bool, true, false, List, [], ◌∷◌, length, map, Option, Some, None, refl, sym, ap, ◌∙◌, arith}
use Rattle.std.specs.Prelude.{◌||◌}
use Rattle.std.proofs.lemmas.Bool.{eqb-true, eq-eqb}
use Rattle.std.proofs.lemmas.List.{length-map}
use Rattle.eif_binding_laws.proofs.Searches.{apart}
use Rattle.eif_tree.specs.View.{creators_view}
use Rattle.eif_tree.specs.declared.class.CreatorPart.{CreatorPart}
use Rattle.std.specs.List.{flat_map, list_any}
use Rattle.std.specs.Str.{bytes_eq}
use Rattle.eif_binding_laws.proofs.CreatorNames.{creators_named, is_that}
use Rattle.eif_classes.specs.Creators.{creators, creators_by, creators_in, default_creator}
use Rattle.eif_feature_rules.specs.CreatorRules.{is_creator}
use Rattle.eif_lineage_laws.specs.Lineages.{line_over}
use Rattle.eif_system.specs.Lineage.{Line}
use Rattle.eif_tree.specs.Members.{creator_names, has_name}
use Rattle.eif_tree.specs.Tree.{CreatorsT, ClassT}

-- ---- whether there are parts

no_items : {A : Type 0} (xs : List A) → length xs ≡ 0 → xs ≡ []
no_items [] e = refl
no_items (x ∷ xs) e = absurd (omega arith)

module _ (parts : List CreatorPart) (size : ℕ) (b : Bool) (long : size ≡ length parts) (is : b ≡ (size == 0)) where
  pub some_part : b ≡ false → map creators_view parts ≡ [] → ⊥
  some_part is_false e =
      let l = ap length e in
      let m = length-map parts creators_view in
      let z : size ≡ 0 = omega arith in
      apart b (is ∙ eq-eqb size 0 z) is_false

  pub no_part : b ≡ true → map creators_view parts ≡ []
  no_part is_true =
      let z = eqb-true size 0 (sym is ∙ is_true) in
      let m = length-map parts creators_view in
      no_items (map creators_view parts) (omega arith)

-- ---- the creators

module _ (u : List ClassT) (d : ℕ) (c : ClassT) (l : Line) (is : l ≡ line_over u d c) (n : List ℕ) where
  created_by : Option (List ℕ) → List CreatorsT → Bool
  created_by default parts = list_any (is_that n) (creators_by default parts)

  creator_is : is_creator l n ≡ list_any (is_that n) (creators_by (default_creator l) c.creators)
  creator_is = ap (λ k. is_creator k n) is
      ∙ ap (λ k. list_any (is_that n) (creators_by (default_creator k) c.creators)) (sym is)

  -- one that is written
  pub written_creator : (c.creators ≡ [] → ⊥) → has_name (creator_names c) n ≡ is_creator l n
  written_creator some = sym (creator_is ∙ (go c.creators some ∙ creators_named n c.creators))
    where
      go : (parts : List CreatorsT) → (parts ≡ [] → ⊥) →
          list_any (is_that n) (creators_by (default_creator l) parts)
          ≡ list_any (is_that n) (flat_map creators_in parts)
      go [] some = absurd (some refl)
      go (part ∷ parts) some = refl

  -- the one of a class that writes none
  unwritten : c.creators ≡ [] → (o : Option (List ℕ)) → default_creator l ≡ o →
      is_creator l n ≡ list_any (is_that n) (creators_by o [])
  unwritten none o default =
      creator_is ∙ (ap (λ parts. list_any (is_that n) (creators_by (default_creator l) parts)) none
      ∙ ap (λ o. list_any (is_that n) (creators_by o [])) default)

  or_false : (b : Bool) → b ≡ (b || false)
  or_false true = refl
  or_false false = refl

  pub default_is : c.creators ≡ [] → (m : List ℕ) → default_creator l ≡ Some m → bytes_eq m n ≡ is_creator l n
  default_is none m default = or_false (bytes_eq m n) ∙ sym (unwritten none (Some m) default)

  pub no_default : c.creators ≡ [] → default_creator l ≡ None → false ≡ is_creator l n
  no_default none default = sym (unwritten none None default)
