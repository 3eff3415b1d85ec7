-- The numbers of the kernel's classes from which none inherits, one by one.
use Rattle.std.proofs.Common.{◌≡◌, ℕ, true, false, Some, refl, sym, subst, ◌∙◌}
use Rattle.std.proofs.lemmas.Bool.{eqb-true}
use Rattle.std.specs.Prelude.{◌||◌, ◌==◌}
use Rattle.eif_ancestry.proofs.Members.{or_cases, is_false}
use Rattle.eif_classes.specs.KernelNumbers.{integer_number, boolean_number, character_number, string_number, array_number, is_basic}
use Rattle.eif_rules.specs.UniverseRules.{is_closed_class}
use Rattle.eif_run_laws.specs.SystemLaws.{is_plain_kernel, is_final}

module _ (P : ℕ → Type 0) (integer : P integer_number) (boolean : P boolean_number) (character : P character_number)
    (string : P string_number) where
  of_number : (d k : ℕ) → P k → (d == k) ≡ true → P d
  of_number d k p t = subst P (sym (eqb-true d k t)) p

  pub each_plain : (d : ℕ) → is_plain_kernel d ≡ true → P d
  each_plain d h =
      or_cases (P d) (is_basic d) (d == string_number) h
      (λ t. or_cases (P d) ((d == integer_number) || (d == boolean_number)) (d == character_number) t
      (λ t. or_cases (P d) (d == integer_number) (d == boolean_number) t (of_number d integer_number integer)
      (of_number d boolean_number boolean))
      (of_number d character_number character))
      (of_number d string_number string)

  pub each_final : P array_number → (d : ℕ) → is_final d ≡ true → P d
  each_final array d h =
      or_cases (P d) (is_plain_kernel d) (d == array_number) h (each_plain d) (of_number d array_number array)

-- what no parent clause may name
pub not_final : (k : ℕ) → is_closed_class (Some k) ≡ false → is_final k ≡ false
not_final k h = is_false (is_final k) (λ t.
    let z : true ≡ false =
    sym (each_final (λ k. is_closed_class (Some k) ≡ true) refl refl refl refl refl k t) ∙ h in
    cc)
