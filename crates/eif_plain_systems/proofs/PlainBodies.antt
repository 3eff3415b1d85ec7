-- The bodies of a plain class break no rule: each call is of a procedure of the class.
use Rattle.std.proofs.Common.{◌≡◌, ℕ, true, List, [], ◌++◌, Some, None, refl, sym, ap, ap₂, subst, ◌∙◌}
use Rattle.std.specs.Option.{option_map, option_or}
use Rattle.std.specs.Prelude.{find}
use Rattle.std.specs.Str.{bytes_eq}
use Rattle.eif_base.specs.declared.place.Place.{Place}
use Rattle.eif_binding_laws.proofs.Searches.{found_has}
use Rattle.eif_body_rules.specs.BodyRules.{in_invariant, in_body, declaration_faults, class_body_faults}
use Rattle.eif_body_rules.specs.CallRules.{name_rule, call_of, wrong_arguments}
use Rattle.eif_body_rules.specs.InstructionFaults.{assertion_faults, instruction_faults, compound_faults}
use Rattle.eif_body_rules.specs.Settings.{Setting, feature, or_feature, or_entity, meaning}
use Rattle.eif_classes.specs.Entries.{leading}
use Rattle.eif_classes.specs.Signatures.{Signature, declared_signature, signature, signed_entries}
use Rattle.eif_lineage_laws.proofs.EachItem.{all_then}
use Rattle.eif_system.specs.Lineage.{Ups, line, line_of}
use Rattle.eif_tree.specs.Members.{has_name, declarations, declared_names}
use Rattle.eif_tree.specs.Tree.{unqualified, no_exs, call, Inss, no_inss, and_ins, DeclT, ClassT}
use Rattle.eif_plain_systems.proofs.Lists.{finds, no_parts}
use Rattle.eif_plain_systems.proofs.PlainParts.{AreCalls, bare_procedure, IsProcedure, IsPlainClass}

-- the signature of a procedure without arguments
abbrev bare : Signature
bare = record { arguments = []; result = None }

-- ---- calls, where no argument and no local is visible and each declared name has that signature

module _ (c : ClassT) (s : Setting) (alone : s.entities ≡ [])
    (signed : (n : List ℕ) → has_name (declared_names c) n ≡ true → signature s.universe s.line n ≡ Some bare) where
  means : (n : List ℕ) → has_name (declared_names c) n ≡ true → meaning s [] n ≡ feature bare
  unfolding meaning
  means n known =
      ap₂ (λ es o. or_entity (or_feature o) (find (λ e. bytes_eq e.name n) es)) alone (signed n known)

  call_fine : (p : Place) (n : List ℕ) → has_name (declared_names c) n ≡ true →
      instruction_faults s [] [] (call (unqualified p n no_exs)) ≡ []
  unfolding name_rule call_of wrong_arguments
  call_fine p n known = rw (means n known) refl

  calls_fine : (is : Inss) → AreCalls c is → compound_faults s [] [] is ≡ []
  calls_fine no_inss calls = refl
  calls_fine (and_ins i is) calls =
      let here = calls.0 in
      subst (λ i. compound_faults s [] [] (and_ins i is) ≡ []) (sym here.is)
      (ap₂ ◌++◌ (call_fine here.place here.name here.known) (calls_fine is calls.1))

-- ---- the class d with the text c

module _ (u : List ClassT) (d : ℕ) (c : ClassT) (ups : Ups) (unfolds : line_of u d ≡ line d c ups)
    (plain : IsPlainClass c) where
  signed : (n : List ℕ) → has_name (declared_names c) n ≡ true → signature u (line_of u d) n ≡ Some bare
  signed n known =
      let found = finds (λ m. bytes_eq m.name n) (λ x. x.names) (declarations c) known in
      let x = found.0 in
      let p = found_has (IsProcedure c) (λ x. has_name x.names n) (declarations c) x plain.procedures found.1 in
      ap (λ l. signature u l n) unfolds
      ∙ ap (λ o. option_or (option_map (declared_signature u c) o)
      (option_map (λ s. s.signature) (leading (λ s. s.entry) (signed_entries u c ups n)))) found.1
      ∙ ap (λ x. Some (declared_signature u c x)) p.is

  declaration_fine : (x : DeclT) → IsProcedure c x → declaration_faults u d c x ≡ []
  declaration_fine x p =
      let own = bare_procedure x.names p.code in
      subst (λ x. declaration_faults u d c x ≡ []) (sym p.is)
      (ap (λ fs. fs ++ [] ++ []) (calls_fine c (in_body u d c own) refl signed p.code p.calls))

  pub bodies_fine : class_body_faults u d c ≡ []
  bodies_fine = ap₂ ◌++◌
      (no_parts (declaration_faults u d c) (declarations c)
      (all_then (IsProcedure c) (λ x. declaration_faults u d c x ≡ []) (declarations c) declaration_fine
      plain.procedures))
      (ap (assertion_faults (in_invariant u d c) [] []) plain.invariants)
