-- What is judged of entries, by what counts of them.
use Rattle.std.proofs.Common.{◌≡◌, ℕ, Bool, true, false, List, [], ◌∷◌, ◌++◌, map, Some, None, refl, ap, ap₂}
use Rattle.std.specs.List.{flat_map, list_all}
use Rattle.std.specs.Option.{option_map, option_to_list}
use Rattle.std.specs.Prelude.{cond, not, ◌&&◌, ◌||◌, if◌then◌else◌}
use Rattle.eif_base.specs.declared.fault.Fault.{Fault}
use Rattle.eif_classes.specs.Entries.{lasts}
use Rattle.eif_classes.specs.Features.{is_attribute, is_field}
use Rattle.eif_classes.specs.Signatures.{Signature, SignedEntry, declared_signature}
use Rattle.eif_feature_rules.specs.JoinRules.{agree, fits_others}
use Rattle.eif_feature_rules.specs.RedeclarationRules.{fault_beside, keeps_attribute, redeclaration_faults, redeclaration_faults_by}
use Rattle.eif_feature_rules.specs.RuleForms.{DeclaredName, first_broken}
use Rattle.eif_feature_rules.specs.SignaturePairs as pairs
use Rattle.eif_redecl.specs.EntryViews.{EntryView, faults_beside, fits_beside, have_one_signature, seen}
use Rattle.eif_rules.specs.FaultForms.{fault_where}
use Rattle.eif_tree.specs.Tree.{ClassT}

-- the first of five rules
first_of : (fault : ℕ → Fault) (a b c d e : Bool) →
    first_broken (
    fault_where a (fault 1)
    ++ fault_where b (fault 2)
    ++ fault_where c (fault 3)
    ++ fault_where d (fault 4)
    ++ fault_where e (fault 5))
    ≡ option_to_list (option_map fault
    (if a then Some 1
    else (if b then Some 2 else (if c then Some 3 else (if d then Some 4 else (if e then Some 5 else None))))))
first_of fault true b c d e = refl
first_of fault false true c d e = refl
first_of fault false false true d e = refl
first_of fault false false false true e = refl
first_of fault false false false false true = refl
first_of fault false false false false false = refl

module _ (u : List ClassT) (d : ℕ) (c : ClassT) (x : DeclaredName) where
  beside_is : (s : Signature) (e : SignedEntry) →
      redeclaration_faults_by u d c x s e ≡ faults_beside u d c x.name (is_attribute x.tree.kind) s (seen e)
  beside_is s e =
      first_of (fault_beside c x e) (not (pairs.have_equal_count s e.signature))
      (not (pairs.have_equal_arguments s e.signature)) (not (pairs.are_of_one_form s e.signature))
      (not (pairs.has_conforming_result u d s e.signature))
      (is_field e.entry.feature.origin && not (keeps_attribute x s e))

  pub each_beside : (es : List SignedEntry) → redeclaration_faults u d c x es
      ≡ flat_map (faults_beside u d c x.name (is_attribute x.tree.kind) (declared_signature u c x.tree)) (map seen es)
  each_beside [] = refl
  each_beside (e ∷ es) = ap₂ ◌++◌ (beside_is (declared_signature u c x.tree) e) (each_beside es)

pub others_fit : (u : List ClassT) (d : ℕ) (s : Signature) (es : List SignedEntry) →
    fits_others u d es s ≡ list_all (fits_beside u d s) (map seen es)
others_fit u d s [] = refl
others_fit u d s (e ∷ es) = go _ _ (lasts e.entry) (others_fit u d s es)
  where
    go : (rest : List SignedEntry) (all : Bool) (b : Bool) →
        list_all (λ e. pairs.fits u d s e.signature) rest ≡ all →
        list_all (λ e. pairs.fits u d s e.signature) (cond (not b) (e ∷ rest) rest)
        ≡ ((b || pairs.fits u d s e.signature) && all)
    go rest all true h = h
    go rest all false h = ap (λ all. pairs.fits u d s e.signature && all) h

pub one_signature : (es : List SignedEntry) → agree es ≡ have_one_signature (map seen es)
one_signature [] = refl
one_signature (e ∷ es) = equal es
  where
    equal : (es : List SignedEntry) →
        list_all (λ x. pairs.are_equal e.signature x.signature) es
        ≡ list_all (λ (x : EntryView). pairs.are_equal e.signature x.signature) (map seen es)
    equal [] = refl
    equal (x ∷ es) = ap (λ b. pairs.are_equal e.signature x.signature && b) (equal es)
