-- Items that are judged in turn, each behind those before it.
use Rattle.std.proofs.Common.{◌≡◌, ℕ, ◌+◌, List, [], ◌∷◌, ◌++◌, length, map, take, refl, sym, ap, ◌∙◌, append_assoc}
use Rattle.std.specs.Prelude.{flat_map}
use Rattle.std.specs.List.{enumerate_from}
use Rattle.std.proofs.lemmas.List.{append-nil, length_push}
use Rattle.std.proofs.Math.Seq.{take-append_seam}
use Rattle.eif_base.specs.declared.fault.Fault.{Fault}
use Rattle.eif_feature_rules.specs.RuleForms.{with_earlier}

module _ {A : Type 0} (judge : List A → A → List Fault) where
  -- what is judged of each
  abbrev pub in_turn : List A → List Fault
  in_turn xs = flat_map (λ (x : List A × A). judge x.0 x.1) (with_earlier xs)

  -- what is judged of each behind these
  abbrev after : List A → List A → List Fault
  after before [] = []
  after before (x ∷ xs) = judge before x ++ after (before ++ x ∷ []) xs

  -- of the items from that one on
  abbrev from_on : List A → ℕ → List A → List Fault
  from_on whole i rest =
      flat_map (λ (x : List A × A). judge x.0 x.1) (map (λ (x : ℕ × A). (take x.0 whole, x.1)) (enumerate_from i rest))

  from_on_is : (whole before rest : List A) → whole ≡ before ++ rest
      → from_on whole (length before) rest ≡ after before rest
  from_on_is whole before [] e = refl
  from_on_is whole before (x ∷ rest) e =
      let here : take (length before) whole ≡ before =
      ap (take (length before)) e ∙ take-append_seam before (x ∷ rest) in
      let next : whole ≡ (before ++ x ∷ []) ++ rest = e ∙ sym (append_assoc before (x ∷ []) rest) in
      ap (λ b. judge b x ++ from_on whole (length before + 1) rest) here
      ∙ ap (λ fs. judge before x ++ fs)
      (ap (λ i. from_on whole i rest) (sym (length_push before x)) ∙ from_on_is whole (before ++ x ∷ []) rest next)

  after-push : (before xs : List A) (x : A) → after before (xs ++ x ∷ []) ≡ after before xs ++ judge (before ++ xs) x
  after-push before [] x = append-nil (judge before x) ∙ ap (λ b. judge b x) (sym (append-nil before))
  after-push before (y ∷ xs) x =
      ap (λ fs. judge before y ++ fs) (after-push (before ++ y ∷ []) xs x)
      ∙ (sym (append_assoc (judge before y) (after (before ++ y ∷ []) xs) (judge ((before ++ y ∷ []) ++ xs) x))
      ∙ ap (λ b. (judge before y ++ after (before ++ y ∷ []) xs) ++ judge b x) (append_assoc before (y ∷ []) xs))

  pub in_turn-push : (xs : List A) (x : A) → in_turn (xs ++ x ∷ []) ≡ in_turn xs ++ judge xs x
  in_turn-push xs x =
      from_on_is (xs ++ x ∷ []) [] (xs ++ x ∷ []) refl
      ∙ (after-push [] xs x ∙ ap (λ fs. fs ++ judge xs x) (sym (from_on_is xs [] xs refl)))

  -- an item more is judged
  pub one_more : (old out new : List Fault) (xs : List A) (x : A) → out ≡ old ++ in_turn xs → new ≡ out ++ judge xs x
      → new ≡ old ++ in_turn (xs ++ x ∷ [])
  one_more old out new xs x so_far pushed =
      pushed ∙ (ap (λ fs. fs ++ judge xs x) so_far
      ∙ (append_assoc old (in_turn xs) (judge xs x) ∙ ap (λ fs. old ++ fs) (sym (in_turn-push xs x))))

-- one addition after another
pub then : (old a b first more : List Fault) → a ≡ old ++ first → b ≡ a ++ more → b ≡ old ++ (first ++ more)
then old a b first more added also = also ∙ (ap (λ fs. fs ++ more) added ∙ append_assoc old first more)
