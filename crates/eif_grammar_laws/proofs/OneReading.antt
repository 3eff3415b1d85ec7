-- What a goal that finds each part says of parts: there is one, or none.
use Rattle.std.proofs.Common.{◌≡◌, List, ◌∷◌, ◌++◌, inl, inr}
use Rattle.eif_grammar.specs.Tokens.{Token}
use Rattle.eif_grammar.specs.Goals.{Goal, Found}
use Rattle.eif_grammar.specs.Outcomes.{got, refused, Calls}
use Rattle.eif_grammar.specs.Parts.{Agree, OnlyPart, NoPart}
use Rattle.eif_grammar_laws.proofs.Readers.{one_outcome, same_reading, same_refusal}

module _ (g : Goal) (part : List Token → List Token → Found g → Type 0)
    (finds : (x : Found g) (tokens rest : List Token) → part tokens rest x → Calls g tokens (got x rest)) where
  one_part : (tokens left other rest : List Token) (x y : Found g) → Calls g tokens (got x left) → Agree tokens left other → part other rest y → y ≡ x
  one_part tokens left other rest x y c (inl same) p =
      let o = one_outcome (finds y tokens rest (rw same at p)) c in cc
  one_part tokens left other rest x y c (inr (front, n, more, more', whole, l, o)) p =
      let there = same_reading n more more' x front (rw (whole, l) at c) in
      let one = one_outcome (finds y (front ++ n ∷ more') rest (rw o at p)) there in cc

  pub only_part : (tokens left : List Token) (x : Found g) → part tokens left x → Calls g tokens (got x left) → OnlyPart part tokens left x
  only_part tokens left x p c = record {
    is_part = p;
    only = λ other rest y a q. one_part tokens left other rest x y c a q;
  }

  pub no_part : (tokens left : List Token) → Calls g tokens (refused left) → NoPart part tokens left
  no_part tokens left c other rest x (inl same) p =
      let o = one_outcome (finds x tokens rest (rw same at p)) c in cc
  no_part tokens left c other rest x (inr (front, n, more, more', whole, l, o)) p =
      let there = same_refusal n more more' front (rw (whole, l) at c) in
      let one = one_outcome (finds x (front ++ n ∷ more') rest (rw o at p)) there in cc
