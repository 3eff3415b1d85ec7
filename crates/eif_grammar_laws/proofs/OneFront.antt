-- The first token past the longest front is one.
use Rattle.std.proofs.Common.{◌≡◌, List, [], ◌∷◌, ◌++◌, refl, ap, sym, ◌∙◌, ◌⊎◌, inl, inr}
use Rattle.std.proofs.lemmas.List.{append_assoc}
use Rattle.eif_grammar.specs.Tokens.{Token}
use Rattle.eif_grammar.specs.Parts.{IsFront, LongestFront}

-- the second list goes on behind the first with the token that begins the third
record GoesOn (a b x : List Token) : Type 0 where
  next : Token
  more : List Token
  is_left : x ≡ next ∷ more
  front : List Token
  is_longer : b ≡ a ++ next ∷ front

one_more : {v w : Token} {a b x : List Token} → v ≡ w → GoesOn a b x → GoesOn (v ∷ a) (w ∷ b) x
one_more {v} {w} {a} {b} same g = record {
  next = g.next;
  more = g.more;
  is_left = g.is_left;
  front = g.front;
  is_longer = ap (λ u. u ∷ b) (sym same) ∙ ap (λ l. v ∷ l) g.is_longer;
}

-- of two cuts of a list, the same or one further on
cuts : (a b x y : List Token) → a ++ x ≡ b ++ y → (x ≡ y) ⊎ (GoesOn a b x ⊎ GoesOn b a y)
cuts [] [] x y e = inl e
cuts [] (w ∷ b) x y e = inr (inl (record { next = w; more = b ++ y; is_left = e; front = b; is_longer = refl }))
cuts (v ∷ a) [] x y e = inr (inr (record { next = v; more = a ++ x; is_left = sym e; front = a; is_longer = refl }))
cuts (v ∷ a) (w ∷ b) x y e = step (cuts a b x y (cc))
  where
    step : (x ≡ y) ⊎ (GoesOn a b x ⊎ GoesOn b a y) → (x ≡ y) ⊎ (GoesOn (v ∷ a) (w ∷ b) x ⊎ GoesOn (w ∷ b) (v ∷ a) y)
    step (inl same) = inl same
    step (inr (inl g)) = inr (inl (one_more (cc) g))
    step (inr (inr g)) = inr (inr (one_more (cc) g))

module _ {X : Type 0} (part : List Token → List Token → X → Type 0) where
  -- no front that begins a part goes on with that token
  none_longer : (tokens left front : List Token) (l : LongestFront part tokens left) → IsFront part front → GoesOn l.front front left → ⊥
  none_longer tokens left front l (behind, x, p) g =
      l.longest (front ++ behind) [] x
      (inr (
        l.front,
        g.next,
        g.more,
        g.front ++ behind,
        (l.begins ∙ ap (λ r. l.front ++ r) g.is_left),
        g.is_left,
        (ap (λ r. r ++ behind) g.is_longer ∙ append_assoc l.front (g.next ∷ g.front) behind),
      )) p

  pub one_front : (tokens left left' : List Token) → LongestFront part tokens left → LongestFront part tokens left' → left ≡ left'
  one_front tokens left left' l k = by_cut (cuts l.front k.front left left' (sym l.begins ∙ k.begins))
    where
      by_cut : (left ≡ left') ⊎ (GoesOn l.front k.front left ⊎ GoesOn k.front l.front left') → left ≡ left'
      by_cut (inl same) = same
      by_cut (inr (inl g)) = absurd (none_longer tokens left k.front l k.viable g)
      by_cut (inr (inr g)) = absurd (none_longer tokens left' l.front k l.viable g)
