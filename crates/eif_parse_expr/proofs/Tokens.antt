-- Tokens by their numbers.
use Rattle.std.proofs.Common.{◌≡◌, ◌≢◌, ℕ, zero, suc, List, [], ◌∷◌, Some, drop, slice_get, refl, sym}
use Rattle.std.specs.Option.{option_map}
use Rattle.eif_grammar.specs.declared.terminal.Terminal.TheVariants as t
use Rattle.eif_grammar.specs.Tokens.{Token}
use Rattle.eif_grammar.specs.Spelling.{head}
use Rattle.eif_parse_expr.specs.Readings.{first}

some_same : {A : Type 0} {a b : A} → Some a ≡ Some b → a ≡ b
some_same e = cc

-- what is known of the token with that number
pub seen_here : {A : Type 0} (f : Token → A) (ts : List Token) (at : ℕ) (v : A) → head (drop at ts) ≢ t.EndOfText → option_map f (slice_get ts at) ≡ Some v → v ≡ f (first (drop at ts))
seen_here f [] zero v some e = absurd (some refl)
seen_here f [] (suc at) v some e = absurd (some refl)
seen_here f (w ∷ ts) zero v some e = sym (some_same e)
seen_here f (w ∷ ts) (suc at) v some e = seen_here f ts at v some e
