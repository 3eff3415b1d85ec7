-- What the reading of a class text says of all the tokens.
use Rattle.std.proofs.Common.{◌≡◌, ◌≢◌, ℕ, zero, suc, ◌≤◌, ◌<◌, Some, Result, Err, IsErrAnd, List, [], ◌∷◌, drop, length, slice_get, refl, sym, subst, arith}
use Rattle.std.specs.Option.{option_map}
use Rattle.std.proofs.lemmas.Result.{err_from_is_err_and}
use Rattle.eif_base.specs.declared.Place.{Place}
use Rattle.eif_tree.specs.declared.ClassTree.{ClassTree}
use Rattle.eif_tree.specs.View.{class_view}
use Rattle.eif_grammar.specs.Tokens.{Token}
use Rattle.eif_grammar.specs.Goals.{class_text, class_goal}
use Rattle.eif_grammar.specs.Outcomes.{got, Calls}
use Rattle.eif_grammar.specs.Parts.{OnlyText, LongestFront, TextPart, left_place}
use Rattle.eif_grammar_laws.proofs.ClassLaws.{class_part, one_text}
use Rattle.eif_grammar_laws.proofs.FrontLaws.{longest_text, longest_text_behind}
use Rattle.eif_parse_expr.specs.declared.PartError.{PartError}
use Rattle.eif_parse_expr.specs.declared.PartError.TheVariants.{At, Memory}
use Rattle.eif_parse_expr.specs.declared.Parsed.{Parsed}
use Rattle.eif_parse_expr.specs.Readings.{Reads}
use Rattle.eif_parse.specs.Parses.{IsWhole}

some_same : {A : Type 0} {a b : A} → Some a ≡ Some b → a ≡ b
some_same e = cc

-- the place of a token that is there
pub place_there : (end : Place) (ts : List Token) (at : ℕ) (p : Place) → option_map (λ w. w.place) (slice_get ts at) ≡ Some p → p ≡ left_place end (drop at ts)
place_there end [] zero p e = cc
place_there end [] (suc at) p e = cc
place_there end (w ∷ ts) zero p e = sym (some_same e)
place_there end (w ∷ ts) (suc at) p e = place_there end ts at p e

some_left : (ts : List Token) (n : ℕ) → n < length ts → drop n ts ≢ []
some_left [] n lt = λ e. absurd (omega arith)
some_left (w ∷ ts) zero lt = λ e. cc
some_left (w ∷ ts) (suc n) lt = some_left ts n (omega arith)

none_left : (ts : List Token) (n : ℕ) → length ts ≤ n → drop n ts ≡ []
none_left [] zero le = refl
none_left [] (suc n) le = refl
none_left (w ∷ ts) zero le = absurd (omega arith)
none_left (w ∷ ts) (suc n) le = none_left ts n (omega arith)

module _ (ts : List Token) where
  abbrev IsRead : Result (Parsed ClassTree) PartError → Type 0
  IsRead r = Reads (Calls (class_goal class_text) ts) class_view ts 0 r

  of_error : (e : PartError) → IsRead (Err e) → IsWhole ts (Err e)
  of_error (At p) l = longest_text ts (drop p ts) l.outcome
  of_error Memory l = tt

  -- the reading was refused
  pub whole_error : (r : Result ClassTree PartError) (e : PartError) → IsErrAnd r (λ y. y ≡ e) → IsRead (Err e) → IsWhole ts r
  whole_error r e is l = let p = err_from_is_err_and r is in rw (p.1, p.2) (of_error e l)

  -- tokens are left
  pub more_left : (next : ℕ) (tree : ClassTree) → Calls (class_goal class_text) ts (got (class_view tree) (drop next ts)) → next < length ts → LongestFront TextPart ts (drop next ts)
  more_left next tree c lt = longest_text_behind ts (drop next ts) (class_view tree) c (some_left ts next lt)

  -- no token is left
  pub all_read : (next : ℕ) (tree : ClassTree) → Calls (class_goal class_text) ts (got (class_view tree) (drop next ts)) → length ts ≤ next → OnlyText ts (class_view tree)
  all_read next tree c le =
      let text = class_part ts [] (class_view tree) (subst (λ l. Calls (class_goal class_text) ts (got (class_view tree) l)) (none_left ts next le) c) in
      record { is_text = text; only = λ other t. one_text ts other (class_view tree) t text }
