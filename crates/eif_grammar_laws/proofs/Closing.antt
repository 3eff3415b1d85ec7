-- What the words and symbols that close don't begin.
use Rattle.std.proofs.Common.{◌≡◌, true, false, Bool, if◌then◌else◌, None, refl, subst}
use Rattle.eif_grammar.specs.declared.terminal.Terminal.{Terminal}
use Rattle.eif_grammar.specs.declared.terminal.Terminal.TheVariants as t
use Rattle.eif_grammar.specs.Is.{is}
use Rattle.eif_grammar.specs.Forms.{operator, begins_expression, begins_instruction, begins_routine, begins_clause}
use Rattle.eif_grammar_laws.proofs.Terminals.{is_not}
use Rattle.eif_grammar_laws.proofs.Endings.{Ending, closes, ends, stops_at, at_other}

-- a token at which a goal may end isn't one that goes on
pub not_here : (e : Ending) (x : Terminal) → stops_at e x ≡ false → (y : Terminal) → stops_at e y ≡ true → is x y ≡ false
not_here e x out y here = is_not x y (λ same. let there : stops_at e x ≡ true = subst (λ z. stops_at e z ≡ true) same here in cc)

pub closing_operator : (y : Terminal) → closes y ≡ true → operator y ≡ None
closing_operator t.EndOfText e = refl
closing_operator t.CloseParenthesis e = refl
closing_operator t.CloseBracket e = refl
closing_operator t.CloseBrace e = refl
closing_operator t.Then e = refl
closing_operator t.Until e = refl
closing_operator t.Loop e = refl
closing_operator t.End e = refl
closing_operator t.Do e = refl
closing_operator t.Class e = refl
closing_operator _ e = cc

-- what none of them begins
Opens : Terminal → Type 0
Opens y = (begins_expression y ≡ false) × (begins_instruction y ≡ false) × (begins_clause y ≡ false)

opens : (y : Terminal) → closes y ≡ true → Opens y
unfolding Opens
opens t.EndOfText e = (refl, refl, refl)
opens t.CloseParenthesis e = (refl, refl, refl)
opens t.CloseBracket e = (refl, refl, refl)
opens t.CloseBrace e = (refl, refl, refl)
opens t.Then e = (refl, refl, refl)
opens t.Until e = (refl, refl, refl)
opens t.Loop e = (refl, refl, refl)
opens t.End e = (refl, refl, refl)
opens t.Do e = (refl, refl, refl)
opens t.Class e = (refl, refl, refl)
opens _ e = cc

pub closing_expression : (y : Terminal) → closes y ≡ true → begins_expression y ≡ false
unfolding Opens
closing_expression y e = (opens y e).0

pub closing_instruction : (y : Terminal) → closes y ≡ true → begins_instruction y ≡ false
unfolding Opens
closing_instruction y e = (opens y e).1

pub closing_clause : (y : Terminal) → closes y ≡ true → begins_clause y ≡ false
unfolding Opens
closing_clause y e = (opens y e).2

pub ends_routine : (y : Terminal) → ends y ≡ true → begins_routine y ≡ false
ends_routine t.EndOfText e = refl
ends_routine t.End e = refl
ends_routine t.Class e = refl
ends_routine _ e = cc

pub ends_closes : (y : Terminal) → ends y ≡ true → closes y ≡ true
ends_closes t.EndOfText e = refl
ends_closes t.End e = refl
ends_closes t.Class e = refl
ends_closes _ e = cc

-- ---- what closes and isn't one of two

unless : Bool → Bool → Bool → Type 0
unless a b c = (a ≡ false) × (b ≡ false) × (c ≡ true)

unless_both : (a b c : Bool) → (if a then false else if b then false else c) ≡ true → unless a b c
unfolding unless
unless_both true b c e = cc
unless_both false true c e = cc
unless_both false false c e = (refl, refl, e)

pub other_first : (a b y : Terminal) → stops_at (at_other a b) y ≡ true → is a y ≡ false
unfolding unless
other_first a b y e = (unless_both (is a y) (is b y) (closes y) e).0

pub other_second : (a b y : Terminal) → stops_at (at_other a b) y ≡ true → is b y ≡ false
unfolding unless
other_second a b y e = (unless_both (is a y) (is b y) (closes y) e).1

pub other_closes : (a b y : Terminal) → stops_at (at_other a b) y ≡ true → closes y ≡ true
unfolding unless
other_closes a b y e = (unless_both (is a y) (is b y) (closes y) e).2
