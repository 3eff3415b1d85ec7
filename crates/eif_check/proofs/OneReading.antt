-- A text is one class, or has one fault, and not both.
use Rattle.std.proofs.Common.{◌≡◌, ℕ, zero, suc, ◌<◌, List, [], ◌∷◌, length, Option, Some, None, Result, Ok, Err, refl, ap, ap₂, sym, ◌∙◌, inl, arith}
use Rattle.std.specs.Prelude.{slice_get}
use Rattle.std.proofs.lemmas.Option.{slice_get_within, slice_get-get_or}
use Rattle.eif_base.specs.Appends.{SomeOf}
use Rattle.eif_base.specs.declared.Place.{Place}
use Rattle.eif_base.specs.declared.Fault.{Fault}
use Rattle.eif_tree.specs.Tree.{ClassT}
use Rattle.eif_grammar.specs.Tokens.{Token, TokenList, tokens_of, end_of}
use Rattle.eif_grammar.specs.LeftOut.{left_out}
use Rattle.eif_grammar.specs.Parts.{TextPart, OnlyText, left_place, IsSyntaxFault}
use Rattle.eif_grammar_laws.proofs.OneFront.{one_front}
use Rattle.eif_check.specs.OneReading.{OneReading, OneSystem}
use Rattle.eif_check.specs.Systems.{TextsBroken, AreClasses}
use Rattle.eif_check.specs.TextFaults.{syntax_fault, GrammarGives, TokensGive, LexingGives, TextGives}

module _ (list : TokenList) where
  one_place : (p q : Place) → IsSyntaxFault list p → IsSyntaxFault list q → p ≡ q
  one_place p q a b =
      a.is_place ∙ ap (left_place list.end) (one_front TextPart list.tokens a.left b.left a.past b.past)
      ∙ sym b.is_place

  -- a class text has no syntax fault
  no_fault : (c : ClassT) (p : Place) → OnlyText list.tokens c → IsSyntaxFault list p → ⊥
  no_fault c p text a = a.past.longest list.tokens [] c (inl refl) (refl, text.is_text)

  of_grammar : (a b : Result ClassT Fault) → GrammarGives list a → GrammarGives list b → a ≡ b
  of_grammar (Ok c) (Ok d) text other = ap Ok (other.only c text.is_text)
  of_grammar (Ok c) (Err f) text (p, fault, e) = absurd (no_fault c p text fault)
  of_grammar (Err f) (Ok c) (p, fault, e) text = absurd (no_fault c p text fault)
  of_grammar (Err f) (Err g) (p, fault, e) (q, other, e') =
      ap Err (e ∙ ap syntax_fault (one_place p q fault other) ∙ sym e')

  of_tokens : (o : Option Token) (a b : Result ClassT Fault) → TokensGive list o a → TokensGive list o b → a ≡ b
  of_tokens (Some t) a b e e' = e ∙ sym e'
  of_tokens None a b e e' = of_grammar a b e e'

of_text : (file : ℕ) (text : List ℕ) (o : Result (List Token) ℕ) (a b : Result ClassT Fault) →
    LexingGives file text o a → LexingGives file text o b → a ≡ b
of_text file text (Err at) a b e e' = e ∙ sym e'
of_text file text (Ok tokens) a b e e' =
    of_tokens (record { tokens = tokens; end = end_of file text }) (left_out tokens) a b e e'

pub one_reading : OneReading
one_reading file text a b e e' = of_text file text (tokens_of file text) a b e e'

-- ---- systems

-- an item of a list that is as long
pub partner : {A B : Type 0} (xs : List A) (ys : List B) (i : ℕ) (x : A) → length ys ≡ length xs →
    slice_get xs i ≡ Some x → (y : B) × (slice_get ys i ≡ Some y)
partner [] ys i x long e = cc
partner (x ∷ xs) [] i z long e = absurd (omega arith)
partner (x ∷ xs) (y ∷ ys) zero z long e = (y, refl)
partner (x ∷ xs) (y ∷ ys) (suc i) z long e = partner xs ys i z (omega arith) e

-- lists that are as long, and the same at each place
same_items : {A : Type 0} (xs ys : List A) → length xs ≡ length ys →
    ((i : ℕ) (x y : A) → slice_get xs i ≡ Some x → slice_get ys i ≡ Some y → x ≡ y) → xs ≡ ys
same_items [] [] long each = refl
same_items [] (y ∷ ys) long each = absurd (omega arith)
same_items (x ∷ xs) [] long each = absurd (omega arith)
same_items (x ∷ xs) (y ∷ ys) long each =
    ap₂ ◌∷◌ (each zero x y refl refl) (same_items xs ys (omega arith) (λ i a b. each (suc i) a b))

pub no_text_fault : (texts : List (List ℕ)) (given : List ClassT) → AreClasses texts given → (f : Fault) →
    TextsBroken texts f → ⊥
no_text_fault texts given are f broken =
    let c = partner texts given broken.i broken.x are.long broken.at in
    let e : Ok c.0 ≡ Err f = one_reading broken.i broken.x (Ok c.0) (Err f)
    (are.each broken.i broken.x c.0 broken.at c.1) broken.judged in
    cc

pub same_classes : (texts : List (List ℕ)) (given other : List ClassT) → AreClasses texts given →
    AreClasses texts other → other ≡ given
same_classes texts given other are others =
    let long = are.long in
    let also = others.long in
    same_items other given (others.long ∙ sym are.long) (λ i d c at_other at_given.
    let t = partner other texts i d (sym others.long) at_other in
    let e : Ok d ≡ Ok c = one_reading i t.0 (Ok d) (Ok c) (others.each i t.0 d t.1 at_other)
    (are.each i t.0 c t.1 at_given) in
    cc)

pub one_system : OneSystem
one_system texts given are = (no_text_fault texts given are, λ other others. same_classes texts given other are others)
