-- The first phase: what a text is, its one class or its one fault.
use Rattle.std.specs.Prelude.{◌≡◌, ℕ, List, [], Option, Some, None, Result, Ok, Err}
use Rattle.eif_base.specs.declared.Place.{Place}
use Rattle.eif_base.specs.declared.Fault.{Fault}
use Rattle.eif_base.specs.declared.Code.TheVariants as code
use Rattle.eif_tree.specs.Tree.{ClassT}
use Rattle.eif_grammar.specs.Tokens.{Token, TokenList, tokens_of, end_of}
use Rattle.eif_grammar.specs.Places.{place_at}
use Rattle.eif_grammar.specs.LeftOut.{left_out, left_out_text}
use Rattle.eif_grammar.specs.Parts.{OnlyText, IsSyntaxFault}
use Rattle.eif_rules.specs.FaultForms.{fault_of_text}

-- XLEX.1: no blank, comment or token starts there
abbrev pub stuck_fault : Place → Fault
stuck_fault place = fault_of_text code.Xlex place []

-- XOUT.1: that token is left out
abbrev pub left_out_fault : Token → Fault
left_out_fault t = fault_of_text code.Xout t.place (left_out_text t.terminal t.text)

-- XSYN.1: the text is no class text, and that is where it breaks off
abbrev pub syntax_fault : Place → Fault
syntax_fault place = fault_of_text code.Xsyn place []

-- where no token is left out: the one class that the tokens are, or their syntax fault
abbrev pub GrammarGives : TokenList → Result ClassT Fault → Type 0
GrammarGives list (Ok c) = OnlyText list.tokens c
GrammarGives list (Err f) = (place : Place) × IsSyntaxFault list place × (f ≡ syntax_fault place)

abbrev pub TokensGive : TokenList → Option Token → Result ClassT Fault → Type 0
TokensGive list (Some t) gives = gives ≡ Err (left_out_fault t)
TokensGive list None gives = GrammarGives list gives

-- of a token list
abbrev pub ListGives : TokenList → Result ClassT Fault → Type 0
ListGives list gives = TokensGive list (left_out list.tokens) gives

abbrev pub LexingGives : ℕ → List ℕ → Result (List Token) ℕ → Result ClassT Fault → Type 0
LexingGives file text (Err at) gives = gives ≡ Err (stuck_fault (place_at file text at))
LexingGives file text (Ok tokens) gives = ListGives (record { tokens = tokens; end = end_of file text }) gives

-- the text of the file with that number is this class, or has this fault
abbrev pub TextGives : ℕ → List ℕ → Result ClassT Fault → Type 0
TextGives file text gives = LexingGives file text (tokens_of file text) gives
