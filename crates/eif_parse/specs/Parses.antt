-- What `parse_class` ensures.
use Rattle.std.specs.Prelude.{◌≡◌, List, drop, Some, None, Result, Ok, Err}
use Rattle.eif_tree.specs.declared.ClassTree.{ClassTree}
use Rattle.eif_tree.specs.View.{class_view}
use Rattle.eif_grammar.specs.Tokens.{Token, TokenList}
use Rattle.eif_grammar.specs.LeftOut.{left_out, left_out_text}
use Rattle.eif_grammar.specs.Parts.{TextPart, OnlyText, LongestFront, IsSyntaxFault}
use Rattle.eif_parse.specs.declared.error.ParseError.{ParseError}
use Rattle.eif_parse.specs.declared.error.ParseError.TheVariants.{Left, Syntax, Memory}
use Rattle.eif_parse_expr.specs.declared.PartError.{PartError}
use Rattle.eif_parse_expr.specs.declared.PartError.TheVariants as error

abbrev pub Parses : TokenList → Result ClassTree ParseError → Type 0
-- nothing is left out, and this is the one class text
Parses list (Ok tree) = (left_out list.tokens ≡ None) × OnlyText list.tokens (class_view tree)
-- this is the first token that is left out
Parses list (Err (Left place name)) =
    (t : Token) × (left_out list.tokens ≡ Some t) × (place ≡ t.place) × (name ≡ left_out_text t.terminal t.text)
-- nothing is left out, and there is no class text
Parses list (Err (Syntax place)) = (left_out list.tokens ≡ None) × IsSyntaxFault list place
Parses list (Err Memory) = Unit {0}

-- the tokens are this one class text, or none, and that many of them are the longest front that begins one
abbrev pub IsWhole : List Token → Result ClassTree PartError → Type 0
IsWhole tokens (Ok tree) = OnlyText tokens (class_view tree)
IsWhole tokens (Err (error.At p)) = LongestFront TextPart tokens (drop p tokens)
IsWhole tokens (Err error.Memory) = Unit {0}
