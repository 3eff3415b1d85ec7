-- Readers: what a parser looks at and takes, token by token, and which goals it calls.
use Rattle.std.specs.Prelude.{Bool}
use Rattle.std.specs.Str.{str_to_ascii_lowercase}
use Rattle.eif_tree.specs.declared.NameAt.{NameAt}
use Rattle.eif_grammar.specs.declared.terminal.Terminal.{Terminal}
use Rattle.eif_grammar.specs.Tokens.{Token}
use Rattle.eif_grammar.specs.Is.{is}
use Rattle.eif_grammar.specs.Goals.{Goal, Found, token}

pub data Reader (A : Type 0) : Type 0 where
  done : A → Reader A
  -- refuses the next token
  refuse : Reader A
  -- by the terminal of the next token, or `EndOfText`
  look : (Terminal → Reader A) → Reader A
  -- takes the next token
  next : (Token → Reader A) → Reader A
  call : (g : Goal) → (Found g → Reader A) → Reader A
  -- refuses the next token where the test is false
  guard : Bool → Reader A → Reader A
  fork : Bool → Reader A → Reader A → Reader A

-- the first where the next token is of that terminal, else the second
abbrev pub on : {A : Type 0} → Terminal → Reader A → Reader A → Reader A
on x found other = look (λ y. fork (is x y) found other)

-- takes a token of that terminal, and goes on
abbrev pub expect : {A : Type 0} → Terminal → Reader A → Reader A
expect x r = call (token x) (λ _. r)

-- the name that an identifier is, where it stands
abbrev pub name_of : Token → NameAt
name_of n = record { place = n.place; name = str_to_ascii_lowercase n.text }
