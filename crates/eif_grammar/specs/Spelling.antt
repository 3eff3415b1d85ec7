-- How tokens spell something: a spelling relates the tokens from some place on to those that follow what is spelled.
use Rattle.std.specs.Prelude.{◌≡◌, ◌≢◌, ℕ, ◌⊎◌, List, [], ◌∷◌}
use Rattle.std.specs.Str.{str_to_ascii_lowercase}
use Rattle.eif_base.specs.declared.Place.{Place}
use Rattle.eif_tree.specs.declared.NameAt.{NameAt}
use Rattle.eif_grammar.specs.declared.terminal.Terminal.{Terminal}
use Rattle.eif_grammar.specs.declared.terminal.Terminal.TheVariants as t
use Rattle.eif_grammar.specs.Tokens.{Token}

abbrev pub Spelling : Type 1
Spelling = List Token → List Token → Type 0

-- the terminal of the next token
abbrev pub head : List Token → Terminal
head [] = t.EndOfText
head (token ∷ tokens) = token.terminal

-- one after the other
infixr 5 ◌⨟◌
abbrev pub ◌⨟◌ : Spelling → Spelling → Spelling
(a ⨟ b) tokens rest = (mid : List Token) × a tokens mid × b mid rest

-- either of two
infixr 4 ◌or◌
abbrev pub ◌or◌ : Spelling → Spelling → Spelling
(a or b) tokens rest = a tokens rest ⊎ b tokens rest

-- no token, where the fact holds
abbrev pub given : Type 0 → Spelling
given p tokens rest = p × (tokens ≡ rest)

-- no token
abbrev pub nothing : Spelling
nothing tokens rest = tokens ≡ rest

-- no token, and what follows begins so
abbrev pub before : (Terminal → Type 0) → Spelling
before p tokens rest = p (head tokens) × (tokens ≡ rest)

abbrev pub never : Spelling
never tokens rest = ⊥

-- one token
abbrev pub one : (Token → Type 0) → Spelling
one p [] rest = ⊥
one p (token ∷ tokens) rest = p token × (tokens ≡ rest)

-- one token with that terminal
abbrev pub the : Terminal → Spelling
the x = one (λ token. token.terminal ≡ x)

-- the same, at that place
abbrev pub the_at : Terminal → Place → Spelling
the_at x p = one (λ token. (token.terminal ≡ x) × (token.place ≡ p))

-- an identifier, at that place and with that name
abbrev pub name_at : Place → List ℕ → Spelling
name_at p n = one (λ token. (token.terminal ≡ t.Identifier) × (token.place ≡ p) × (str_to_ascii_lowercase token.text ≡ n))

abbrev pub the_name : NameAt → Spelling
the_name n = name_at n.place n.name

-- the token, or nothing where what follows isn't it
abbrev pub maybe : Terminal → Spelling
maybe x = the x or before (λ y. y ≢ x)

-- All `;` that stand there: none, or many.
abbrev pub semicolons : Spelling
semicolons [] rest = [] ≡ rest
semicolons (token ∷ tokens) rest =
    ((token.terminal ≡ t.Semicolon) × semicolons tokens rest) ⊎ ((token.terminal ≢ t.Semicolon) × (token ∷ tokens ≡ rest))

-- names with commas between
abbrev pub more_names : List NameAt → Spelling
more_names [] = before (λ x. x ≢ t.Comma)
more_names (n ∷ ns) = the t.Comma ⨟ the_name n ⨟ more_names ns

abbrev pub names : List NameAt → Spelling
names [] = never
names (n ∷ ns) = the_name n ⨟ more_names ns
