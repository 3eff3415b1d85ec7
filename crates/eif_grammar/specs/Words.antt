-- The words and symbols of the language, and those that this project's profile leaves out.
use Rattle.std.specs.Prelude.{ℕ, List, [], ◌∷◌, codes}
use Rattle.eif_grammar.specs.declared.terminal.Terminal.{Terminal}
use Rattle.eif_grammar.specs.declared.terminal.Terminal.TheVariants as t

-- in lower case
abbrev pub words : List (List ℕ × Terminal)
words =
    (codes "all", t.All) ∷
    (codes "and", t.And) ∷
    (codes "as", t.As) ∷
    (codes "attached", t.Attached) ∷
    (codes "check", t.Check) ∷
    (codes "class", t.Class) ∷
    (codes "create", t.Create) ∷
    (codes "current", t.Current) ∷
    (codes "deferred", t.Deferred) ∷
    (codes "detachable", t.Detachable) ∷
    (codes "do", t.Do) ∷
    (codes "else", t.Else) ∷
    (codes "elseif", t.Elseif) ∷
    (codes "end", t.End) ∷
    (codes "ensure", t.Ensure) ∷
    (codes "export", t.Export) ∷
    (codes "false", t.False) ∷
    (codes "feature", t.Feature) ∷
    (codes "from", t.From) ∷
    (codes "if", t.If) ∷
    (codes "implies", t.Implies) ∷
    (codes "inherit", t.Inherit) ∷
    (codes "invariant", t.Invariant) ∷
    (codes "local", t.Local) ∷
    (codes "loop", t.Loop) ∷
    (codes "not", t.Not) ∷
    (codes "note", t.Note) ∷
    (codes "obsolete", t.Obsolete) ∷
    (codes "or", t.Or) ∷
    (codes "precursor", t.Precursor) ∷
    (codes "redefine", t.Redefine) ∷
    (codes "rename", t.Rename) ∷
    (codes "require", t.Require) ∷
    (codes "result", t.Result) ∷
    (codes "select", t.Select) ∷
    (codes "then", t.Then) ∷
    (codes "true", t.True) ∷
    (codes "undefine", t.Undefine) ∷
    (codes "until", t.Until) ∷
    (codes "variant", t.Variant) ∷
    (codes "void", t.Void) ∷
    (codes "xor", t.Xor) ∷
    (codes "across", t.LeftOutWord) ∷
    (codes "agent", t.LeftOutWord) ∷
    (codes "alias", t.LeftOutWord) ∷
    (codes "assign", t.LeftOutWord) ∷
    (codes "attribute", t.LeftOutWord) ∷
    (codes "convert", t.LeftOutWord) ∷
    (codes "debug", t.LeftOutWord) ∷
    (codes "expanded", t.LeftOutWord) ∷
    (codes "external", t.LeftOutWord) ∷
    (codes "frozen", t.LeftOutWord) ∷
    (codes "inspect", t.LeftOutWord) ∷
    (codes "like", t.LeftOutWord) ∷
    (codes "old", t.LeftOutWord) ∷
    (codes "once", t.LeftOutWord) ∷
    (codes "only", t.LeftOutWord) ∷
    (codes "rescue", t.LeftOutWord) ∷
    (codes "retry", t.LeftOutWord) ∷
    (codes "separate", t.LeftOutWord) ∷
    (codes "tuple", t.LeftOutWord) ∷
    (codes "when", t.LeftOutWord) ∷
    []

abbrev pub symbols : List (List ℕ × Terminal)
symbols =
    (codes "(", t.OpenParenthesis) ∷
    (codes ")", t.CloseParenthesis) ∷
    (codes "[", t.OpenBracket) ∷
    (codes "]", t.CloseBracket) ∷
    (codes "{", t.OpenBrace) ∷
    (codes "}", t.CloseBrace) ∷
    (codes ",", t.Comma) ∷
    (codes ";", t.Semicolon) ∷
    (codes ":", t.Colon) ∷
    (codes ".", t.Dot) ∷
    (codes ":=", t.Assign) ∷
    (codes "=", t.Equal) ∷
    (codes "/=", t.NotEqual) ∷
    (codes "<", t.Less) ∷
    (codes ">", t.Greater) ∷
    (codes "<=", t.LessEqual) ∷
    (codes ">=", t.GreaterEqual) ∷
    (codes "+", t.Plus) ∷
    (codes "-", t.Minus) ∷
    (codes "*", t.Times) ∷
    (codes "//", t.Divide) ∷
    (codes "\\\\", t.Modulo) ∷
    (codes "^", t.Power) ∷
    (codes "?", t.Question) ∷
    (codes "!", t.Exclamation) ∷
    (codes "->", t.Arrow) ∷
    (codes "/", t.LeftOutSymbol) ∷
    (codes "~", t.LeftOutSymbol) ∷
    (codes "/~", t.LeftOutSymbol) ∷
    (codes "<<", t.LeftOutSymbol) ∷
    (codes ">>", t.LeftOutSymbol) ∷
    (codes "..", t.LeftOutSymbol) ∷
    (codes "$", t.LeftOutSymbol) ∷
    (codes "@", t.LeftOutSymbol) ∷
    (codes "#", t.LeftOutSymbol) ∷
    (codes "&", t.LeftOutSymbol) ∷
    (codes "|", t.LeftOutSymbol) ∷
    []
