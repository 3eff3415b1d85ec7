-- Whether a token is of one terminal.
use Rattle.std.specs.Prelude.{ℕ, Bool, ◌==◌}
use Rattle.eif_grammar.specs.declared.terminal.Terminal.{Terminal}
use Rattle.eif_grammar.specs.declared.terminal.Terminal.TheVariants as t

-- the place of a terminal among all
abbrev pub index : Terminal → ℕ
index t.Identifier = 0
index t.Integer = 1
index t.Real = 2
index t.Character = 3
index t.StringText = 4
index t.Verbatim = 5
index t.All = 6
index t.And = 7
index t.As = 8
index t.Attached = 9
index t.Check = 10
index t.Class = 11
index t.Create = 12
index t.Current = 13
index t.Deferred = 14
index t.Detachable = 15
index t.Do = 16
index t.Else = 17
index t.Elseif = 18
index t.End = 19
index t.Ensure = 20
index t.Export = 21
index t.False = 22
index t.Feature = 23
index t.From = 24
index t.If = 25
index t.Implies = 26
index t.Inherit = 27
index t.Invariant = 28
index t.Local = 29
index t.Loop = 30
index t.Not = 31
index t.Note = 32
index t.Obsolete = 33
index t.Or = 34
index t.Precursor = 35
index t.Redefine = 36
index t.Rename = 37
index t.Require = 38
index t.Result = 39
index t.Select = 40
index t.Then = 41
index t.True = 42
index t.Undefine = 43
index t.Until = 44
index t.Variant = 45
index t.Void = 46
index t.Xor = 47
index t.OpenParenthesis = 48
index t.CloseParenthesis = 49
index t.OpenBracket = 50
index t.CloseBracket = 51
index t.OpenBrace = 52
index t.CloseBrace = 53
index t.Comma = 54
index t.Semicolon = 55
index t.Colon = 56
index t.Dot = 57
index t.Assign = 58
index t.Equal = 59
index t.NotEqual = 60
index t.Less = 61
index t.Greater = 62
index t.LessEqual = 63
index t.GreaterEqual = 64
index t.Plus = 65
index t.Minus = 66
index t.Times = 67
index t.Divide = 68
index t.Modulo = 69
index t.Power = 70
index t.Question = 71
index t.Exclamation = 72
index t.Arrow = 73
index t.LeftOutWord = 74
index t.LeftOutSymbol = 75
index t.EndOfText = 76

abbrev pub is : Terminal → Terminal → Bool
is x y = index x == index y
