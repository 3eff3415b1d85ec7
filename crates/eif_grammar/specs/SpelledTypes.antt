-- Which tokens spell a type.
--   Type       = ["?" | "!" | "detachable" | "attached"] Class_type
--   Class_type = Id ["[" Type {"," Type} "]"]
use Rattle.std.specs.Prelude.{◌≡◌, ◌≢◌}
use Rattle.eif_base.specs.declared.Place.{Place}
use Rattle.eif_tree.specs.declared.Mark.{Mark}
use Rattle.eif_tree.specs.declared.Mark.TheVariants.{Plain, Attached, Detachable}
use Rattle.eif_tree.specs.Tree.{TypeT, Types, type_at, no_types, and_type}
use Rattle.eif_grammar.specs.declared.terminal.Terminal.TheVariants as t
use Rattle.eif_grammar.specs.Spelling.{Spelling, ◌⨟◌, ◌or◌, given, before, the, the_at, name_at}

-- a mark at p before a name at q
abbrev pub spells_mark : Mark → Place → Place → Spelling
spells_mark Plain p q = given (p ≡ q)
spells_mark Attached p q = the_at t.Exclamation p or the_at t.Attached p
spells_mark Detachable p q = the_at t.Question p or the_at t.Detachable p

abbrev mutual
  pub spells_type : TypeT → Spelling
  spells_type (type_at p q m n ts) = spells_mark m p q ⨟ name_at q n ⨟ spells_actuals ts

  pub spells_actuals : Types → Spelling
  spells_actuals no_types = before (λ x. x ≢ t.OpenBracket)
  spells_actuals (and_type a ts) = the t.OpenBracket ⨟ spells_type a ⨟ spells_more_types ts ⨟ the t.CloseBracket

  pub spells_more_types : Types → Spelling
  spells_more_types no_types = before (λ x. x ≢ t.Comma)
  spells_more_types (and_type a ts) = the t.Comma ⨟ spells_type a ⨟ spells_more_types ts

-- a type without a mark
abbrev pub spells_class_type : TypeT → Spelling
spells_class_type (type_at p q m n ts) = given (m ≡ Plain) ⨟ spells_type (type_at p q m n ts)
