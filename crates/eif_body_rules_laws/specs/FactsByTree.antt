-- The facts of a condition without the types of tests' locals are those that its tree alone tells.
use Rattle.std.specs.Prelude.{◌≡◌, ℕ, Bool, List, map}
use Rattle.eif_tree.specs.Tree.{Ex}
use Rattle.eif_body_rules.specs.ExpressionTypes.{facts}
use Rattle.eif_body_rules.specs.Facts.{Fact, attached, usable}
use Rattle.eif_body_rules.specs.PlainFacts as plain
use Rattle.eif_body_rules.specs.Settings.{Setting, is_testable}

-- without the type of the local
abbrev pub erased : Fact → plain.PlainFact
erased (attached x) = plain.attached x
erased (usable x t) = plain.usable_at x t.place

abbrev pub FactsByTree : Type 0
FactsByTree =
    (s : Setting) (k : List Fact) (n : List (List ℕ)) (b : Bool) (e : Ex)
    → map erased (facts s k n b e) ≡ plain.plain_facts (is_testable s) b e
