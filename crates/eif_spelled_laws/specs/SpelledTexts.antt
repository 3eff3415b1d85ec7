-- The trees of class texts are as the grammar has them, and so are those of the kernel's classes.
use Rattle.std.specs.Prelude.{◌≡◌, ℕ, List, [], Ok}
use Rattle.eif_tree.specs.Tree.{ClassT}
use Rattle.eif_grammar.specs.Tokens.{Token, tokens_of}
use Rattle.eif_grammar.specs.SpelledClasses.{spells_class}
use Rattle.eif_spelled_trees.specs.SpelledTrees.{IsSpelledClass, AreSpelled}
use Rattle.eif_system.specs.Kernel.{kernel}

abbrev pub ClassTextsAreSpelled : Type 0
ClassTextsAreSpelled =
    (file : ℕ) (text : List ℕ) (tokens : List Token) (c : ClassT) → tokens_of file text ≡ Ok tokens
    → spells_class c tokens [] → IsSpelledClass c

abbrev pub KernelIsSpelled : Type 0
KernelIsSpelled = AreSpelled kernel
