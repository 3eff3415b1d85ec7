-- The digests of trees that examples have.
use Rattle.std.specs.Prelude.{ℕ}
use Rattle.eif_tree.specs.Tree.{ClassT}
use Rattle.eif_examples.specs.Digest.{digest}
use Rattle.eif_examples.specs.Numbers.{class_numbers, reads_all, reads_given}

-- of a tree with all of its places
abbrev pub exact : ClassT → ℕ
exact c = digest (class_numbers reads_all c)

-- of a tree some of whose places are left out, which then stand nowhere
abbrev pub sparse : ClassT → ℕ
sparse c = digest (class_numbers reads_given c)
