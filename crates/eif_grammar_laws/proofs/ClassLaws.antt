-- What the outcome on a class text says of trees.
use Rattle.std.proofs.Common.{◌≡◌, ◌≢◌, List, [], ◌∷◌, ◌++◌, inl, inr}
use Rattle.eif_tree.specs.Tree.{ClassT}
use Rattle.eif_grammar.specs.Tokens.{Token}
use Rattle.eif_grammar.specs.Goals.{class_text, class_goal}
use Rattle.eif_grammar.specs.Parts.{Text, Agree, OnlyPart, NoPart}
use Rattle.eif_grammar.specs.Outcomes.{got, refused, Calls}
use Rattle.eif_grammar_laws.specs.Laws.{ClassPart}
use Rattle.eif_grammar_laws.proofs.Readers.{one_outcome, same_reading}
use Rattle.eif_grammar_laws.proofs.OneReading.{only_part, no_part}
use Rattle.eif_grammar_laws.proofs.ClassComplete.{class_found}
use Rattle.eif_grammar_laws.proofs.ClassSound.{class_means, parts_found}

-- what is read is a class text
pub class_part : (tokens left : List Token) (c : ClassT) → Calls (class_goal class_text) tokens (got c left) → ClassPart tokens left c
class_part tokens left c read = class_means class_text tokens c left read

-- and every class text is read
pub class_reads : (c : ClassT) (tokens rest : List Token) → ClassPart tokens rest c → Calls (class_goal class_text) tokens (got c rest)
class_reads c tokens rest p = class_found parts_found c tokens rest p.0 p.1

-- ---- at most one

pub one_text : (tokens : List Token) (c d : ClassT) → Text tokens c → Text tokens d → c ≡ d
one_text tokens c d p q = let same = one_outcome (class_reads c tokens [] p) (class_reads d tokens [] q) in cc

pub only_class : (tokens left : List Token) (c : ClassT) → Calls (class_goal class_text) tokens (got c left) → OnlyPart ClassPart tokens left c
only_class tokens left c read = only_part (class_goal class_text) ClassPart class_reads tokens left c (class_part tokens left c read) read

-- ---- none

-- a refusal
pub no_class : (tokens left : List Token) → Calls (class_goal class_text) tokens (refused left) → NoPart ClassPart tokens left
no_class tokens left read = no_part (class_goal class_text) ClassPart class_reads tokens left read

pub no_text_where_refused : (tokens left : List Token) → Calls (class_goal class_text) tokens (refused left)
    → (other : List Token) (d : ClassT) → Agree tokens left other → Text other d → ⊥
no_text_where_refused tokens left read other d a p = no_class tokens left read other [] d a p

-- tokens behind a class text
pub no_text_where_left : (tokens left : List Token) (c : ClassT) → Calls (class_goal class_text) tokens (got c left) → left ≢ []
    → (other : List Token) (d : ClassT) → Agree tokens left other → Text other d → ⊥
no_text_where_left tokens left c read some other d (inl same) p =
    let one = one_outcome (class_reads d tokens [] (rw same at p)) read in
    let none : left ≡ [] = cc in some none
no_text_where_left tokens left c read some other d (inr (front, next, more, more', is_front, is_left, is_other)) p =
    let there = same_reading next more more' c front (rw (is_front, is_left) at read) in
    let one = one_outcome (class_reads d (front ++ next ∷ more') [] (rw is_other at p)) there in cc
