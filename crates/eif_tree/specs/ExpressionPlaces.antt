-- The place of an expression is that of its first token.
use Rattle.eif_base.specs.declared.Place.{Place}
use Rattle.eif_tree.specs.Tree.{Ex, literal, void_value, current_value, result_value, unqualified, precursor, qualified, creation, test, paren, unary, binary}

abbrev pub place_of : Ex → Place
place_of (literal p x) = p
place_of (void_value p) = p
place_of (current_value p) = p
place_of (result_value p) = p
place_of (unqualified p n args) = p
place_of (precursor p n args) = p
place_of (qualified p t n args) = p
place_of (creation p t n args) = p
place_of (test p t l e) = p
place_of (paren p e) = p
place_of (unary p o e) = p
place_of (binary p o q l r) = p
