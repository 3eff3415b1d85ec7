-- Marks over marks.
use Rattle.eif_tree.specs.declared.tree.Mark.{Mark}
use Rattle.eif_tree.specs.declared.tree.Mark.TheVariants.{Plain, Attached, Detachable}

-- the mark of a type with the second mark that gets the first one
abbrev pub mark_over : Mark → Mark → Mark
mark_over Plain own = own
mark_over Attached own = Attached
mark_over Detachable own = Detachable
