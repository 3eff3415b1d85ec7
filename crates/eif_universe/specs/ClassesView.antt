-- What the rules are handed as plain data.
use Rattle.std.specs.Prelude.{List, map}
use Rattle.eif_tree.specs.Tree.{ClassT}
use Rattle.eif_tree.specs.View.{class_view}
use Rattle.eif_universe.specs.declared.classes.Classes.{Classes}

-- the universe
abbrev pub classes_view : Classes → List ClassT
classes_view c = map class_view c.trees.now
