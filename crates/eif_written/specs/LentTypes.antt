-- Written types, as the code lends them.
use Rattle.std.specs.Prelude.{ℕ, List, []}
use denote.Ref.{Bor}
use Rattle.eif_tree.specs.declared.tree.TypeTree.{TypeTree}
use Rattle.eif_tree.specs.Tree.{TypeT}
use Rattle.eif_tree.specs.View.{type_view}
use Rattle.eif_system.specs.WrittenTypes.{Written, written, invariant_name}
use Rattle.eif_written.specs.declared.written.Owner.{Owner}
use Rattle.eif_written.specs.declared.written.Owner.TheVariants as owner
use Rattle.eif_written.specs.declared.written.WrittenType.{WrittenType}

abbrev pub lent_type : Bor TypeTree → TypeT
lent_type t = type_view t.now

-- the name that faults are told of
abbrev pub owner_name : Owner → List ℕ
owner_name owner.Class = []
owner_name (owner.Feature n) = n.now
owner_name owner.Invariant = invariant_name

abbrev pub written_view : WrittenType → Written
written_view w = written (owner_name w.owner) (lent_type w.type_tree)
