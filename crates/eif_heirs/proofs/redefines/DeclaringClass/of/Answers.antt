use Rattle.std.proofs.Common.{map, ap, ◌∙◌}
use Rattle.eif_heirs.proofs.DeclaredInTurn.{names_declared}
use Rattle.eif_heirs.specs.declared.declared.DeclaredName.{DeclaredName}
use Rattle.eif_tree.specs.Members.{has_name}
use Rattle.eif_tree.specs.View.{class_view}
use Rattle.eif_heirs.proofs.redefines.DeclaringClass.of.Goals as goal

pub invariant_of-result : goal.invariant_of-result
invariant_of-result c = record {
  declared_are = λ n.
      c.in_ok-name_set.ensures n
      ∙ (ap (λ xs. has_name (map (λ (x : DeclaredName). x.name.now) xs) n) c.deref.ensures.value
      ∙ ap (λ ns. has_name ns n)
      (names_declared (class_view c.args.tree.now) c.in_ok-names.names.items c.in_ok-names.ensures));
}
