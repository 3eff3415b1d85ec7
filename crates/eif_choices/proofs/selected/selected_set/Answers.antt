use Rattle.std.proofs.Common.{ap, ◌∙◌, sym, arith}
use Rattle.std.proofs.lemmas.List.{drop_all}
use Rattle.std.specs.Prelude.{◌||◌}
use Rattle.eif_base.specs.Numbering.{is_among}
use Rattle.eif_choices.specs.Picked.{clause_trees}
use Rattle.eif_classes.specs.Binding.{is_selected_in}
use Rattle.eif_tree.specs.Members.{has_name}
use Rattle.eif_choices.proofs.Selecting.{clause_more}
use Rattle.eif_choices.proofs.selected.selected_set.Goals as goal

pub clauses-preserved : goal.clauses-preserved
clauses-preserved c = λ n.
    clause_more c.args.clauses.now c.clauses.clause-index c.clause-item.result c.clauses-test.true c.clause-item.is n
    (is_among c.clauses.selected n) (is_among c.add_all.new.set n) _ (c.in_ok-add_all.ensures n
    ∙ ap (λ xs. has_name xs n || is_among c.clauses.selected n) c.deref.ensures.value)
    (c.clauses.invariant n)

pub returns : goal.returns
returns c = λ n.
    sym (ap (λ xs. is_selected_in (clause_trees xs) n || is_among c.clauses.selected n)
    (drop_all c.clauses.clause-index c.args.clauses.now (omega arith)))
    ∙ c.clauses.invariant n
