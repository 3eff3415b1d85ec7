use Rattle.std.proofs.Common.{ap, ◌∙◌, sym, arith}
use Rattle.std.proofs.lemmas.List.{drop_all}
use Rattle.std.specs.Prelude.{◌||◌}
use Rattle.eif_base.specs.Numbering.{is_among}
use Rattle.eif_tree.specs.Members.{has_name}
use Rattle.eif_choices.proofs.Selecting.{name_more}
use Rattle.eif_choices.proofs.selected.add_all.Goals as goal

pub names-preserved : goal.names-preserved
names-preserved c = λ n.
    name_more c.args.names.now c.names.name-index c.name-item.result c.names-test.true c.name-item.is n
    (is_among c.names.set n) (is_among c.insert.new.self n) _ (c.in_ok-insert.ensures.has n) (c.names.invariant n)

pub returns : goal.returns
returns c = λ n.
    sym (ap (λ xs. has_name xs n || is_among c.names.set n)
    (drop_all c.names.name-index c.args.names.now (omega arith)))
    ∙ c.names.invariant n
