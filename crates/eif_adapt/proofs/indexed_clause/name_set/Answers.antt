use Rattle.std.proofs.Common.{List, take, arith}
use Rattle.eif_tree.specs.declared.tree.NameAt.{NameAt}
use Rattle.eif_adapt.specs.NamedItems.{IsNameSet}
use Rattle.eif_adapt.proofs.Listed.{name_set_more}
use Rattle.eif_adapt.proofs.OneOn.{one_on, at_end}
use Rattle.eif_adapt.proofs.indexed_clause.name_set.Goals as goal

pub names-preserved : goal.names-preserved
names-preserved c =
    let names = c.args.names.now in
    let i = c.names.name-index in
    let x = c.name-item.result in
    one_on (λ (ns : List NameAt). IsNameSet c.insert.new.self ns) names i x c.names-test.true c.name-item.is
    (name_set_more c.names.set c.insert.new.self (take i names) x c.in_ok-insert.ensures.has c.names.invariant)

pub returns : goal.returns
returns c =
    at_end (λ (ns : List NameAt). IsNameSet c.names.set ns) c.args.names.now c.names.name-index
    (omega arith) c.names.invariant
