use Rattle.std.proofs.Common.{List, [], ◌∷◌, map, take, sym, subst, arith}
use Rattle.std.proofs.lemmas.List.{map-append}
use Rattle.eif_adapt.specs.NamedItems.{IsNameSet}
use Rattle.eif_adapt.proofs.Listed.{name_set_more}
use Rattle.eif_adapt.proofs.OneOn.{one_on, at_end}
use Rattle.eif_heirs.specs.declared.declared.DeclaredName.{DeclaredName}
use Rattle.eif_tree.specs.declared.tree.NameAt.{NameAt}
use Rattle.eif_heirs.proofs.redefines.name_set.Goals as goal

pub names-preserved : goal.names-preserved
names-preserved c =
    let name : DeclaredName → NameAt = λ x. x.name.now in
    let names = c.args.names.now in
    let i = c.names.declared-index in
    let x = c.declared-item.result in
    one_on (λ (xs : List DeclaredName). IsNameSet c.insert.new.self (map name xs)) names i x
    c.names-test.true c.declared-item.is
    (subst (λ (ns : List NameAt). IsNameSet c.insert.new.self ns) (sym (map-append name (take i names) (x ∷ [])))
    (name_set_more c.names.set c.insert.new.self (map name (take i names)) (name x) c.in_ok-insert.ensures.has
    c.names.invariant))

pub returns : goal.returns
returns c =
    at_end (λ (xs : List DeclaredName). IsNameSet c.names.set (map (λ (x : DeclaredName). x.name.now) xs))
    c.args.names.now c.names.declared-index (omega arith) c.names.invariant
