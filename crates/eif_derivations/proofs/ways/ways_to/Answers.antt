use Rattle.std.proofs.Common.{◌+◌, length, refl, subst, sym}
use Rattle.std.proofs.lemmas.Option.{slice_get_read}
use Rattle.eif_derivations.specs.ListNumbers.{lists_of}
use Rattle.eif_derivations.specs.declared.ways.WayTo.{WayTo}
use Rattle.eif_derivations.proofs.ClausesInTurn.{AreWaysSoFar, all_ways, no_way_more, one_way_more}
use Rattle.eif_derivations.proofs.ways.ways_to.Goals as goal
use Rattle.eif_derivations.proofs.ways.ways_to.Goals.{in-Some+in_ok-push, in_default}

pub clauses-preserved : goal.clauses-preserved
clauses-preserved c =
    let lists = lists_of c.args.lists.now in
    let xs = c.args.clauses.now in
    let k = c.args.k.0 in
    let j = c.clauses.clause-index in
    let x = c.clause-item.result in
    let old = c.clauses.ways.items in
    let at = slice_get_read xs (length xs) j x refl c.clauses-test.true c.clause-item.is in
    elim c.match-given_by.branch [
      | in-Some+in_ok-push w ↦
          let way : WayTo = record { tree = x.tree; actuals = w.deref.result; given = w.list_of.result } in
          subst (λ ws. AreWaysSoFar lists xs k (j + 1) ws.items) (sym w.ways-is)
          (one_way_more lists xs k j x at old way w.push.new.self.items w.in-Some.id w.in_ok-push.ensures.items refl
          w.deref.ensures.value w.list_of.ensures w.in-Some.ensures.down w.in-Some.ensures.given c.clauses.invariant)
      | in_default w ↦
          subst (λ ws. AreWaysSoFar lists xs k (j + 1) ws.items) (sym w.ways-is)
          (no_way_more lists xs k j x at old w.in_default.ensures.none c.clauses.invariant)
    ]

pub returns : goal.returns
returns c =
    all_ways (lists_of c.args.lists.now) c.args.clauses.now c.args.k.0 c.clauses.clause-index c.clauses.ways.items
    c.clauses-test.false c.clauses.invariant
