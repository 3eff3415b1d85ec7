use Rattle.eif_base.specs.FileLists.{names_of, texts_of}
use Rattle.eif_check.specs.Systems.{Broken}
use Rattle.eif_universe.proofs.Told.{none_has}
use Rattle.eif_check.proofs.Phases.{lists_all, lists_some, not_empty}
use Rattle.eif_check.proofs.check.check_system.Goals as goal

pub returns-then-is_empty : goal.returns-then-is_empty
returns-then-is_empty g c =
    let list = c.in_ok-faults.faults in
    let none = c.is_empty.ensures.0 c.if-is_empty.true in (
      c.count.ensures,
      none_has list (Broken (texts_of c.args.files.now) c.args.root.now) none c.in_ok-faults.ensures.faults,
      c.in_ok-faults.ensures.classes none,
    )

pub returns : goal.returns
returns g c =
    let names = names_of c.args.files.now in
    let broken = Broken (texts_of c.args.files.now) c.args.root.now in
    let old = c.in_ok-faults.faults in
    let new = c.sort_faults.new.list in
    let some = not_empty c.is_empty.result old c.is_empty.ensures.1 c.if-is_empty.false in (
      lists_some names old new some c.sort_faults.ensures,
      lists_all names old new broken c.in_ok-faults.ensures.faults c.sort_faults.ensures,
    )
