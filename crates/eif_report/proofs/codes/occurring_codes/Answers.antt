use Rattle.std.proofs.Common.{◌≡◌, reverse, map}
use Rattle.std.proofs.lemmas.Iterator.Adapters.{YieldsList-from_rev_slice}
use Rattle.std.proofs.lemmas.Iterator.Consumers.{YieldsList-end}
use Rattle.std.proofs.lemmas.List.{reverse-reverse}
use Rattle.eif_report.proofs.codes.occurring_codes.Goals as goal

pub returns : goal.returns
returns c =
    let list = c.args.list.now in
    let end = YieldsList-end (YieldsList-from_rev_slice list (cc)) c.faults.yielded c.faults.fault-iterator
    c.faults.yielded_by c.next.result c.next.new.self c.in-None.is c.next.ensures.steps in
    let all : map (λ f. f.now) c.faults.yielded ≡ reverse list = end.0 in
    rw (c.faults.invariant, all, reverse-reverse)
