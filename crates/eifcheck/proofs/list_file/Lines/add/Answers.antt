use Rattle.std.proofs.Common.{[], ◌∷◌, ◌++◌, map, arith, ap, sym, ◌∙◌}
use Rattle.std.proofs.lemmas.List.{append-nil, map_push}
use Rattle.eifcheck.proofs.ListLines.{name_line, fault_line}
use Rattle.eifcheck.proofs.list_file.Lines.add.Goals as goal

pub returns-in_ok-push-in-Ok-clause-faults : goal.returns-in_ok-push-in-Ok-clause-faults
returns-in_ok-push-in-Ok-clause-faults c =
    let one = name_line c.args.offset c.args.number c.args.line.now c.in-Ok.ensures.cases.1 (grind arith) in
    rw one.0 (sym (append-nil _))

pub returns-in_ok-push-in-Ok-clause-names : goal.returns-in_ok-push-in-Ok-clause-names
returns-in_ok-push-in-Ok-clause-names c =
    let old = c.args.self.now.names.items in
    let one = name_line c.args.offset c.args.number c.args.line.now c.in-Ok.ensures.cases.1 (grind arith) in
    rw (one.1, c.in_ok-push-in-Ok.ensures.items)
    (map_push (λ name. name.now) old c.in-Ok.name
    ∙ ap (λ name. map (λ name. name.now) old ++ name ∷ []) c.in-Ok.ensures.cases.0)

pub returns-in_ok-push-in-Err-clause-faults : goal.returns-in_ok-push-in-Err-clause-faults
returns-in_ok-push-in-Err-clause-faults c =
    let one = fault_line c.args.offset c.args.number c.args.line.now c.in-Err.ensures.cases.0 (grind arith) in
    rw one.0
    (c.in_ok-push-in-Err.ensures.ok
    ∙ ap (λ fault. c.args.self.now.faults ++ fault ∷ []) c.in_ok-bad_line-in-Err.ensures)

pub returns-in_ok-push-in-Err-clause-names : goal.returns-in_ok-push-in-Err-clause-names
returns-in_ok-push-in-Err-clause-names c =
    let one = fault_line c.args.offset c.args.number c.args.line.now c.in-Err.ensures.cases.0 (grind arith) in
    rw one.1 (sym (append-nil _))
