use Rattle.std.proofs.Common.{◌≡◌, ◌<◌, false, length, sym, ◌∙◌, arith}
use Rattle.std.specs.Prelude.{nat_lt}
use Rattle.std.proofs.lemmas.Bool.Decides.{nat_tests}
use Rattle.eif_universe.specs.Universes.{classes_of}
use Rattle.eif_tables.proofs.Descents.{none_past, reaching_told}
use Rattle.eif_tables.proofs.tables.is_heir.Goals as goal

pub returns-then-client-class_count : goal.returns-then-client-class_count
returns-then-client-class_count c =
    reaching_told (classes_of c.args.u.now) c.requires.system c.args.class.0 c.args.client.0 c.is_descendant.result
    c.requires.class c.is_descendant.ensures

pub returns-else-client-class_count : goal.returns-else-client-class_count
returns-else-client-class_count c =
    let past = c.if-client-class_count.false in
    let no : nat_lt c.args.client.0 c.class_count.result ≡ false = grind (arith, nat_tests, past) in
    no ∙ sym (none_past (classes_of c.args.u.now) c.requires.system c.args.class.0 c.args.client.0
    (λ (lt : c.args.client.0 < length (classes_of c.args.u.now)). omega (arith, c.class_count.ensures, past)))
