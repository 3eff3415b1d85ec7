use Rattle.std.proofs.Common.{◌<◌, subst, rules}
use Rattle.eif_tables.proofs.Held.{class_is}
use Rattle.eif_tables.proofs.LookUps.{has_numbered_feature}
use Rattle.eif_universe.specs.Universes.{classes_of}
use Rattle.eif_tables.proofs.tests.look_ups.has_feature.Goals as goal

pub returns-then-has_class : goal.returns-then-has_class
returns-then-has_class c = λ below.
    let u = classes_of c.args.u.now in
    let t = c.args.t.now in
    let lt : c.args.f.0 < c.count.result = search rules in
    let within = class_is u t c.requires c.args.c (c.if-has_class.ensures (search rules)) in
    has_numbered_feature u t c.requires c.args.c c.args.f within
    (subst (λ n. c.args.f.0 < n) (c.count.ensures u c.requires) lt)
