use Rattle.std.proofs.Common.{sym, ap, ◌++◌, ◌∷◌, []}
use Rattle.std.specs.Prelude.{if◌then◌else◌}
use Rattle.eif_base.proofs.Numbered.{stands}
use Rattle.eif_base.proofs.names.Names.intern.Goals as goal

pub returns-in-Some-clause-texts : goal.returns-in-Some-clause-texts
returns-in-Some-clause-texts c =
    let there = stands c.args.self.now c.args.text.now c.in-Some.id.0 c.in-Some.ensures.found in
    sym (ap (λ b. if b then c.args.self.now else c.args.self.now ++ c.args.text.now ∷ []) there)
