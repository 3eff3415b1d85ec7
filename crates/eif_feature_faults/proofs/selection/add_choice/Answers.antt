use Rattle.std.proofs.Common.{◌≡◌, ap, sym, ◌∙◌}
use Rattle.std.specs.Prelude.{◌&&◌, ◌||◌}
use Rattle.eif_base.specs.Numbering.{is_among}
use Rattle.eif_feature_faults.proofs.Selecting.{one_name}
use Rattle.eif_feature_faults.proofs.selection.add_choice.Goals as goal

pub returns-then-are_one : goal.returns-then-are_one
returns-then-are_one c = λ ns named n.
    sym (ap (λ b. (b && is_among ns n) || is_among c.args.set.now n)
    (one_name c.args.names.now c.args.candidates.now ns named (sym c.are_one.ensures ∙ c.if-are_one.true)))
