use Rattle.std.proofs.Common.{◌≡◌, List, ◌++◌, ap, sym, ◌∙◌}
use Rattle.std.proofs.lemmas.List.{append-nil}
use Rattle.eif_base.specs.declared.fault.Fault.{Fault}
use Rattle.eif_tree.specs.View.{class_view}
use Rattle.eif_feature_faults.proofs.Selecting.{one_name, none_undecided}
use Rattle.eif_feature_faults.proofs.selection.push_undecided.Goals as goal

pub returns-then-are_one : goal.returns-then-are_one
returns-then-are_one c = λ ns named.
    sym (ap (λ (fs : List Fault). c.args.out.now ++ fs) (none_undecided (class_view c.args.heir.now.tree.now) c.args.set.now ns
    (one_name c.args.heir.now.names.items c.args.candidates.now ns named (sym c.are_one.ensures ∙ c.if-are_one.true)))
    ∙ append-nil c.args.out.now)
