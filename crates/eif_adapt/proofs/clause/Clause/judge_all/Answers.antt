use Rattle.std.specs.List.{filter_map}
use Rattle.eif_tree.specs.Tree.{ExportT}
use Rattle.eif_tree.specs.View.{export_view}
use Rattle.eif_adapt.proofs.Judged.{all_judged, no_all_judged}
use Rattle.eif_adapt.proofs.clause.Clause.judge_all.Goals as goal

pub returns-in_ok-push_repeated_all-in-Some : goal.returns-in_ok-push_repeated_all-in-Some
returns-in_ok-push_repeated_all-in-Some c = λ old before h.
    all_judged c.args.self.now.class_name.now old before (export_view c.args.item.now) c.args.out.now
    c.push_repeated_all.new.out c.args.has_all c.in-Some.place c.in-Some.is
    (c.in_ok-push_repeated_all-in-Some.ensures (filter_map (λ (x : ExportT). x.all) before) h.has_all) h

pub returns-in-None : goal.returns-in-None
returns-in-None c = λ old before h.
    no_all_judged c.args.self.now.class_name.now old before (export_view c.args.item.now) c.args.out.now
    c.args.has_all c.in-None.is h
