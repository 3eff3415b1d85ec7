use Rattle.std.proofs.Common.{◌∙◌, ap, ◌++◌, ltb}
use Rattle.eif_base.specs.declared.limits.TheConstants.{MOST_ANCESTORS}
use Rattle.eif_rules.specs.FaultForms.{fault_where}
use Rattle.eif_tree.specs.View.{class_view}
use Rattle.eif_universe.specs.ClassesView.{classes_view}
use Rattle.eif_universe.proofs.ManyAncestors.{adds_many}
use Rattle.eif_universe.proofs.inheritance.push_many_ancestors.Goals as goal

pub returns : goal.returns
returns c = adds_many (classes_view c.args.classes.now) c.args.d (class_view c.args.class.now) c.args.ancestors.now
    c.index-ancestors-d.result c.count.result c.args.out.now c.push_where.new.out c.requires.rows c.requires.class
    c.index-ancestors-d.is c.count.ensures
    (c.in_ok-push_where.ensures
    ∙ ap (λ f. c.args.out.now ++ fault_where (ltb MOST_ANCESTORS c.count.result) f) c.of.ensures)
