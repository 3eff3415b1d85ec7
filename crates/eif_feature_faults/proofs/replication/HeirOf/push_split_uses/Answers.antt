use Rattle.std.proofs.Common.{◌≤◌, ◌++◌, length, map, Some, sym, ap, ◌∙◌, arith}
use Rattle.std.specs.Prelude.{flat_map}
use Rattle.std.specs.Option.{option_map}
use Rattle.std.proofs.lemmas.List.{length-map}
use Rattle.std.proofs.lemmas.Option.{slice_get-get_or, slice_get-map}
use Rattle.eif_feature_faults.proofs.InTurn.{added_all, added_more}
use Rattle.eif_feature_rules.specs.ReplicationRules.{split_use}
use Rattle.eif_system.specs.Lineage.{line_of}
use Rattle.eif_tree.specs.View.{class_view}
use Rattle.eif_used_names.specs.LentNames.{lent_name}
use Rattle.eif_feature_faults.proofs.replication.HeirOf.push_split_uses.Goals as goal

pub used-preserved : goal.used-preserved
used-preserved c = λ u d k s is.
    let names = c.deref-name-items.result.now in
    let i = c.used.name-index in
    let x = c.name-item.result in
    added_more (split_use (class_view c.args.self.now.tree.now) (line_of u d) k) c.args.out.now (map lent_name names) i
    x.now c.used.out c.push_split_use.new.out
    (slice_get-map lent_name names i
    ∙ ap (option_map lent_name) (slice_get-get_or names i x c.used-test.true ∙ ap Some (sym c.name-item.is)))
    (c.used.invariant u d k s is) (c.in_ok-push_split_use.ensures u d k s is)

pub returns : goal.returns
returns c = λ u d k s is.
    let names = c.deref-name-items.result.now in
    let f = split_use (class_view c.args.self.now.tree.now) (line_of u d) k in
    let past : length (map lent_name names) ≤ c.used.name-index = omega (arith, length-map names lent_name) in
    added_all f c.args.out.now (map lent_name names) c.used.name-index c.used.out past (c.used.invariant u d k s is)
    ∙ ap (λ ns. c.args.out.now ++ flat_map f ns)
    (ap (map lent_name) c.deref-name-items.ensures.value ∙ c.in_ok-used.ensures)
