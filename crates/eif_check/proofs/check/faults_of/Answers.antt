use Rattle.std.proofs.Common.{◌≡◌, [], length, map, arith}
use Rattle.std.proofs.lemmas.List.{length-map}
use Rattle.std.proofs.lemmas.Result.{IfOk-weaker}
use Rattle.std.specs.Prelude.{IfOk}
use Rattle.eif_base.specs.FileLists.{NamedText, texts_of}
use Rattle.eif_tree.specs.View.{class_view}
use Rattle.eif_check.specs.Systems.{AreClasses}
use Rattle.eif_check.proofs.Phases.{classes_are, not_empty, system_has, text_faults_are, tree_count}
use Rattle.eif_check.proofs.check.faults_of.Goals as goal

pub returns-then-not-is_empty-clause-faults : goal.returns-then-not-is_empty-clause-faults
returns-then-not-is_empty-clause-faults g c =
    let parsed = c.in_ok-trees.field-0 in
    text_faults_are (texts_of c.args.files.now) parsed c.in_ok-trees.ensures c.args.root.now
    (not_empty c.is_empty.result parsed.faults c.is_empty.ensures.1 c.if-not-is_empty.true)

pub system_faults-requires-clause-few : goal.system_faults-requires-clause-few
system_faults-requires-clause-few g c κs within =
    let files = c.args.files.now in
    let count = tree_count (texts_of files) c.in_ok-trees.field-0 c.in_ok-trees.ensures
    (c.is_empty.ensures.0 c.if-not-is_empty.false) in
    omega (arith, length-map files (λ (f : NamedText). f.text))

pub returns-clause-faults : goal.returns-clause-faults
returns-clause-faults g c =
    let texts = texts_of c.args.files.now in
    let parsed = c.in_ok-trees.field-0 in
    let are : AreClasses texts (map class_view parsed.trees.items) =
    classes_are texts parsed c.in_ok-trees.ensures (c.is_empty.ensures.0 c.if-not-is_empty.false) in
    IfOk-weaker c.system_faults.result _ _
    (λ list has. system_has texts (map class_view parsed.trees.items) c.args.root.now list are has)
    c.system_faults.ensures

pub returns-clause-classes : goal.returns-clause-classes
returns-clause-classes g c =
    let texts = texts_of c.args.files.now in
    let parsed = c.in_ok-trees.field-0 in
    let are : AreClasses texts (map class_view parsed.trees.items) =
    classes_are texts parsed c.in_ok-trees.ensures (c.is_empty.ensures.0 c.if-not-is_empty.false) in
    IfOk-weaker c.system_faults.result _ _ (λ list has none. (map class_view parsed.trees.items, are))
    c.system_faults.ensures
