use Rattle.std.proofs.Common.{◌++◌, flat_map, sym, ap, ◌∙◌, arith}
use Rattle.std.proofs.lemmas.List.{length-map}
use Rattle.eif_classes.specs.Types.{formals_from}
use Rattle.eif_derivations.specs.ListNumbers.{lists_of}
use Rattle.eif_derivations.proofs.DerivationLists.{clauses_still}
use Rattle.eif_derivations.proofs.RowsInTurn.{faults_are, faults_to, row_is}
use Rattle.eif_derivations.proofs.Systems.{above_is_other, above_within, few_in_tree}
use Rattle.eif_rows.specs.Numbers.{class_numbers}
use Rattle.eif_tree.specs.View.{class_view, formal_view}
use Rattle.eif_type_forms.specs.View.{actuals_view}
use Rattle.eif_universe.specs.Universes.{classes_of}
use Rattle.eif_derivations.proofs.row_of_class.row_of_class.Goals as goal

pub overflow_cast-len : goal.overflow_cast-len
overflow_cast-len c =
    let tree = c.tree-class.result.now in
    let few = few_in_tree (classes_of c.args.u.now) c.requires.system c.args.class_id.0 tree c.tree-class.ensures in
    omega (arith, tree.formals.ok.0, c.len.ensures)

pub push_derivations-requires : goal.push_derivations-requires
push_derivations-requires c =
    let u = classes_of c.args.u.now in
    let s = c.requires.system in
    let d = c.args.class_id.0 in
    let class = class_view c.tree-class.result.now in
    let at = c.tree-class.ensures in
    let are = c.requires.clauses class at in
    above_within u s d class at (class_numbers c.deref.result.now)
    (ap class_numbers c.deref.ensures.value ∙ c.in_ok-above.ensures u (lists_of c.args.lists.now) d class s at are)

pub returns-clause-row : goal.returns-clause-row
returns-clause-row c =
    let u = classes_of c.args.u.now in
    let s = c.requires.system in
    let d = c.args.class_id.0 in
    let tree = c.tree-class.result.now in
    let class = class_view tree in
    let at = c.tree-class.ensures in
    let start = lists_of c.args.lists.now in
    let lists = lists_of c.intern.new.self in
    let more = lists_of c.push_derivations.new.lists in
    let are = c.requires.clauses class at in
    let ks = class_numbers c.deref.result.now in
    let above = ap class_numbers c.deref.ensures.value ∙ c.in_ok-above.ensures u start d class s at are in
    let count = c.len.ensures ∙ (tree.formals.ok.0 ∙ sym (length-map tree.formals.items formal_view)) in
    row_is u d class at lists more c.in_ok-ancestors.ensures.kept
    record { own = c.in_ok-own.own; ancestors = c.in_ok-ancestors.ancestors }
    (actuals_view c.in_ok-formals.formals.items) c.in_ok-own.ensures.id
    (c.in_ok-formals.ensures ∙ ap (formals_from 0) count) ks above
    (c.in_ok-ancestors.ensures.derivations d s
    (clauses_still start lists c.in_ok-own.ensures.kept u class c.args.clauses.now are) at
    (above_is_other u s d class at ks above))

pub returns-clause-faults : goal.returns-clause-faults
returns-clause-faults c =
    let u = classes_of c.args.u.now in
    let s = c.requires.system in
    let d = c.args.class_id.0 in
    let class = class_view c.tree-class.result.now in
    let at = c.tree-class.ensures in
    let start = lists_of c.args.lists.now in
    let lists = lists_of c.intern.new.self in
    let are = c.requires.clauses class at in
    let old = c.args.out.now in
    let above = ap class_numbers c.deref.ensures.value ∙ c.in_ok-above.ensures u start d class s at are in
    c.in_ok-ancestors.ensures.faults s
    (clauses_still start lists c.in_ok-own.ensures.kept u class c.args.clauses.now are)
    ∙ (ap (λ ks. old ++ flat_map (faults_to u class) ks) above ∙ ap (λ fs. old ++ fs) (sym (faults_are u s d class at)))
