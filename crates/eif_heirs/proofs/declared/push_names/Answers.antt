use Rattle.std.proofs.Common.{List, ◌++◌, map, take, refl, sym, ap, subst, arith}
use Rattle.std.proofs.lemmas.List.{append-nil}
use Rattle.eif_adapt.proofs.OneOn.{one_on, at_end}
use Rattle.eif_feature_rules.specs.RuleForms as rules
use Rattle.eif_heirs.specs.DeclaredNames.{IsDeclaredName}
use Rattle.eif_heirs.proofs.DeclaredInTurn.{named, name_more}
use Rattle.eif_rows.specs.Matched.{Match}
use Rattle.eif_tree.specs.View.{decl_view}
use Rattle.eif_tree.specs.declared.tree.NameAt.{NameAt}
use Rattle.eif_heirs.proofs.declared.push_names.Goals as goal

pub names-init : goal.names-init
names-init c = λ k before at h.
    subst (λ (ys : List rules.DeclaredName). Match (IsDeclaredName k) c.args.out.now.items ys) (sym (append-nil before)) h

pub names-preserved : goal.names-preserved
names-preserved c = λ k before at h.
    let x = decl_view c.args.tree.now in
    let names = c.deref-name-items.result.now in
    let i = c.names.name-index in
    let n = c.name-item.result in
    one_on (λ (ns : List NameAt). Match (IsDeclaredName k) c.push.new.self.items (before ++ map (named x) ns))
    names i n c.names-test.true c.name-item.is
    (name_more k x before (take i names) n c.names.out.items c.push.new.self.items _ c.in_ok-push.ensures.items
    (record { name_is = refl; tree_is = refl; place_is = at })
    (c.names.invariant k before at h))

pub returns : goal.returns
returns c = λ k before at h.
    let x = decl_view c.args.tree.now in
    let P : List NameAt → Type 0 = λ ns. Match (IsDeclaredName k) c.names.out.items (before ++ map (named x) ns) in
    subst P c.deref-name-items.ensures.value
    (at_end P c.deref-name-items.result.now c.names.name-index (omega arith) (c.names.invariant k before at h))
