use Rattle.std.proofs.Common.{ℕ, false, ap, sym, length, ◌∙◌}
use Rattle.std.specs.Prelude.{◌==◌}
use Rattle.std.specs.Option.{option_map_or}
use Rattle.eif_feature_faults.proofs.LiteralTypes.{bare_told, class_told, formal_told, is_literal, mark_told}
use Rattle.eif_feature_faults.proofs.constants.is_literal_type.Goals as goal
use Rattle.eif_system.specs.Universe.{class_number}
use Rattle.eif_tree.specs.declared.tree.TypeTree.{out-TypeTree}
use Rattle.eif_universe.specs.Universes.{classes_of}

pub returns-then-is_formal : goal.returns-then-is_formal
returns-then-is_formal c =
    let is = is_literal (classes_of c.args.u.now) c.args.class.now c.args.value.now c.args.type_tree.now in
    sym (is ∙ formal_told _ _ _ _ (sym c.is_formal.ensures ∙ c.if-is_formal.true))

pub returns-then-not-is_attached : goal.returns-then-not-is_attached
returns-then-not-is_attached c =
    let is = is_literal (classes_of c.args.u.now) c.args.class.now c.args.value.now c.args.type_tree.now in
    sym (is ∙ mark_told _ _ _ _ (sym c.is_formal.ensures ∙ c.if-is_formal.false)
    (sym c.is_attached.ensures ∙ c.if-not-is_attached.true))

pub returns-then-not-is_bare : goal.returns-then-not-is_bare
returns-then-not-is_bare c =
    let is = is_literal (classes_of c.args.u.now) c.args.class.now c.args.value.now c.args.type_tree.now in
    let bare = ap (λ ts. length ts == 0) (sym c.deref.ensures.value) ∙ (sym c.is_bare.ensures ∙ c.if-not-is_bare.true) in
    sym (is ∙ bare_told _ _ _ _ (sym c.is_formal.ensures ∙ c.if-is_formal.false)
    (sym c.is_attached.ensures ∙ c.if-not-is_attached.false) bare)

pub returns : goal.returns
returns c =
    let is = is_literal (classes_of c.args.u.now) c.args.class.now c.args.value.now c.args.type_tree.now in
    let bare = ap (λ ts. length ts == 0) (sym c.deref.ensures.value) ∙ (sym c.is_bare.ensures ∙ c.if-not-is_bare.false) in
    let named = class_number (classes_of c.args.u.now) (out-TypeTree c.args.type_tree.now).name in
    c.denotes.ensures
    ∙ (ap (λ (j : ℕ). option_map_or (λ k. k == j) named false) c.literal_class.ensures
    ∙ sym (is ∙ class_told _ _ _ _ (sym c.is_formal.ensures ∙ c.if-is_formal.false)
    (sym c.is_attached.ensures ∙ c.if-not-is_attached.false) bare))
