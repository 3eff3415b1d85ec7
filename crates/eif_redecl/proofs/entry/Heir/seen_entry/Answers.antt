use Rattle.std.proofs.Common.{◌≡◌, List, sym, subst, ap, ◌∙◌}
use Rattle.std.specs.Prelude.{◌&&◌, not}
use Rattle.std.proofs.lemmas.Option.{same_Some}
use Rattle.eif_classes.specs.Entries.{entry, is_effective}
use Rattle.eif_classes.specs.Names.{is_undefined}
use Rattle.eif_classes.specs.Resolution.{clause_actuals}
use Rattle.eif_classes.specs.Signatures.{with_actuals}
use Rattle.eif_redecl.proofs.HeirLaws.{seen_here}
use Rattle.eif_redecl.proofs.SeenLaws.{seen_is}
use Rattle.eif_rows.specs.Versions.{IsDeclaration}
use Rattle.eif_signatures.proofs.Derived.{source_has}
use Rattle.eif_signatures.specs.DerivedSystems.{classes_in, declaration_id}
use Rattle.eif_signatures.specs.SignatureViews.{signature_view}
use Rattle.eif_tree.specs.View.{class_view, parent_view}
use Rattle.eif_redecl.proofs.entry.Heir.seen_entry.Goals as goal

pub signature_above-requires-clause-feature : goal.signature_above-requires-clause-feature
signature_above-requires-clause-feature c =
    let s = c.args.self.now.system in
    let is = c.requires.heir.system in
    source_has (classes_in s) s.tables.now s.types.now is c.args.parent c.args.feat c.requires.feature
    c.signature_source.result.0 c.signature_source.result.1
    (λ x at. c.signature_source.ensures (classes_in s) x is.tables_are at)

pub returns : goal.returns
returns c = λ x t at gives name.
    let h = c.args.self.now in
    let u = classes_in h.system in
    let p = parent_view c.args.clause.now.tree.now in
    let g = seen_here h c.requires.heir p c.args.parent c.requires.clause c.args.feat.0 x at t gives in
    let y = c.signature_source.ensures u x c.requires.heir.system.tables_are at in
    let same : g.declaration ≡ y.0 = same_Some g.declaration y.0 (sym g.source ∙ y.1) in
    let declared = subst (IsDeclaration u (declaration_id c.signature_source.result.0 c.signature_source.result.1))
    (sym same) y.2 in
    let above = c.in_ok-signature_above.ensures g.declaration declared g.above in
    seen_is p x c.is_field.result c.lasts.result (signature_view c.in_ok-signature_above.field-0)
    (with_actuals (clause_actuals u (class_view h.class.now) p) t) (c.is_field.ensures x at)
    (c.lasts.ensures x at ∙ ap (λ n. is_effective x.origin && not (is_undefined p n)) name) (above ∙ sym g.signed)
