use Rattle.std.proofs.Common.{Bool, List, ◌++◌, map, sym, ap, ◌∙◌}
use Rattle.std.specs.List.{flat_map}
use Rattle.eif_base.specs.declared.fault.Fault.{Fault}
use Rattle.eif_classes.specs.Features.{is_attribute}
use Rattle.eif_classes.specs.Signatures.{Signature, declared_signature}
use Rattle.eif_redecl.proofs.ViewLaws.{each_beside}
use Rattle.eif_redecl.specs.EntryViews.{EntryView, entry_view, faults_beside}
use Rattle.eif_signatures.specs.SignatureViews.{signature_view}
use Rattle.eif_tree.specs.View.{class_view}
use Rattle.eif_tree.specs.declared.tree.NameAt.{NameAt}
use Rattle.eif_redecl.proofs.entry.Heir.push_redeclaration_faults.Goals as goal

pub returns : goal.returns
returns c = λ u x es types is seen_are.
    let d = c.args.self.now.class_id.0 in
    let class = class_view c.args.self.now.class.now in
    let n = c.args.declared.now in
    let views = map entry_view c.args.entries.now in
    let s = signature_view n.signature.now in
    let faults = λ (name : NameAt) (attribute : Bool) (s : Signature) (vs : List EntryView).
    flat_map (faults_beside u d class name attribute s) vs in
    let attribute = is_attribute x.tree.kind in
    let written = declared_signature u class x.tree in
    let same = ap (λ name. faults name n.is_attribute s views) is.name
    ∙ (ap (λ attribute. faults x.name attribute s views) is.attribute
    ∙ (ap (λ s. faults x.name attribute s views) is.written
    ∙ (ap (λ vs. faults x.name attribute written vs) seen_are ∙ sym (each_beside u d class x es)))) in
    c.in_ok-push_beside_each.ensures u types ∙ ap (λ (fs : List Fault). c.args.out.now ++ fs) same
