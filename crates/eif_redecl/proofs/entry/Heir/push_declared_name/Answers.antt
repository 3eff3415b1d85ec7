use Rattle.std.proofs.Common.{ap, ◌∙◌}
use Rattle.std.proofs.lemmas.Option.{same_Some}
use Rattle.std.specs.Prelude.{find}
use Rattle.std.specs.Str.{bytes_eq}
use Rattle.eif_tree.specs.declared.tree.NameAt.{NameAt}
use Rattle.eif_redecl.proofs.HeirLaws.{few_formals}
use Rattle.eif_signatures.specs.DerivedSystems.{classes_in}
use Rattle.eif_tree.specs.View.{decl_view}
use Rattle.eif_redecl.proofs.entry.Heir.push_declared_name.Goals as goal

pub declared_signature-requires : goal.declared_signature-requires
declared_signature-requires c = few_formals c.args.self.now c.requires.heir

pub returns : goal.returns
returns c = λ n es found are.
    let h = c.args.self.now in
    let u = classes_in h.system in
    let same = same_Some c.in-Some.name.now n
    (c.in-Some.ensures
    ∙ (ap (find (λ (m : NameAt). bytes_eq m.name c.args.name.now)) c.deref.ensures.value ∙ found)) in
    c.push_redeclaration_faults.ensures u (record { name = n; tree = decl_view c.args.decl.now }) es
    c.requires.heir.system.types_are.are
    (record { name = same; attribute = c.is_attribute.ensures; written = c.in_ok-signature.ensures }) are
