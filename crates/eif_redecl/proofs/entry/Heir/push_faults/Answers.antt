use Rattle.std.proofs.lemmas.Result.{on_ok_weaker}
use Rattle.eif_redecl.proofs.HeirLaws.{line_is}
use Rattle.eif_redecl.proofs.NameLaws.{phase_is}
use Rattle.eif_signatures.specs.DerivedSystems.{classes_in}
use Rattle.eif_system.specs.Lineage.{line_of}
use Rattle.eif_tree.specs.View.{class_view}
use Rattle.eif_redecl.proofs.entry.Heir.push_faults.Goals as goal

pub returns : goal.returns
returns c =
    let h = c.args.self.now in
    let u = classes_in h.system in
    let d = h.class_id.0 in
    on_ok_weaker c.push_root_procedure.result
    (λ procedure. phase_is u d (class_view h.class.now) c.args.root.now (line_of u d) (line_is h c.requires.heir)
    c.args.out.now c.push_names.new.out c.push_creators.new.out c.push_root_procedure.new.out
    (c.in_ok-push_names.ensures c.in_ok-groups.ensures) c.in_ok-push_creators.ensures procedure)
    c.push_root_procedure.ensures
