use Rattle.eif_feature_rules.specs.JoinRules.{signed_name}
use Rattle.eif_signatures.specs.DerivedSystems.{classes_in}
use Rattle.eif_system.specs.Lineage.{line_of}
use Rattle.eif_tables.proofs.Held.{name_at}
use Rattle.eif_redecl.proofs.entry.Heir.push_inherited_name.Goals as goal

pub returns : goal.returns
returns c = λ x at name are.
    let h = c.args.self.now in
    let u = classes_in h.system in
    let l = line_of u h.class_id.0 in
    c.push_join_faults.ensures u (signed_name u l x) c.requires.heir.system.types_are.are
    (record {
      named = name;
      version = c.is_effective.ensures x at;
      signed = c.in_ok-signature.ensures x.name (name_at l c.args.feat.0 x at);
      seen_are = are;
    })
