use Rattle.std.proofs.Common.{sym, ap, ◌∙◌}
use Rattle.std.specs.Option.{option_map}
use Rattle.eif_base.specs.declared.class_id.ClassId.{ClassId}
use Rattle.eif_types.proofs.TypesIn.{denoted_within}
use Rattle.eif_types.specs.Writers.{class_of, universe_of}
use Rattle.eif_types.proofs.actual_faults.Writer.push_type_faults.Goals as goal

pub tree-requires : goal.tree-requires
tree-requires c =
    denoted_within (universe_of c.args.self.now) (class_of c.args.self.now) _ c.in-Some.base.0
    (sym c.class_denoted.ensures ∙ ap (option_map (λ (k : ClassId). k.0)) c.in-Some.is)
