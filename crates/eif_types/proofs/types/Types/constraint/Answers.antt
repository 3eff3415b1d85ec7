use denote.Ref.{Bor}
use Rattle.std.proofs.Common.{List, map, sym, ap, ◌∙◌}
use Rattle.std.specs.Option.{option_map}
use Rattle.eif_type_forms.specs.View.{ty_view}
use Rattle.eif_type_forms.specs.declared.ty.Ty.{Ty}
use Rattle.eif_types.proofs.TypesIn.{at_place, constraint_at, listed}
use Rattle.eif_types.proofs.types.Types.constraint.Goals as goal

pub returns-in-Some : goal.returns-in-Some
returns-in-Some c = λ u are.
    let lists = sym (ap (option_map (λ (ts : Bor (List Ty)). map ty_view ts.now)) c.in-Some.is)
    ∙ (c.constraints.ensures ∙ listed u c.args.self.now are c.args.c.0) in
    c.type_in.ensures
    ∙ (ap (λ o. at_place o c.args.index) lists ∙ constraint_at u c.args.c.0 c.args.index)

pub returns-in-None : goal.returns-in-None
returns-in-None c = λ u are.
    let lists = sym (ap (option_map (λ (ts : Bor (List Ty)). map ty_view ts.now)) c.in-None.is)
    ∙ (c.constraints.ensures ∙ listed u c.args.self.now are c.args.c.0) in
    ap (λ o. at_place o c.args.index) lists ∙ constraint_at u c.args.c.0 c.args.index
