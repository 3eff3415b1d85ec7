use Rattle.std.proofs.Common.{refl}
use Rattle.eif_type_forms.proofs.Views.{formals_push}
use Rattle.eif_type_forms.proofs.ty.own_formals.Goals as goal

pub formals-preserved : goal.formals-preserved
formals-preserved c =
    formals_push c.formals.formals.items c.push.new.self.items _ c.formals.index c.in_ok-push.ensures.items refl
    c.formals.invariant
