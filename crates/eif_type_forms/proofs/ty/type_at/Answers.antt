use Rattle.eif_type_forms.proofs.Views.{actual_at_view, actual_past}
use Rattle.eif_type_forms.proofs.ty.type_at.Goals as goal

pub returns-then-index-types-clause-some : goal.returns-then-index-types-clause-some
returns-then-index-types-clause-some c =
    actual_at_view c.args.types.now c.args.index c.index-types-index.result c.if-index-types.true c.index-types-index.is

pub returns-else-index-types-clause-none : goal.returns-else-index-types-clause-none
returns-else-index-types-clause-none c = actual_past c.args.types.now c.args.index c.if-index-types.false
