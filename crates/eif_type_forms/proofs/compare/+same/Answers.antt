use Rattle.std.proofs.Common.{sym}
use Rattle.eif_type_forms.proofs.Views.{same_length}
use Rattle.eif_type_forms.proofs.compare.+same.Goals as goal

pub same_types-returns-then-ones-twos : goal.same_types-returns-then-ones-twos
same_types-returns-then-ones-twos t c = sym (same_length c.args.ones.now c.args.twos.now c.if-ones-twos.true)
