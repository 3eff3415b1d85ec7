-- Names that are lent.
use Rattle.std.specs.Prelude.{ℕ, List}
use denote.Ref.{Bor}
use Rattle.eif_base.specs.declared.name.Name.{Name}

abbrev pub lent_name : Bor Name → List ℕ
lent_name n = n.now
