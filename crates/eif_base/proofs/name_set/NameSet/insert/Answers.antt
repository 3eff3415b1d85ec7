use Rattle.std.proofs.Common.{ap, ◌∙◌}
use Rattle.eif_base.specs.Numbering.{is_among}
use Rattle.eif_base.proofs.Keys.{with_key}
use Rattle.eif_base.proofs.Numbered.{test_with_text}
use Rattle.eif_base.proofs.name_set.NameSet.insert.Goals as goal

pub returns-clause-names : goal.returns-clause-names
returns-clause-names c =
    with_key c.args.self.now c.args.name.now c.self.inside.names.keys c.insert.new.self.keys c.in_ok-copy.copy
    c.self.view_is (c.in_ok-copy.ensures.items ∙ c.text.ensures) c.in_ok-insert.ensures.keys

pub returns-clause-has : goal.returns-clause-has
returns-clause-has c n =
    ap (λ ts. is_among ts n) (returns-clause-names c) ∙ test_with_text c.args.self.now c.args.name.now n
