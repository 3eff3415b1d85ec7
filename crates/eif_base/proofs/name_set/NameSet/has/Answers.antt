use Rattle.std.proofs.Common.{sym, ap, ◌∙◌}
use Rattle.std.specs.List.{list_any}
use Rattle.std.specs.Str.{bytes_eq}
use Rattle.eif_base.specs.Numbering.{is_among}
use Rattle.eif_base.proofs.Keys.{Key, test_is}
use Rattle.eif_base.proofs.name_set.NameSet.has.Goals as goal

pub returns : goal.returns
returns c =
    c.contains.ensures
    ∙ (ap (λ t. list_any (λ (k : Key). bytes_eq t k.items) c.self.inside.names.keys) c.text.ensures
    ∙ (sym (test_is c.args.name.now c.self.inside.names.keys) ∙ ap (λ ts. is_among ts c.args.name.now) c.self.view_is))
