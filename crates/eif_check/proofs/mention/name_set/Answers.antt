use Rattle.std.proofs.Common.{◌≡◌, ℕ, ◌+◌, List, ◌∷◌, map, drop, get_or, sym, ap, ◌∙◌}
use Rattle.std.specs.Prelude.{◌||◌}
use Rattle.std.proofs.lemmas.List.{at_drop_more}
use Rattle.eif_base.specs.Numbering.{is_among}
use Rattle.eif_tree.specs.Members.{has_name}
use Rattle.eif_check.specs.Mentions.{name_at}
use Rattle.eif_check.specs.declared.mention.Mention.{Mention}
use Rattle.eif_check.proofs.NameSets.{set_on}
use Rattle.eif_check.proofs.mention.name_set.Goals as goal

pub names-preserved : goal.names-preserved
names-preserved c = λ n.
    let names = c.args.names.now in
    let i = c.names.mention-index in
    let x = c.mention-item.result in
    let rest = drop (i + 1) names in
    set_on c.names.set c.insert.new.self (name_at x) (map name_at rest) c.in_ok-insert.ensures.has n
    ∙ ap (λ (y : Mention). is_among c.names.set n || has_name (map name_at (y ∷ rest)) n) c.mention-item.is
    ∙ sym (at_drop_more (λ (ns : List Mention). is_among c.names.set n || has_name (map name_at ns) n) names i x
    c.names-test.true)
    ∙ c.names.invariant n
