use Rattle.std.proofs.Common.{◌≡◌, Bool, false, ◌+◌, List, ◌∷◌, map, drop, get_or, sym, ap, ◌∙◌}
use Rattle.std.specs.Prelude.{◌&&◌, not}
use Rattle.std.proofs.lemmas.List.{at_drop_more}
use Rattle.eif_base.specs.Numbering.{is_among}
use Rattle.eif_system_rules.specs.PlainClasses.{are_distinct}
use Rattle.eif_check.specs.Mentions.{name_at}
use Rattle.eif_check.specs.declared.mention.Mention.{Mention}
use Rattle.eif_check.proofs.NameSets.{none_among, distinct_on, not_distinct, distinct_at_first, not_true}
use Rattle.eif_check.proofs.plain.are_distinct.Goals as goal

pub names-init : goal.names-init
names-init c =
    ap (λ set. none_among set (map name_at c.args.names.now) && are_distinct (map name_at c.args.names.now)) c.new-earlier.ensures
    ∙ distinct_at_first (map name_at c.args.names.now)

pub names-preserved : goal.names-preserved
names-preserved c =
    let names = c.args.names.now in
    let i = c.names.mention-index in
    let x = c.mention-item.result in
    let rest = drop (i + 1) names in
    let old = c.names.earlier in
    let new : is_among old x.name.now ≡ false =
    not_true (is_among old x.name.now) (sym (c.in_ok-insert.ensures.new) ∙ c.if-not-branch.false) in
    distinct_on old c.insert.new.self (name_at x) (map name_at rest) c.in_ok-insert.ensures.has new
    ∙ ap (λ (y : Mention). none_among old (map name_at (y ∷ rest)) && are_distinct (map name_at (y ∷ rest)))
    c.mention-item.is
    ∙ sym (at_drop_more (λ (ns : List Mention). none_among old (map name_at ns) && are_distinct (map name_at ns))
    names i x c.names-test.true)
    ∙ c.names.invariant
