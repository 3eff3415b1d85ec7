use Rattle.std.proofs.Common.{◌≡◌, ◌++◌, List, [], ◌∷◌, get_or, length, take, Some, ap, ap₂, refl, subst, sym, ◌∙◌}
use Rattle.std.proofs.Common.{false}
use Rattle.std.proofs.lemmas.List.{take_more}
use Rattle.std.proofs.lemmas.Option.{slice_get_read}
use Rattle.eif_base.specs.Numbering.{is_among, with_text}
use Rattle.eif_tables.proofs.Seen.{none_before, with_new}
use Rattle.eif_tables.proofs.numbering.numbered.Goals as goal

pub names-preserved : goal.names-preserved
names-preserved c =
    let names = c.args.names.now in
    let i = c.names.name-index in
    let name = c.name-item.result in
    let at = slice_get_read names (length names) i name refl c.names-test.true c.name-item.is in
    let absent = none_before names c.requires.once i name at in
    c.in_ok-intern.ensures.texts
    ∙ (ap₂ with_text c.names.invariant c.text.ensures
    ∙ (with_new (take i names) name absent
    ∙ sym (take_more names i name c.names-test.true ∙ ap (λ n. take i names ++ n ∷ []) (sym c.name-item.is))))
