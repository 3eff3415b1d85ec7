use Rattle.std.proofs.Common.{◌≡◌, IfOk, ap, flat_map, map, subst, sym, ◌∙◌}
use Rattle.eif_base.specs.Numbering.{IsNumbering}
use Rattle.eif_rows.specs.declared.row.Row.{Row}
use Rattle.eif_tables.proofs.Entries.{name_set-numbered}
use Rattle.eif_tables.proofs.Seen.{same_set}
use Rattle.eif_tables.proofs.numbering.name_numbering.Goals as goal

pub numbered-requires-clause-once : goal.numbered-requires-clause-once
numbered-requires-clause-once c =
    subst IsNumbering (sym (c.deref.ensures.value ∙ c.in_ok-ordered.ensures.names))
    (name_set-numbered (map (λ n. n.now) c.in_ok-names.names.items))

pub returns : goal.returns
returns c =
    let set = c.deref.ensures.value ∙ (c.in_ok-ordered.ensures.names
    ∙ same_set (map (λ n. n.now) c.in_ok-names.names.items)
    (flat_map (λ (r : Row). r.names.items) c.args.rows.now) c.in_ok-names.ensures) in
    subst (λ ns. IfOk c.numbered.result (λ m. m ≡ ns)) set c.numbered.ensures
