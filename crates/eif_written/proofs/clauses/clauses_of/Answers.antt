use Rattle.std.proofs.Common.{◌≡◌, true, false, length, map, sym, ap, ap₂, ◌∙◌}
use Rattle.std.specs.Prelude.{◌==◌}
use Rattle.std.specs.Str.{bytes_eq}
use Rattle.eif_tree.specs.View.{parent_view}
use Rattle.eif_written.proofs.WrittenClauses.{any_without, none_left, other_without, written_clauses}
use Rattle.eif_written.proofs.clauses.clauses_of.Goals as goal

pub returns-then-not-is_empty : goal.returns-then-not-is_empty
returns-then-not-is_empty c =
    let tree = c.args.class.now in
    let some : (length tree.parents.items == 0) ≡ false = cc in
    ap (map parent_view) c.deref.ensures.value ∙ written_clauses tree tree.parents.items (λ i. tree.parents.items) some

pub returns-then-eq : goal.returns-then-eq
returns-then-eq c =
    let tree = c.args.class.now in
    let none : (length tree.parents.items == 0) ≡ true = cc in
    any_without tree (none_left tree.parents.items none)
    (ap₂ bytes_eq (sym c.text.ensures) (sym c.as_slice.ensures) ∙ (sym c.eq.ensures ∙ c.if-eq.true))

pub returns-else-eq : goal.returns-else-eq
returns-else-eq c =
    let tree = c.args.class.now in
    let none : (length tree.parents.items == 0) ≡ true = cc in
    c.requires
    ∙ other_without tree (none_left tree.parents.items none)
    (ap₂ bytes_eq (sym c.text.ensures) (sym c.as_slice.ensures) ∙ (sym c.eq.ensures ∙ c.if-eq.false))
