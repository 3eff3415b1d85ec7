use Rattle.std.proofs.Common.{◌≡◌, ℕ, List, map, take, arith}
use Rattle.eif_adapt.proofs.Listed.{among_more}
use Rattle.eif_adapt.proofs.OneOn.{one_on, at_end}
use Rattle.eif_adapt.specs.declared.adapted.AdaptedEntry.{AdaptedEntry}
use Rattle.eif_base.specs.Numbering.{is_among}
use Rattle.eif_heirs.proofs.redefines.final_names.Goals as goal

pub entries-preserved : goal.entries-preserved
entries-preserved c =
    let final : AdaptedEntry → List ℕ = λ e. e.final_name in
    let entries = c.args.entries.now in
    let i = c.entries.entry-index in
    let x = c.entry-item.result in
    one_on (λ (es : List AdaptedEntry). (n : List ℕ) → is_among c.insert.new.self n ≡ is_among (map final es) n)
    entries i x c.entries-test.true c.entry-item.is
    (among_more final c.entries.set c.insert.new.self (take i entries) x c.in_ok-insert.ensures.has c.entries.invariant)

pub returns : goal.returns
returns c =
    at_end (λ (es : List AdaptedEntry). (n : List ℕ)
    → is_among c.entries.set n ≡ is_among (map (λ (e : AdaptedEntry). e.final_name) es) n)
    c.args.entries.now c.entries.entry-index (omega arith) c.entries.invariant
