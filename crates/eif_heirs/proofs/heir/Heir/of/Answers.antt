use Rattle.std.proofs.Common.{◌≡◌, length, ◌∙◌, arith}
use Rattle.eif_heirs.specs.Numbered.{declared_texts}
use Rattle.eif_heirs.proofs.Collecting.{below-from_names}
use Rattle.eif_heirs.proofs.Made.{finals_below, heir_made}
use Rattle.eif_heirs.proofs.heir.Heir.of.Goals as goal

pub name_sources-requires-clause-declared : goal.name_sources-requires-clause-declared
name_sources-requires-clause-declared c =
    let named = rw (c.deref-3.ensures.value, c.deref-4.ensures.value) at c.in_ok-numbers.ensures in
    let below = below-from_names c.in_ok-names.names.items c.in_ok-numbers.numbers.items
    (declared_texts c.in_ok-declared.declared.items) named in
    let count : c.len.result ≡ length c.in_ok-names.names.items =
    omega (arith, c.len.ensures, c.in_ok-names.names.ok.0) in
    rw (c.deref-7.ensures.value, count) below

pub name_sources-requires-clause-finals : goal.name_sources-requires-clause-finals
name_sources-requires-clause-finals c =
    let named = rw (c.deref-5.ensures.value, c.deref-6.ensures.value) at c.in_ok-finals.ensures in
    let below = finals_below c.in_ok-names.names.items c.in_ok-finals.finals.items c.args.clauses.items named in
    let count : c.len.result ≡ length c.in_ok-names.names.items =
    omega (arith, c.len.ensures, c.in_ok-names.names.ok.0) in
    rw (c.deref-8.ensures.value, count) below

pub returns-clause-heir : goal.returns-clause-heir
returns-clause-heir c = λ u system at clauses.
    let count : c.len.result ≡ length c.in_ok-names.names.items =
    omega (arith, c.len.ensures, c.in_ok-names.names.ok.0) in
    heir_made u system _ at c.in_ok-numbers.numbers.items (record {
      clauses_are = clauses;
      declared_are = c.in_ok-declared.ensures;
      names_are = rw (c.deref.ensures.value, c.deref-2.ensures.value) at c.in_ok-names.ensures.names;
      few = c.in_ok-names.ensures.few;
      numbers_are = rw (c.deref-3.ensures.value, c.deref-4.ensures.value) at c.in_ok-numbers.ensures;
      finals_are = rw (c.deref-5.ensures.value, c.deref-6.ensures.value) at c.in_ok-finals.ensures;
      long = c.in_ok-sources.ensures.count ∙ count;
      declared_under_are = rw (c.deref-7.ensures.value, count) at c.in_ok-sources.ensures.declared;
      collected_are = rw c.deref-8.ensures.value at c.in_ok-sources.ensures.entries;
    })
