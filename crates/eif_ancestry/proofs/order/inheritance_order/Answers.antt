use Rattle.std.proofs.Common.{◌≡◌, ◌∙◌, sym, [], length, get_or, rules, arith}
use Rattle.std.specs.List.Sorted.{IsNonDecreasingBy}
use Rattle.std.proofs.lemmas.List.Sorted.{IsNonDecreasingBy-from_sort_by_key}
use Rattle.eif_ancestry.specs.Ancestries.{number_graph}
use Rattle.eif_ancestry.proofs.Climbing.{graph_length}
use Rattle.eif_ancestry.proofs.ByCount.{sorted_is_order}
use Rattle.eif_ancestry.proofs.order.inheritance_order.Goals as goal

pub returns : goal.returns
returns c =
    let vecs = c.args.graph.now in
    let rows = c.args.rows.now in
    let numbers = c.in_ok-order.ensures in
    let long : length (number_graph vecs) ≡ length vecs = graph_length vecs in
    let sorted : IsNonDecreasingBy (λ d. length (get_or rows d [])) c.sort_by_key.new.self.items =
    IsNonDecreasingBy-from_sort_by_key (λ d. length (get_or rows d [])) _
    c.in_ok-sort_by_key.ensures.sorted (λ a r q k. search rules) in
    sorted_is_order (number_graph vecs) rows c.requires.closed c.requires.cycle c.requires.rows
    c.in_ok-order.order.items c.sort_by_key.new.self.items
    (numbers.len ∙ sym long)
    (λ k h. numbers.each k (omega arith))
    c.in_ok-sort_by_key.ensures.permutation
    sorted
