use Rattle.std.proofs.Common.{◌≡◌, ℕ, List, Bor, map, rules, ap, subst, sym, IfOk, ◌∙◌}
use Rattle.std.specs.Ordering.{is_lt}
use Rattle.std.specs.Str.{bytes_eq}
use Rattle.std.proofs.lemmas.Cmp.{nat_list_cmp_total}
use Rattle.std.proofs.lemmas.Fn.{always_returns_same, dedup_same}
use Rattle.std.proofs.lemmas.List.Sorted.{ranks_by}
use Rattle.eif_classes.specs.Names.{name_cmp, name_set}
use Rattle.eif_rows.proofs.NameSets.{same_test}
use Rattle.eif_rows.proofs.RisingLists.{name_order}
use Rattle.eif_rows.proofs.Sorting.{keys_in_order}
use Rattle.eif_rows.proofs.names.ordered_names.Goals as goal

pub returns-clause-names : goal.returns-clause-names
returns-clause-names c =
    let name = λ (n : Bor (List ℕ)). n.now in
    let up = c.sort_unstable_by.ensures.sorted (λ (m n : Bor (List ℕ)). is_lt (name_cmp m.now n.now))
    (ranks_by nat_list_cmp_total name)
    (always_returns_same _ (λ a r. is_lt r ≡ is_lt (name_cmp a.0.now.now a.1.0.now.now)) _ (λ a r f k. search rules)) in
    let once = dedup_same _ (λ (m n : Bor (List ℕ)). bytes_eq m.now n.now) _ (λ x y b f x' y' k. search rules)
    c.sort_unstable_by.new.self.items c.dedup_by.new.self.items c.dedup_by.ensures.filtered in
    let set : map name c.deref.result.now ≡ name_set (map name c.args.names.items) =
    ap (map name) (c.deref.ensures.value ∙ once)
    ∙ keys_in_order name name_order (λ m n. bytes_eq m.now n.now) (λ m n. sym (same_test m.now n.now))
    c.args.names.items c.sort_unstable_by.new.self.items c.sort_unstable_by.ensures.permutation up in
    subst (λ zs. IfOk c.copies.result (λ ns. ns.items ≡ zs)) set c.copies.ensures
