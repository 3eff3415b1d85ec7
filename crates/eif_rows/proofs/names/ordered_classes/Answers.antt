use Rattle.std.proofs.Common.{◌≡◌, rules, ap, sym, ◌∙◌}
use Rattle.std.specs.Prelude.{◌==◌}
use Rattle.std.specs.Ordering.{is_lt, nat_cmp}
use Rattle.std.proofs.lemmas.Cmp.{nat_cmp_total}
use Rattle.std.proofs.lemmas.Fn.{always_returns_same, dedup_same}
use Rattle.std.proofs.lemmas.List.Sorted.{ranks_by}
use Rattle.eif_base.specs.declared.class_id.ClassId.{ClassId}
use Rattle.eif_rows.specs.Numbers.{class_numbers}
use Rattle.eif_rows.proofs.NameSets.{same_number_test}
use Rattle.eif_rows.proofs.RisingLists.{number_order}
use Rattle.eif_rows.proofs.Sorting.{keys_in_order}
use Rattle.eif_rows.proofs.names.ordered_classes.Goals as goal

pub returns : goal.returns
returns c =
    let number = λ (k : ClassId). k.0 in
    let up = c.sort_unstable_by.ensures.sorted (λ (j k : ClassId). is_lt (nat_cmp j.0 k.0))
    (ranks_by nat_cmp_total number)
    (always_returns_same _ (λ a r. is_lt r ≡ is_lt (nat_cmp a.0.now.0 a.1.0.now.0)) _ (λ a r f k. search rules)) in
    let once = dedup_same _ (λ (j k : ClassId). j.0 == k.0) _ (λ x y b f x' y' k. search rules)
    c.sort_unstable_by.new.self.items c.dedup_by.new.self.items c.dedup_by.ensures.filtered in
    ap class_numbers once
    ∙ keys_in_order number number_order (λ j k. j.0 == k.0) (λ j k. sym (same_number_test j.0 k.0))
    c.args.classes.items c.sort_unstable_by.new.self.items c.sort_unstable_by.ensures.permutation up
