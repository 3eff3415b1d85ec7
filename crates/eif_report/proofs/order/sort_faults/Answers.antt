use Rattle.std.proofs.Common.{◌≡◌, rules}
use Rattle.std.specs.Ordering.{is_lt}
use Rattle.std.proofs.lemmas.Fn.{always_returns_same, dedup_same}
use Rattle.std.proofs.lemmas.List.Sorted.{ranks_by}
use Rattle.eif_base.specs.declared.Fault.{Fault}
use Rattle.eif_base.specs.FileLists.{names_of}
use Rattle.eif_report.specs.Order.{fault_cmp}
use Rattle.eif_report.proofs.Sorting.{same_fault, lists_sorted}
use Rattle.eif_report.proofs.Total.{fault_cmp_total}
use Rattle.eif_report.proofs.order.sort_faults.Goals as goal

pub returns : goal.returns
returns c =
    let names = names_of c.args.files.now in
    let h = c.sort_dedup_by.ensures in
    let sorted = h.2 (λ a b. is_lt (fault_cmp names a b)) (ranks_by (fault_cmp_total names) (λ (f : Fault). f))
    (always_returns_same _ (λ a r. is_lt r ≡ is_lt (fault_cmp names a.0.now a.1.0.now)) _ (λ a r f' k. search rules)) in
    rw (dedup_same _ (same_fault names) _ (λ x y b f' x' y' k. search rules) h.0 c.sort_dedup_by.new.self h.3)
    (lists_sorted names c.args.list.now h.0 h.1 sorted)
