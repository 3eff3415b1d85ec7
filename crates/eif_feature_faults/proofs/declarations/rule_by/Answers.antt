use Rattle.std.proofs.Common.{◌≡◌, ℕ, List, false, map, take, ap, sym, ◌∙◌, Option}
use Rattle.std.specs.Prelude.{nat_lt}
use Rattle.std.specs.List.{list_any}
use Rattle.std.specs.Option.{option_map_or}
use Rattle.std.specs.Str.{bytes_eq}
use Rattle.eif_classes.specs.Entries.{entries_of}
use Rattle.eif_classes.specs.Features.{entries}
use Rattle.eif_feature_faults.proofs.Beside.{first_told, none_told, second_told, third_told}
use Rattle.eif_feature_faults.proofs.InTurn.{any_before}
use Rattle.eif_feature_faults.proofs.declarations.rule_by.Goals as goal
use Rattle.eif_feature_faults.specs.DeclaredViews.{declared_view}
use Rattle.eif_feature_rules.specs.RuleForms.{DeclaredName, declared_here}
use Rattle.eif_heirs.specs.Clauses.{entry_at, ups_in}
use Rattle.eif_heirs.specs.Heirs.{AreSources}
use Rattle.eif_heirs.specs.declared.heir.NameSources.{NameSources}
use Rattle.eif_tree.specs.Tree.{ClassT}
use Rattle.eif_tree.specs.View.{class_view}

before : (u : List ClassT) (c : ClassT) (s : NameSources) (n : List ℕ) (i : ℕ) → AreSources u c s n
    → list_any (λ e. bytes_eq e.name.name n) (take i (declared_here c))
    ≡ option_map_or (λ k. nat_lt k i) s.declared false
before u c s n i are =
    any_before (λ (e : DeclaredName). bytes_eq e.name.name n) (declared_here c) i
    ∙ ap (λ (o : Option ℕ). option_map_or (λ k. nat_lt k i) o false) (sym are.declared_is)

pub returns-then-is_before : goal.returns-then-is_before
returns-then-is_before c = λ u heir s.
    let class = class_view c.args.heir.now.tree.now in
    let x = declared_view c.args.x.now in
    first_told class (entries (ups_in u class)) (take c.args.i (declared_here class)) x
    (before u class c.args.sources.now x.name.name c.args.i s ∙ (sym c.is_before.ensures ∙ c.if-is_before.true))

pub returns-then-is_deferred_again : goal.returns-then-is_deferred_again
returns-then-is_deferred_again c = λ u heir s.
    let class = class_view c.args.heir.now.tree.now in
    let x = declared_view c.args.x.now in
    let es = entries (ups_in u class) in
    second_told class es (take c.args.i (declared_here class)) x
    (before u class c.args.sources.now x.name.name c.args.i s ∙ (sym c.is_before.ensures ∙ c.if-is_before.false))
    (sym (c.is_deferred_again.ensures u (entries_of x.name.name es) heir s.entries_are) ∙ c.if-is_deferred_again.true)

pub returns-then-any_kept : goal.returns-then-any_kept
returns-then-any_kept c = λ u heir s.
    let class = class_view c.args.heir.now.tree.now in
    let x = declared_view c.args.x.now in
    let es = entries (ups_in u class) in
    let numbered = ap (map (entry_at (ups_in u class))) c.deref.ensures.value ∙ s.entries_are in
    third_told class es (take c.args.i (declared_here class)) x
    (before u class c.args.sources.now x.name.name c.args.i s ∙ (sym c.is_before.ensures ∙ c.if-is_before.false))
    (sym (c.is_deferred_again.ensures u (entries_of x.name.name es) heir s.entries_are) ∙ c.if-is_deferred_again.false)
    (sym (c.any_kept.ensures u (entries_of x.name.name es) heir numbered) ∙ c.if-any_kept.true)

pub returns-else-any_kept : goal.returns-else-any_kept
returns-else-any_kept c = λ u heir s.
    let class = class_view c.args.heir.now.tree.now in
    let x = declared_view c.args.x.now in
    let es = entries (ups_in u class) in
    let numbered = ap (map (entry_at (ups_in u class))) c.deref.ensures.value ∙ s.entries_are in
    none_told class es (take c.args.i (declared_here class)) x
    (before u class c.args.sources.now x.name.name c.args.i s ∙ (sym c.is_before.ensures ∙ c.if-is_before.false))
    (sym (c.is_deferred_again.ensures u (entries_of x.name.name es) heir s.entries_are) ∙ c.if-is_deferred_again.false)
    (sym (c.any_kept.ensures u (entries_of x.name.name es) heir numbered) ∙ c.if-any_kept.false)
