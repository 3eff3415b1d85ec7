use Rattle.std.proofs.Common.{◌≡◌, ℕ, List, Some, map, ap, ◌∙◌}
use Rattle.std.specs.Prelude.{Vec}
use Rattle.eif_adapt.specs.declared.adapted.AdaptedEntry.{AdaptedEntry}
use Rattle.eif_base.specs.declared.feat_id.FeatId.{FeatId}
use Rattle.eif_heirs.specs.declared.clauses.Clause.{Clause}
use Rattle.eif_heirs.proofs.Places.{Match-more}
use Rattle.eif_rows.specs.Numbers.{names_of}
use Rattle.eif_heirs.proofs.class_names.all_final_numbers.Goals as goal

abbrev AreFinals : {Z : Type 0} → List (List ℕ) → Vec FeatId Z → Clause → Type 0
AreFinals ns fs x = names_of ns fs.items ≡ map (λ a. Some a.final_name) x.adapted.items

pub clauses-preserved : goal.clauses-preserved
clauses-preserved c =
    Match-more (AreFinals c.args.names.now) c.clauses.finals.items c.push.new.self.items c.in_ok-final_numbers.field-0
    c.args.clauses.now c.clauses.clause-index c.clause-item.result c.in_ok-push.ensures.items c.clauses-test.true
    c.clauses.invariant
    (c.in_ok-final_numbers.ensures ∙ ap (map (λ (a : AdaptedEntry). Some a.final_name)) c.deref.ensures.value
    ∙ ap (λ (x : Clause). map (λ (a : AdaptedEntry). Some a.final_name) x.adapted.items) c.clause-item.is)
