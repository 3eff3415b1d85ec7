use Rattle.std.proofs.Common.{◌≡◌, ap, sym, subst, false, ◌∙◌, List}
use Rattle.std.specs.Prelude.{slice_get}
use Rattle.eif_base.specs.Numbering.{is_among}
use Rattle.eif_feature_faults.proofs.Beside.{found_by, none_by}
use Rattle.eif_feature_faults.proofs.standing.sources_of.Goals as goal
use Rattle.eif_rows.proofs.ClassSets.{names-name_set}
use Rattle.eif_system.specs.Lineage.{line_of}

pub returns-in-Some-clause-found : goal.returns-in-Some-clause-found
returns-in-Some-clause-found c =
    let i = c.in-Some.i in
    found_by c.args.heir.now i c.args.name.now
    (ap (λ ns. slice_get ns i) (sym c.deref.ensures.value) ∙ c.in-Some.ensures.found)
    c.deref-in-Some.result.now c.deref-in-Some.ensures.value c.get.result c.get.ensures.lookup

pub returns-in-Some-clause-none : goal.returns-in-Some-clause-none
returns-in-Some-clause-none c =
    let i = c.in-Some.i in
    none_by c.args.heir.now i c.args.name.now
    (ap (λ ns. slice_get ns i) (sym c.deref.ensures.value) ∙ c.in-Some.ensures.found)
    c.deref-in-Some.result.now c.deref-in-Some.ensures.value c.get.result c.get.ensures.lookup

pub returns-in-None-clause-none : goal.returns-in-None-clause-none
returns-in-None-clause-none c = λ u heir.
    let names_are = c.deref.ensures.value ∙ heir.names_are in
    let set = names-name_set (line_of u c.args.heir.now.class_id.0) in
    subst (λ ns. is_among ns c.args.name.now ≡ false) names_are (c.in-None.ensures.none set.0 (names_are ∙ set.1))
