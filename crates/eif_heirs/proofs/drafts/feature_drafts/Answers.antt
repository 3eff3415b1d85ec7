use Rattle.std.proofs.Common.{◌+◌, length, arith, ap, sym, subst, ◌∙◌}
use Rattle.std.proofs.lemmas.List.{length_push}
use Rattle.eif_heirs.specs.DraftForms.{IsDraftAt}
use Rattle.eif_heirs.proofs.Drafted.{drafts_are, drafts_more}
use Rattle.eif_universe.specs.Universes.{classes_of}
use Rattle.eif_heirs.proofs.drafts.feature_drafts.Goals as goal

pub names-preserved : goal.names-preserved
names-preserved c =
    let u = classes_of c.args.u.now in
    let h = c.args.heir.now in
    let rs = c.names.drafts.items in
    let r = c.in_ok-draft.field-0 in
    record {
      count = ap length c.in_ok-push.ensures.items ∙ (length_push rs r ∙ ap (λ n. n + 1) c.names.invariant.count);
      each = drafts_more u h rs c.push.new.self.items r c.in_ok-push.ensures.items c.names.invariant.each
          (subst (λ i. IsDraftAt u h i r) (sym c.names.invariant.count) c.in_ok-draft.ensures);
    }

pub returns : goal.returns
returns c =
    let u = classes_of c.args.u.now in
    let h = c.args.heir.now in
    drafts_are u h c.requires.heir c.names.drafts.items
    (let count = c.names.invariant.count in omega arith) c.names.invariant.each
