use Rattle.std.proofs.Common.{◌≡◌, ℕ, Bool, true, List, ◌++◌, map, sym, ap, ap₂, ◌∙◌}
use Rattle.std.specs.List.{list_all}
use Rattle.std.specs.Option.{option_map_or}
use Rattle.std.specs.Prelude.{not, ◌&&◌}
use Rattle.eif_base.specs.declared.code.Code.{Code}
use Rattle.eif_base.specs.declared.code.Code.TheVariants as code
use Rattle.eif_base.specs.declared.fault.Fault.{Fault}
use Rattle.eif_feature_rules.specs.JoinRules.{fits_others}
use Rattle.eif_redecl.proofs.ViewLaws.{one_signature, others_fit}
use Rattle.eif_redecl.specs.EntryViews.{entry_view, fits_beside, have_one_signature}
use Rattle.eif_rules.specs.FaultForms.{fault_at, fault_where}
use Rattle.eif_signatures.specs.SignatureViews.{signature_view}
use Rattle.eif_tree.specs.View.{class_view}
use Rattle.eif_redecl.proofs.entry.Heir.push_join_faults.Goals as goal

pub returns : goal.returns
returns c = λ u x types is.
    let d = c.args.self.now.class_id.0 in
    let class = class_view c.args.self.now.class.now in
    let s = signature_view c.args.joined.now.signature.now in
    let views = map entry_view c.args.entries.now in
    let told = λ (k : Code) (case : ℕ) (b : Bool) (n : List ℕ). fault_where b (fault_at class k case class.place n) in
    let fit : list_all (fits_beside u d s) views ≡ option_map_or (fits_others u d x.entries) x.signature true =
    ap (list_all (fits_beside u d s)) is.seen_are
    ∙ (sym (others_fit u d s x.entries) ∙ ap (λ o. option_map_or (fits_others u d x.entries) o true) (sym is.signed)) in
    let one = ap have_one_signature is.seen_are ∙ sym (one_signature x.entries) in
    let unfit = ap₂ (told code.Vdrd 6) (ap₂ (λ e f. e && not f) is.version fit) is.named in
    let unequal = ap₂ (told code.Vdjr 1) (ap₂ (λ e f. not e && not f) is.version one) is.named in
    c.in_ok-push_unequal_join.ensures
    ∙ ap₂ (λ (fs gs : List Fault). fs ++ gs)
    (c.in_ok-push_unfit_version.ensures u types ∙ ap (λ (fs : List Fault). c.args.out.now ++ fs) unfit) unequal
