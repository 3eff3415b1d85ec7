-- The reports that a check makes.
use Rattle.std.proofs.Common.{◌≡◌, ◌≢◌, ℕ, zero, Bool, true, false, List, [], ◌∷◌, length, refl, sym, ap, subst, ◌∙◌}
use Rattle.std.specs.Bool.{MatchBool}
use Rattle.eif_base.specs.declared.Fault.{Fault}
use Rattle.eif_base.specs.Appends.{In}
use Rattle.eif_base.specs.FileLists.{NamedText, names_of, texts_of}
use Rattle.eif_check.specs.Systems.{Broken}
use Rattle.eif_check.specs.Verdicts.{IsVerdict}
use Rattle.eif_report.specs.Order.{Lists}
use Rattle.eif_report.specs.Report.{yes_text, verdict_text, IsReport}
use Rattle.eif_report.specs.declared.Verdict.{Verdict}
use Rattle.eif_report.specs.declared.Verdict.TheVariants as v
use Rattle.eifcheck.specs.Answers.{IsYes, IsNo}
use Rattle.eifcheck.specs.Form.{Command}
use Rattle.eifcheck.specs.Inputs.{IsDue}
use Rattle.eifcheck.specs.Judgement.{is_yes, IsListReport, IsReportOn}
use Rattle.eifcheck.specs.Steps.{Step, judges, reports}
use Rattle.eifcheck.specs.declared.command.Report.{Report}
use Rattle.eifcheck.specs.declared.reading.Input.TheVariants as input

-- a list of faults that isn't empty has a first one
some_broken : (names : List (List ℕ)) (list : List Fault) (broken : Fault → Type 0) → list ≢ [] → Lists names list broken
    → (f : Fault) × broken f
some_broken names [] broken some lists = absurd (some refl)
some_broken names (f ∷ fs) broken some lists = (f, lists.only f (zero, refl))

-- the text of a verdict on files is the report on them
verdict_report : (c : Command) (files : List NamedText) (verdict : Verdict) → IsVerdict files c.root verdict
    → MatchBool (is_yes verdict) (IsYes c (judges files) (verdict_text c.form (names_of files) verdict))
    (IsNo c (judges files) (verdict_text c.form (names_of files) verdict))
verdict_report c files (v.Yes n) is = (is.1, is.2, ap yes_text is.0)
verdict_report c files (v.Faults list) is =
    (some_broken (names_of files) list (Broken (texts_of files) c.root) is.0 is.1, (list, is.1, refl))

-- the report on a system, by its bytes and whether it says yes
pub system_reported : (c : Command) (files : List NamedText) (verdict : Verdict) (bytes : List ℕ) (says : Bool)
    → IsVerdict files c.root verdict → bytes ≡ verdict_text c.form (names_of files) verdict → says ≡ is_yes verdict
    → MatchBool says (IsYes c (judges files) bytes) (IsNo c (judges files) bytes)
system_reported c files verdict bytes says is text told =
    subst (λ b. MatchBool b (IsYes c (judges files) bytes) (IsNo c (judges files) bytes)) (sym told)
    (subst (λ t. MatchBool (is_yes verdict) (IsYes c (judges files) t) (IsNo c (judges files) t)) (sym text)
    (verdict_report c files verdict is))

-- what is due when a list has faults is their report
pub list_reported : (c : Command) (list : List NamedText) (faults : List Fault) (report : Report) (step : Step)
    → faults ≢ [] → IsListReport c.form (names_of list) faults report → IsDue step (input.BadList list faults)
    → IsReportOn c step report
list_reported c list faults report step some told due =
    subst (λ s. IsReportOn c s report) (sym due.2)
    (subst (λ b. MatchBool b (IsYes c (reports due.0 faults) report.bytes.items) (IsNo c (reports due.0 faults) report.bytes.items))
    (sym told.0)
    (some, subst (λ names. IsReport c.form names (In faults) report.bytes.items) due.1 told.1))
