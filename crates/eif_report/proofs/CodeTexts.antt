-- Codes of one text are one code.
use Rattle.std.proofs.Common.{◌≡◌, ℕ, List, [], ◌∷◌, Option, Some, refl, sym, ap, ◌∙◌}
use denote.Enum.Bare.{sameb, same_true, true_same}
use Rattle.std.specs.List.{find}
use Rattle.std.specs.Str.{bytes_eq}
use Rattle.std.proofs.lemmas.Bool.Decides.{same_from_decides}
use Rattle.std.proofs.lemmas.Option.{same_Some}
use Rattle.std.proofs.lemmas.Slice.Eq.{bytes_eq-Decides}
use Rattle.eif_base.specs.contracts.code.Code.{the_type}
use Rattle.eif_base.specs.declared.Code.{Code}
use Rattle.eif_base.specs.declared.code.Code.TheVariants as code
use Rattle.eif_base.specs.Codes.{code_text}

abbrev all_codes : List Code
all_codes =
    code.Vbar ∷ code.Vcch ∷ code.Vcfg ∷ code.Vdjr ∷ code.Vdpr ∷ code.Vdrd ∷ code.Vdrs ∷ code.Vdus ∷ code.Veen
    ∷ code.Vevi ∷ code.Vffd ∷ code.Vgce ∷ code.Vgci ∷ code.Vgcp ∷ code.Vhpr ∷ code.Vhrc ∷ code.Vlel ∷ code.Vmfn
    ∷ code.Vmrc ∷ code.Vmss ∷ code.Vrfa ∷ code.Vsrp ∷ code.Vsrt ∷ code.Vtct ∷ code.Vuar ∷ code.Vuex ∷ code.Vuot
    ∷ code.Vuta ∷ code.Vwbe ∷ code.Xanc ∷ code.Xdup ∷ code.Xgen ∷ code.Xker ∷ code.Xlex ∷ code.Xlim ∷ code.Xlst
    ∷ code.Xmrk ∷ code.Xopr ∷ code.Xout ∷ code.Xrep ∷ code.Xsyn ∷ code.Xuse ∷ code.Xyet ∷ []

-- the code of a text
abbrev code_from : List ℕ → Option Code
code_from text = find (λ c. bytes_eq (code_text c) text) all_codes

code_from-text : (c : Code) → code_from (code_text c) ≡ Some c
code_from-text code.Vbar = refl
code_from-text _ = refl

pub code_text-one : (a b : Code) → code_text a ≡ code_text b → a ≡ b
code_text-one a b e = same_Some a b (sym (code_from-text a) ∙ ap code_from e ∙ code_from-text b)

-- a test of codes is that of their texts
pub sameb-code_text : (a b : Code) → sameb the_type a b ≡ bytes_eq (code_text a) (code_text b)
sameb-code_text a b =
    let texts = bytes_eq-Decides (code_text a) (code_text b) in
    same_from_decides {P = a ≡ b} _ _ (same_true the_type tt a b, true_same the_type a b)
    ((λ e. code_text-one a b (texts.0 e)), (λ e. texts.1 (ap code_text e)))
