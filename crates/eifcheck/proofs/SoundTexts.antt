-- No run of a system of class texts goes wrong, where this version finds no fault.
use Rattle.std.proofs.Common.{◌≡◌, ℕ, ◌<◌, List, [], length, get_or, Option, Some, None, Result, Ok, Err, refl, subst}
use Rattle.std.specs.Prelude.{slice_get}
use Rattle.std.proofs.lemmas.Option.{slice_get_within, slice_get-get_or}
use Rattle.eif_base.specs.declared.Root.{Root}
use Rattle.eif_check.specs.Systems.{AreClasses}
use Rattle.eif_check.specs.TextFaults.{TokensGive, LexingGives, TextGives}
use Rattle.eif_grammar.specs.LeftOut.{left_out}
use Rattle.eif_grammar.specs.Tokens.{Token, TokenList, tokens_of, end_of}
use Rattle.eif_meaning.specs.Run.{run, IsWrong}
use Rattle.eif_meaning.specs.System.{system_of}
use Rattle.eif_plain_systems.proofs.Systems.{valid_system}
use Rattle.eif_rules.specs.FaultForms.{IsNone}
use Rattle.eif_sound.proofs.Soundness.{never_wrong}
use Rattle.eif_spelled_laws.proofs.SpelledClasses.{texts_are_spelled}
use Rattle.eif_spelled_trees.specs.SpelledTrees.{IsSpelledClass, AreSpelled}
use Rattle.eif_system_rules.specs.SystemRules.{SystemBroken}
use Rattle.eif_tree.specs.Tree.{ClassT}

-- the class of a text has the form that the grammar gives
spelled_text : (file : ℕ) (text : List ℕ) (c : ClassT) → TextGives file text (Ok c) → IsSpelledClass c
spelled_text file text c h = by (tokens_of file text) refl h
  where
    of_tokens : (tokens : List Token) → tokens_of file text ≡ Ok tokens → (o : Option Token)
        → TokensGive (record { tokens = tokens; end = end_of file text }) o (Ok c) → IsSpelledClass c
    of_tokens tokens e (Some t) h = cc
    of_tokens tokens e None h = texts_are_spelled file text tokens c e h.is_text.0

    by : (o : Result (List Token) ℕ) → tokens_of file text ≡ o → LexingGives file text o (Ok c) → IsSpelledClass c
    by (Err at) e h = cc
    by (Ok tokens) e h = of_tokens tokens e (left_out tokens) h

spelled_texts : (texts : List (List ℕ)) (given : List ClassT) → AreClasses texts given → AreSpelled given
spelled_texts texts given are i c at =
    let h : i < length texts = subst (λ n. i < n) are.long (slice_get_within given i c at) in
    let text = get_or texts i [] in
    spelled_text i text c (are.each i text c (slice_get-get_or texts i [] h) at)

pub texts_never_wrong : (texts : List (List ℕ)) (root : Root) (given : List ClassT) → AreClasses texts given
    → IsNone (SystemBroken given root) → (n : ℕ)
    → IsWrong (run n (system_of given) root.class_name root.procedure_name) → ⊥
texts_never_wrong texts root given are none n =
    never_wrong given root (spelled_texts texts given are) (valid_system given root none) n
