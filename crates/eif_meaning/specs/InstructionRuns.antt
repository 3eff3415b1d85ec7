-- Runs that show which branch is executed, and that assertions are not.
use Rattle.std.specs.Prelude.{◌≡◌, true, false, [], ◌∷◌, Some, None, codes}
use Rattle.eif_tree.specs.declared.tree.Op.TheVariants as op
use Rattle.eif_tree.specs.Tree.{Ex, Ins, check, choose, loop}
use Rattle.eif_tree.specs.View.{exs_from, inss_from, branches_from, otherwise_from}
use Rattle.eif_meaning.specs.Values.{not_boolean}
use Rattle.eif_meaning.specs.Run.{finished, went_wrong}
use Rattle.eif_meaning.specs.BodyTexts.{number, text, truth, the, two, show}
use Rattle.eif_meaning.specs.RunSystems.{run_body}

-- if False then print (1) elseif e then print (2) else print (3) end
abbrev pub second_if : Ex → Ins
second_if e =
    choose (branches_from ((truth false, inss_from (show (number 1) ∷ []))
    ∷ (e, inss_from (show (number 2) ∷ [])) ∷ []))
    (otherwise_from (Some (show (number 3) ∷ [])))

-- if False then end
abbrev pub without_else : Ins
without_else = choose (branches_from ((truth false, inss_from []) ∷ [])) (otherwise_from None)

-- an expression that is a stop
abbrev pub stops : Ex
stops = two op.Equal (two op.Divide (number 1) (number 0)) (number 1)

-- check 1 // 0 = 1 end
abbrev pub stopping_check : Ins
stopping_check = check (exs_from (stops ∷ []))

-- from invariant nope until True loop variant nope end, where nothing is named `nope`
abbrev pub wrong_claims : Ins
wrong_claims = loop (inss_from []) (exs_from (the "nope" ∷ [])) (truth true) (inss_from []) (Some (the "nope"))

-- with 10 levels and turns
abbrev pub InstructionRuns : Type 0
InstructionRuns =
    -- a branch behind another one, and the last one
    (run_body 10 (second_if (truth true) ∷ second_if (truth false) ∷ []) ≡ finished (codes "23"))
    -- its condition gives a BOOLEAN too
    × (run_body 10 (second_if (number 1) ∷ []) ≡ went_wrong not_boolean [])
    -- a missing `else` does nothing
    × (run_body 10 (without_else ∷ show (text "k") ∷ []) ≡ finished (codes "k"))
    -- a `check`, an invariant and a variant are skipped
    × (run_body 10 (stopping_check ∷ show (text "k") ∷ []) ≡ finished (codes "k"))
    × (run_body 10 (wrong_claims ∷ show (text "k") ∷ []) ≡ finished (codes "k"))
