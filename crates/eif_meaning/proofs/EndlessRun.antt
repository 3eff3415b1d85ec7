-- A procedure that calls itself is cut off at every bound.
use Rattle.std.proofs.Common.{◌≡◌, ℕ, zero, suc, [], ◌∷◌, refl, ap}
use Rattle.std.specs.Prelude.{codes}
use Rattle.eif_system.specs.Kernel.{kernel}
use Rattle.eif_system.specs.Lineage.{line_of}
use Rattle.eif_classes.specs.Types.{no_actuals}
use Rattle.eif_meaning.specs.Values.{reference, Outcome, cut_off, after}
use Rattle.eif_meaning.specs.System.{System, system_of}
use Rattle.eif_meaning.specs.Frames.{Body}
use Rattle.eif_meaning.specs.Run.{ran, level, root_store}
use Rattle.eif_meaning.specs.BodyTexts.{the, perform}
use Rattle.eif_meaning.specs.RunSystems.{making, app}
use Rattle.eif_meaning.specs.BoundedRuns.{calls_itself, EndlessIsCutOff}

after_cut : {S T A B : Type 0} (o : Outcome S A) (f : S → A → Outcome T B)
    → o ≡ cut_off [] → after o f ≡ cut_off []
after_cut o f e = ap (λ q. after q f) e

abbrev system : System
system = system_of (app calls_itself ∷ [])

abbrev body : Body
body = record {
  declaration = record { class_number = 6; name = codes "make"; tree = making [] (perform (the "make") ∷ []) };
  actuals = no_actuals;
}

level_is_cut_off : (t n : ℕ) → level system t n (reference 0) body [] (root_store system 6) ≡ cut_off []
unfolding kernel line_of
level_is_cut_off t zero = refl
level_is_cut_off t (suc n) =
    after_cut _ _ (after_cut _ _ (after_cut _ _ (after_cut _ _ (after_cut _ _ (after_cut _ _ (level_is_cut_off t n))))))

pub endless_is_cut_off : EndlessIsCutOff
unfolding kernel line_of
endless_is_cut_off n = ap ran (level_is_cut_off n n)
