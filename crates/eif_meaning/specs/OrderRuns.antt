-- Runs that show the order of evaluation.
use Rattle.std.specs.Prelude.{◌≡◌, ℕ, true, false, List, [], ◌∷◌, codes}
use Rattle.eif_tree.specs.declared.tree.Op.{Op}
use Rattle.eif_tree.specs.declared.tree.Op.TheVariants as op
use Rattle.eif_tree.specs.Tree.{Ex, Ins, DeclT, ClassT}
use Rattle.eif_meaning.specs.Values.{void_target, no_feature}
use Rattle.eif_meaning.specs.Run.{Ran, finished, halted, went_wrong}
use Rattle.eif_meaning.specs.BodyTexts.{plain, maybe, number, truth, nobody, me, the, apply, dot, dot_with, new, two, set, perform, show, make_by, when}
use Rattle.eif_meaning.specs.RunSystems.{has, field, does, does_with, gives, gives_with, class, app, making, run_of, run_alone, run_body}

-- prints its argument, and gives it
abbrev pub say : DeclT
say =
    gives_with "say" (has "i" (plain "integer") ∷ []) (plain "integer")
    (show (the "i") ∷ set "result" (the "i") ∷ [])

-- that with a number
abbrev pub said : ℕ → Ex
said i = apply "say" (number i ∷ [])

-- prints 1, and gives Current
abbrev pub itself : DeclT
itself = gives "itself" (plain "app") (show (number 1) ∷ set "result" me ∷ [])

-- prints 4
abbrev pub takes_two : DeclT
takes_two =
    does_with "takes_two" (has "i" (plain "integer") ∷ has "j" (plain "integer") ∷ []) [] (show (number 4) ∷ [])

-- a body with a local `a` beside these
abbrev pub run_saying : List Ins → Ran
run_saying body = run_alone 10 (making (has "a" (plain "any") ∷ []) body ∷ say ∷ itself ∷ takes_two ∷ [])

-- a BOOLEAN expression that is a stop
abbrev pub stops : Ex
stops = two op.Equal (two op.Divide (number 1) (number 0)) (number 1)

-- shows an operator's value
abbrev pub shows : Op → Ex → Ex → Ran
shows o l r = run_body 10 (show (two o l r) ∷ [])

-- a creator tells whether the target of its creation is still Void, and so does its caller afterwards
abbrev pub tells_early : List ClassT
tells_early =
    app (field "b" (maybe "b") ∷ say ∷ making []
    (make_by "b" "tell" (said 1 ∷ me ∷ []) ∷ show (two op.Equal (the "b") nobody) ∷ []) ∷ [])
    ∷ class "b" (does_with "tell" (has "i" (plain "integer") ∷ has "a" (plain "app") ∷ []) []
    (show (two op.Equal (dot (the "a") "b") nobody) ∷ []) ∷ [])
    ∷ []

-- the target of a creation is an argument, and its creator prints 5
abbrev pub creates_argument : List ClassT
creates_argument =
    app (making [] (perform (apply "f" (new (plain "b") ∷ [])) ∷ [])
    ∷ does_with "f" (has "b" (plain "b") ∷ []) [] (make_by "b" "tell" [] ∷ []) ∷ [])
    ∷ class "b" (does "tell" (show (number 5) ∷ []) ∷ [])
    ∷ []

-- with 10 levels and turns
abbrev pub OrderRuns : Type 0
OrderRuns =
    -- the target, the arguments from left to right, and then the call
    (run_saying (perform (apply "takes_two" (said 2 ∷ said 3 ∷ [])) ∷ []) ≡ finished (codes "234"))
    × (run_saying (perform (dot_with (the "itself") "takes_two" (said 2 ∷ said 3 ∷ [])) ∷ [])
    ≡ finished (codes "1234"))
    -- the arguments, and then a missing name, a wrong count, and a target that is Void
    × (run_saying (perform (apply "nope" (said 2 ∷ [])) ∷ []) ≡ went_wrong no_feature (codes "2"))
    × (run_saying (perform (dot_with me "takes_two" (said 2 ∷ [])) ∷ []) ≡ went_wrong no_feature (codes "2"))
    × (run_saying (make_by "a" "default_create" (said 2 ∷ []) ∷ []) ≡ went_wrong no_feature (codes "2"))
    × (run_saying (show (dot_with nobody "nope" (said 2 ∷ [])) ∷ []) ≡ went_wrong void_target (codes "2"))
    -- the left operand before the right one
    × (run_saying (show (two op.Minus (said 1) (said 2)) ∷ []) ≡ finished (codes "12-1"))
    × (run_saying (show (two op.Equal (said 1) (said 2)) ∷ []) ≡ finished (codes "12False"))
    -- operators that leave out their right operand, and those that do not
    × (shows op.AndThen (truth false) stops ≡ finished (codes "False"))
    × (shows op.OrElse (truth true) stops ≡ finished (codes "True"))
    × (shows op.Implies (truth false) stops ≡ finished (codes "True"))
    × (shows op.AndThen (truth true) stops ≡ halted [])
    × (shows op.OrElse (truth false) stops ≡ halted [])
    × (shows op.Implies (truth true) stops ≡ halted [])
    × (shows op.And (truth false) stops ≡ halted [])
    × (shows op.Or (truth true) stops ≡ halted [])
    × (shows op.AndThen (truth true) (truth true) ≡ finished (codes "True"))
    × (shows op.OrElse (truth false) (truth false) ≡ finished (codes "False"))
    × (shows op.Implies (truth true) (truth false) ≡ finished (codes "False"))
    × (shows op.And (truth true) (truth false) ≡ finished (codes "False"))
    × (shows op.Or (truth false) (truth true) ≡ finished (codes "True"))
    × (shows op.Xor (truth true) (truth true) ≡ finished (codes "False"))
    -- a creation: the arguments, the creator on the object, and only then the target
    × (run_of 10 tells_early ≡ finished (codes "1TrueFalse"))
    × (run_of 10 creates_argument ≡ went_wrong no_feature (codes "5"))
    -- one branch alone
    × (run_saying (when (truth true) (show (said 1) ∷ []) (show (said 2) ∷ []) ∷ []) ≡ finished (codes "11"))
    × (run_saying (when (truth false) (show (said 1) ∷ []) (show (said 2) ∷ []) ∷ []) ≡ finished (codes "22"))
