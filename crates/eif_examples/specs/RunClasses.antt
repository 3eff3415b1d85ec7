-- The classes of runs that are told by a body alone.
use Rattle.std.specs.Prelude.{List, [], ◌∷◌}
use Rattle.eif_tree.specs.Tree.{Ex, Ins, GroupT, ClassT}
use Rattle.eif_meaning.specs.BodyTexts.{show}
use Rattle.eif_meaning.specs.RunSystems.{app, making}

-- class APP create make feature make local .. do .. end end
abbrev pub making_alone : List GroupT → List Ins → ClassT
making_alone locals body = app (making locals body ∷ [])

-- class APP create make feature make do .. end end
abbrev pub body_alone : List Ins → ClassT
body_alone body = making_alone [] body

-- class APP create make feature make do print (..) end end
abbrev pub shown : Ex → ClassT
shown e = body_alone (show e ∷ [])
