-- A rule is needed where a system breaks it alone, and its run goes wrong.
use Prim.Native.String.{String}
use Rattle.std.specs.Prelude.{◌≡◌, ℕ, List, [], ◌∷◌, ◌++◌, map, flat_map, None, codes}
use Rattle.std.specs.List.{enumerate_from}
use Rattle.eif_base.specs.declared.code.Code.{Code}
use Rattle.eif_base.specs.declared.fault.Fault.{Fault}
use Rattle.eif_base.specs.declared.root.Root.{Root}
use Rattle.eif_body_rules.specs.BodyRules.{body_faults}
use Rattle.eif_feature_rules.specs.FeaturePhases.{each_given, feature_faults, class_derivation_faults, signature_faults}
use Rattle.eif_flow_rules.specs.CreationFaults.{creation_faults}
use Rattle.eif_meaning.specs.BodyTexts.{name, plain, generic, make_as}
use Rattle.eif_meaning.specs.Run.{went_wrong}
use Rattle.eif_meaning.specs.RunSystems.{has, app, making, run_of}
use Rattle.eif_meaning.specs.Values.{Wrong}
use Rattle.eif_rules.specs.UniverseRules.{text_faults, root_faults}
use Rattle.eif_system.specs.Kernel.{kernel_count}
use Rattle.eif_system.specs.TreeForms.{parent_clause, created_by, declared}
use Rattle.eif_system.specs.Universe.{universe}
use Rattle.eif_tree.specs.Tree.{TypeT, Ins, GroupT, ParentT, deferred_body, DeclT, ClassT}

-- the root of the systems here
abbrev pub app_make : Root
app_make = record { class_name = codes "app"; procedure_name = codes "make" }

-- the faults of all phases, whatever the phases before say
abbrev pub all_faults : List ClassT → List Fault
all_faults given =
    flat_map (text_faults (universe given)) given
    ++ root_faults given app_make
    ++ each_given feature_faults given
    ++ each_given class_derivation_faults given
    ++ each_given (λ u l. signature_faults u app_make l) given
    ++ body_faults given
    ++ flat_map (λ x. creation_faults (universe given) x.0 x.1) (enumerate_from kernel_count given)

-- the rules that are broken, one for each fault
abbrev pub broken : List ClassT → List (Code × ℕ)
broken given = map (λ f. (f.code, f.case)) (all_faults given)

-- one fault, of that rule, and a run that goes wrong so, with nothing printed before
pub record IsNeeded (code : Code) (case : ℕ) (how : Wrong) (given : List ClassT) : Type 0 where
  pub alone : broken given ≡ (code, case) ∷ []
  pub wrong : run_of 10 given ≡ went_wrong how []

-- ---- systems in a few words

-- class B create make feature .. end
abbrev pub created : String → ClassT → ClassT
created n c = record c { creators = created_by (name n ∷ []) }

-- P undefine n end
abbrev pub undefining : String → ParentT → ParentT
undefining n p = record p { undefines = p.undefines ++ name n ∷ [] }

-- P [T]
abbrev pub parent_of : String → TypeT → ParentT
parent_of n t = parent_clause (generic n (t ∷ []))

-- n (a: T) deferred end
abbrev pub later_with : String → List GroupT → DeclT
later_with n arguments = declared (name n) arguments None deferred_body

-- class APP create make feature make local .. do .. end end
abbrev pub making_app : List GroupT → List Ins → ClassT
making_app locals body = app (making locals body ∷ [])

-- local x: T do create {S} x .. end
abbrev pub through : String → String → List Ins → ClassT
through seen made body = making_app (has "x" (plain seen) ∷ []) (make_as (plain made) "x" ∷ body)
