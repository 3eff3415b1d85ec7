-- The rules of calls: of an unqualified name, of a call on a target, of Precursor. They are judged where target and
-- arguments are typed; the first broken one counts.
use Rattle.std.specs.Prelude.{ℕ, ◌==◌, false, not, ◌&&◌, if◌then◌else◌, List, [], ◌∷◌, ◌++◌, length, Option, Some, None}
use Rattle.std.specs.Option.{option_map, option_map_or}
use Rattle.eif_base.specs.declared.code.Code.TheVariants as code
use Rattle.eif_base.specs.declared.fault.Fault.{Fault}
use Rattle.eif_base.specs.declared.place.Place.{Place}
use Rattle.eif_tree.specs.declared.tree.NameAt.{NameAt}
use Rattle.eif_tree.specs.Members.{result_name}
use Rattle.eif_classes.specs.Clients.{is_available}
use Rattle.eif_classes.specs.Constraints.{base_type, base_class, is_attached}
use Rattle.eif_system.specs.Lineage.{Line, line_by, line_of}
use Rattle.eif_classes.specs.Precursors.{precursor}
use Rattle.eif_classes.specs.Resolution.{actuals_in}
use Rattle.eif_classes.specs.Signatures.{Signature, SignedEntry, signature, signed_entries_in, with_actuals}
use Rattle.eif_classes.specs.Types.{TyT, Actuals, no_actuals}
use Rattle.eif_rules.specs.FaultForms.{fault_where}
use Rattle.eif_body_rules.specs.Facts.{Fact, is_known_attached}
use Rattle.eif_body_rules.specs.Judgements.{Judged, fine, broken, unless}
use Rattle.eif_body_rules.specs.Outcomes.{a_value, Outcome, has_too_many, outcome}
use Rattle.eif_body_rules.specs.Settings.{Setting, fault, fits, Meaning, test_local, entity, feature, unknown, meaning, seen_type}

-- an argument where it stands, with its type
pub record Argument : Type 0 where
  pub place : Place
  pub type : TyT

-- ---- arguments, of what is called x

-- VUAR.2: an argument doesn't conform; not judged where the type of the called feature has too many names
unfoldable pub wrong_arguments : Setting → List ℕ → List Argument → List TyT → List Fault
wrong_arguments s x [] ts = []
wrong_arguments s x (a ∷ args) [] = []
wrong_arguments s x (a ∷ args) (t ∷ ts) =
    fault_where (not (has_too_many t) && not (fits s a.type t)) (fault s code.Vuar 2 a.place x)
    ++ wrong_arguments s x args ts

-- a call of a feature, whose name stands at q; VUAR.1: the count of arguments differs
unfoldable pub call_of : Setting → Place → List ℕ → List Argument → Signature → Judged Outcome
call_of s q x args g =
    if length args == length g.arguments
    then unless (wrong_arguments s x args g.arguments) (fine (outcome g))
    else broken (fault s code.Vuar 1 q x)

-- a read of an entity; VUAR.1: it takes no arguments
abbrev pub read : Setting → Place → List ℕ → List Argument → Option TyT → Judged Outcome
read s q x [] t = fine (record { gives = a_value t; is_long = false })
read s q x (a ∷ args) t = broken (fault s code.Vuar 1 q x)

-- ---- an unqualified name x at q

-- VEEN.1: the name denotes nothing
abbrev pub use_of : Setting → List Fact → Place → List ℕ → List Argument → Meaning → Judged Outcome
use_of s k q x args (test_local t) = read s q x args t
use_of s k q x args (entity e) = read s q x args (Some (seen_type (is_known_attached k x) e.type))
use_of s k q x args (feature g) = call_of s q x args g
use_of s k q x args unknown = broken (fault s code.Veen 1 q x)

unfoldable pub name_rule : Setting → List Fact → Place → List ℕ → List Argument → Judged Outcome
name_rule s k q x args = use_of s k q x args (meaning s k x)

-- VEEN.2: `Result` isn't visible
abbrev pub visible_result : Setting → Place → Option TyT → Judged TyT
visible_result s q None = broken (fault s code.Veen 2 q result_name)
visible_result s q (Some t) = fine t

unfoldable pub result_rule : Setting → Place → Judged TyT
result_rule s q = visible_result s q s.result

-- ---- a call of x on a target, which stands at p

-- VUEX.2: the feature isn't available to the class
abbrev pub visible_call : Setting → NameAt → List Argument → Line → Signature → Judged Outcome
visible_call s x args l g =
    if is_available s.universe l x.name s.number then call_of s x.place x.name args g
    else broken (fault s code.Vuex 2 x.place x.name)

-- VUEX.1: the base class has no such feature
abbrev pub found_call : Setting → NameAt → List Argument → Line → Option Signature → Judged Outcome
found_call s x args l None = broken (fault s code.Vuex 1 x.place x.name)
found_call s x args l (Some g) = visible_call s x args l g

-- through the class with that line, with the actuals of the target's type put in
abbrev pub call_through : Setting → NameAt → List Argument → Actuals → Line → Judged Outcome
call_through s x args actuals l =
    found_call s x args l (option_map (with_actuals actuals) (signature s.universe l x.name))

-- the line of the base class of a type, and the actuals of the type or of its constraint
abbrev pub base_line : Setting → TyT → Line
base_line s t = line_by (line_of s.universe) (base_class s.universe s.number t)

abbrev pub base_actuals : Setting → TyT → Actuals
base_actuals s t = option_map_or actuals_in (base_type s.universe s.number t) no_actuals

-- VUTA.1: the type of the target isn't attached
unfoldable pub call_rule : Setting → Place → NameAt → TyT × List Argument → Judged Outcome
call_rule s p x (t, args) =
    if is_attached s.universe s.number t then call_through s x args (base_actuals s t) (base_line s t)
    else broken (fault s code.Vuta 1 p x.name)

-- ---- Precursor at q

-- VDPR.1: not exactly one entry of the declared name is effective, not undefined and redefined, by a clause of the
-- named parent where one is named; or it stands in the class invariant
abbrev pub version_call : Setting → Place → List Argument → Option SignedEntry → Judged Outcome
version_call s q args None = broken (fault s code.Vdpr 1 q s.feature)
version_call s q args (Some e) = call_of s q s.feature args e.signature

-- the entries of the declared name; none in the class invariant
abbrev pub inherited : Setting → List SignedEntry
inherited s = option_map_or (signed_entries_in s.universe s.line) s.declared []

unfoldable pub precursor_rule : Setting → Place → Option NameAt → List Argument → Judged Outcome
precursor_rule s q parent args =
    version_call s q args (precursor (λ e. e.entry) (option_map (λ n. n.name) parent) (inherited s))
