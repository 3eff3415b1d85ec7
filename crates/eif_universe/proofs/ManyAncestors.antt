-- The fault of too many proper ancestors.
use Rattle.std.proofs.Common.{◌≡◌, ℕ, ◌<◌, true, List, ◌++◌, length, get_or, ltb, Some, refl, sym, ap, ◌∙◌, arith}
use Rattle.std.proofs.lemmas.Bool.Decides.{nat_tests}
use Rattle.std.proofs.lemmas.Option.{slice_get-get_or}
use Rattle.std.specs.Prelude.{slice_get}
use Rattle.eif_ancestry.specs.Ancestries.{AreAncestries}
use Rattle.eif_base.specs.Appends.{Appends}
use Rattle.eif_base.specs.declared.code.Code.TheVariants as code
use Rattle.eif_base.specs.declared.fault.Fault.{Fault}
use Rattle.eif_base.specs.declared.limits.TheConstants.{MOST_ANCESTORS}
use Rattle.eif_rules.specs.FaultForms.{fault_of, fault_where}
use Rattle.eif_rules.specs.UniverseRules.{HasManyAncestors}
use Rattle.eif_system.specs.Graph.{IsProperAncestor}
use Rattle.eif_system.specs.Inheritance.{graph_of}
use Rattle.eif_tree.specs.Tree.{ClassT}
use Rattle.eif_universe.proofs.AncestorCounts.{as_long}
use Rattle.eif_universe.proofs.Told.{adds_where}

pub adds_many : (u : List ClassT) (d : ℕ) (c : ClassT) (rows : List (List ℕ)) (row : List ℕ) (count : ℕ)
    (old new : List Fault) → AreAncestries (graph_of u) rows → d < length rows → row ≡ get_or rows d row →
    count ≡ length row → new ≡ old ++ fault_where (ltb MOST_ANCESTORS count) (fault_of c code.Xlim 2) →
    Appends old new (HasManyAncestors u d c)
adds_many u d c rows row count old new are w is long e =
    let at : slice_get rows d ≡ Some row = slice_get-get_or rows d row w ∙ ap Some (sym is) in
    let list = (are.each d row at).list in
    adds_where old new (ltb MOST_ANCESTORS count) (fault_of c code.Xlim 2) (HasManyAncestors u d c) e
    (λ t. let many : MOST_ANCESTORS < length row = grind (arith, nat_tests) in ((row, list, many), refl))
    (λ f h.
    let same = as_long (IsProperAncestor (graph_of u) d) h.0.0 row h.0.1 list in
    let many = h.0.2 in
    let t : ltb MOST_ANCESTORS count ≡ true = grind (arith, nat_tests) in
    (t, h.1))
