use Rattle.std.proofs.Common.{◌∙◌, sym, ap, subst, List, ℕ}
use Rattle.std.specs.List.Sorted.{IsStrictlyIncreasing}
use Rattle.eif_system.specs.Graph.{is_member}
use Rattle.eif_ancestry.proofs.Rising.{found_is}
use Rattle.eif_ancestry.proofs.ancestors.Ancestors.has.Goals as goal

pub returns : goal.returns
returns c =
    let rising : IsStrictlyIncreasing c.deref.result.now =
    subst (λ (xs : List ℕ). IsStrictlyIncreasing xs) (sym c.deref.ensures.value) c.self.invariant in
    c.is_ok.ensures.value
    ∙ (found_is c.deref.result.now c.args.a c.binary_search.result rising c.binary_search.ensures.position
    ∙ ap (is_member c.args.a) (cc))
