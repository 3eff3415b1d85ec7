use Rattle.std.proofs.Common.{◌∙◌, rules, tests}
use Rattle.std.specs.Str.{bytes_eq}
use Rattle.std.proofs.lemmas.Iterator.{YieldsList-from_slice}
use Rattle.std.proofs.lemmas.Iterator.Adapters.{position_from-zero}
use Rattle.std.proofs.lemmas.Iterator.Search.{position_from_yields_List}
use Rattle.eif_tree.specs.declared.class.FormalTree.{FormalTree}
use Rattle.eif_type_forms.proofs.Resolving.{position_of_view}
use Rattle.eif_type_forms.proofs.resolution.formal_number.Goals as goal

pub returns-clause-number : goal.returns-clause-number
returns-clause-number c =
    let n = c.args.name.now in
    let formals = c.args.class.now.formals.items in
    let test = λ (f : FormalTree). bytes_eq f.name n in
    position_from_yields_List test _ _ c.position.result c.position.ensures.ran (YieldsList-from_slice formals cc)
    (λ x b q k. search (rules, tests))
    ∙ (position_from-zero test formals ∙ position_of_view n 0 formals)
