use Rattle.std.proofs.Common.{◌≡◌, ◌++◌, List, map, Some, sym, ap, ◌∙◌, arith}
use Rattle.std.proofs.lemmas.List.{append-nil, drop_all}
use Rattle.eif_rows.specs.Numbers.{names_of}
use Rattle.eif_feature_faults.proofs.Selecting.{same_somes}
use Rattle.eif_feature_faults.proofs.candidates.names_at.Goals as goal

pub returns : goal.returns
returns c = λ ns named.
    let out = map (λ n. Some n.now) c.features.out.items in
    same_somes (λ n. n.now) c.features.out.items ns
    (sym (append-nil out)
    ∙ (sym (ap (λ fs. out ++ names_of c.args.names.now fs) (drop_all c.features.feat-index c.args.features.now (omega arith)))
    ∙ (c.features.invariant ∙ named)))
