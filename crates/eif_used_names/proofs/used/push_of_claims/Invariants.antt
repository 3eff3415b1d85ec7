use Rattle.std.proofs.Common.{◌≡◌, ◌++◌, map, drop}
use Rattle.eif_feature_rules.specs.NamesUsed.{names_in_all}
use Rattle.eif_tree.specs.View.{assertion_view, exs_from}
use Rattle.eif_used_names.specs.LentNames.{lent_name}
use Rattle.eif_used_names.proofs.used.push_of_claims.Given as goal

abbrev pub invariant-claims : goal.invariant-claims
invariant-claims l =
    map lent_name l.out.items ++ names_in_all (exs_from (map assertion_view (drop l.claim-index l.claims)))
    ≡ map lent_name l.initial.out.items ++ names_in_all (exs_from (map assertion_view l.claims))
