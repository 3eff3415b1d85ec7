use Rattle.std.proofs.Common.{rules}
use Rattle.eif_parse.proofs.parents.clause_body.Goals as goal
use Rattle.eif_parse.proofs.parents.clause_body.Goals.{in-Rename+in_ok-all-in-Rename, in-Export+in_ok-all-in-Export, in-Undefine+in_ok-all-in-Undefine, in-Redefine+in_ok-all-in-Redefine, in-Select+in_ok-all-in-Select}

pub returns : goal.returns
returns c =
    elim c.match-kind.branch [
      | in-Rename+in_ok-all-in-Rename w ↦ search rules
      | in-Export+in_ok-all-in-Export w ↦ search rules
      | in-Undefine+in_ok-all-in-Undefine w ↦ search rules
      | in-Redefine+in_ok-all-in-Redefine w ↦ search rules
      | in-Select+in_ok-all-in-Select w ↦ search rules
    ]
