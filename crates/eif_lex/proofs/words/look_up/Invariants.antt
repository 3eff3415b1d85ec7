use Rattle.std.proofs.Common.{◌≡◌, length, map}
use Rattle.eif_lex.specs.Rows.{listed_in_any_case}
use Rattle.eif_lex.proofs.words.look_up.Given as goal

abbrev pub invariant-rows : goal.invariant-rows
invariant-rows l = listed_in_any_case (map (λ r. (r.0.now, r.1)) l.rows) l.word ≡ listed_in_any_case (map (λ r. (r.0.now, r.1)) l.initial.rows) l.word

abbrev pub decreases-rows : goal.decreases-rows
decreases-rows l = length l.rows
