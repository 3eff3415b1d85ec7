use Rattle.eif_valid_bodies.proofs.Staying.{fewer_where, fewer_behind, fewer_branch, fewer_later, fewer_else, fewer_none, fewer_first, fewer_next, fewer_last}
use Rattle.eif_valid_bodies.proofs.known_stays.Goals as goal

pub returns : goal.returns
returns c = record {
  condition = fewer_where;
  compound = fewer_behind;
  branch = fewer_branch;
  later = fewer_later;
  else_branch = fewer_else;
  no_branch = fewer_none;
  first_turn = fewer_first;
  next_turn = fewer_next;
  last_turn = fewer_last;
}
