use Rattle.eif_parse.proofs.WholeTexts.{place_there}
use Rattle.eif_parse.proofs.class.place_or_end.Goals as goal

pub returns-then-at-count : goal.returns-then-at-count
returns-then-at-count c = place_there c.args.tokens.now.end c.args.tokens.now.tokens c.args.at c.place.result c.place.ensures
