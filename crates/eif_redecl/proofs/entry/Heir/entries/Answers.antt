use Rattle.std.proofs.Common.{List, map, ap, ◌∙◌}
use Rattle.std.proofs.lemmas.Result.{IfOk-weaker}
use Rattle.eif_redecl.proofs.HeirLaws.{named_in, parents_match}
use Rattle.eif_redecl.specs.EntryViews.{seen}
use Rattle.eif_redecl.proofs.entry.Heir.entries.Goals as goal

pub entries_by-requires-clause-parents : goal.entries_by-requires-clause-parents
entries_by-requires-clause-parents c =
    parents_match c.args.self.now c.requires c.parents.result.now c.parents.ensures

pub returns : goal.returns
returns c =
    IfOk-weaker c.entries_by.result _ _
    (λ g are f n named_so. are f n named_so ∙ ap (map seen) (named_in c.args.self.now c.requires n)) c.entries_by.ensures
