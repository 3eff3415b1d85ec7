use Rattle.std.proofs.Common.{◌≡◌, map, take}
use Rattle.eifcheck.proofs.reading.all_names.Given as goal

abbrev pub invariant-files : goal.invariant-files
invariant-files l = map (λ name. name.now) l.all.items ≡ map (λ name. name.now) (take l.name-index l.files)
