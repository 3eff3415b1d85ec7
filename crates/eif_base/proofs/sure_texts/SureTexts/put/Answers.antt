use Rattle.std.proofs.Common.{◌≡◌, ℕ, List, [], ap}
use Rattle.std.specs.Prelude.{Option, Result, Some, Ok, Err, OnErr, unwrap_or}
use Rattle.eif_base.proofs.sure_texts.SureTexts.put.Goals as goal

-- what each name holds, where one that is absent holds no bytes
abbrev told : (List ℕ → Option (List ℕ)) → List ℕ → Option (List ℕ)
told f q = Some (unwrap_or (f q) [])

-- what a name holds depends on what the map has there alone
kept : {T E : Type 0} (r : Result T E) (new old : List ℕ → Option (List ℕ)) → OnErr r (new ≡ old) → OnErr r (told new ≡ told old)
kept (Ok _) new old h = h
kept (Err _) new old h = ap told h

pub returns-clause-err : goal.returns-clause-err
returns-clause-err c = kept c.put_text.result _ _ c.put_text.ensures.err
