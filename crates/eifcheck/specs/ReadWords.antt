-- What reading the words gives.
use Rattle.std.specs.Prelude.{◌≡◌, map, Option, Some, None, Result, Ok, Err}
use Rattle.std.specs.Option.{option_map}
use Rattle.eifcheck.specs.declared.words.Refusal.{Refusal}
use Rattle.eifcheck.specs.declared.words.Refusal.TheVariants.{Usage, Memory}
use Rattle.eifcheck.specs.declared.words.Words.{Words}
use Rattle.eifcheck.specs.Form as form

abbrev pub command_of : Words → form.Command
command_of w = record {
  root = w.root;
  list = option_map (λ name. name.now) w.list;
  files = map (λ name. name.now) w.files.items;
  workers = w.workers;
  form = w.form;
}

-- the value that the words stand for, or the refusal exactly where they stand for none; want of memory is free
abbrev pub Gives : {X A : Type 0} → (X → A) → Option A → Result X Refusal → Type 0
Gives view meant (Ok x) = meant ≡ Some (view x)
Gives view meant (Err Usage) = meant ≡ None
Gives view meant (Err Memory) = Unit {0}
