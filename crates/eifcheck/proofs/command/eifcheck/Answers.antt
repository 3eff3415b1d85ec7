use Rattle.std.proofs.Common.{map, string_bytes}
use Rattle.eifcheck.specs.Form.{form}
use Rattle.eifcheck.specs.ReadWords.{command_of}
use Rattle.eifcheck.proofs.Completeness.{complete_words}
use Rattle.eifcheck.proofs.NoMemory.{no_memory, no_memory_completes, no_memory_sound}
use Rattle.eifcheck.proofs.Soundness.{sound_words}
use Rattle.eifcheck.proofs.command.eifcheck.Goals as goal

pub returns-in-Ok-clause-complete : goal.returns-in-Ok-clause-complete
returns-in-Ok-clause-complete g c =
    complete_words (form (map string_bytes c.args.words.now)) (command_of c.in-Ok.words) c.in-Ok.ensures
    _ _ _ _ _ _ _ _ _ _ c.check.ensures.answer c.check.ensures.read_faults c.check.ensures.write_faults

pub returns-in-Ok-clause-sound : goal.returns-in-Ok-clause-sound
returns-in-Ok-clause-sound g c =
    sound_words (form (map string_bytes c.args.words.now)) (command_of c.in-Ok.words) c.in-Ok.ensures
    _ _ _ _ _ _ c.check.ensures.answer

pub returns-in-Err-Memory-clause-answer : goal.returns-in-Err-Memory-clause-answer
returns-in-Err-Memory-clause-answer g c = no_memory (form (map string_bytes c.args.words.now)) _ _ _

pub returns-in-Err-Memory-clause-complete : goal.returns-in-Err-Memory-clause-complete
returns-in-Err-Memory-clause-complete g c = no_memory_completes (form (map string_bytes c.args.words.now)) _ _ _ _ _

pub returns-in-Err-Memory-clause-sound : goal.returns-in-Err-Memory-clause-sound
returns-in-Err-Memory-clause-sound g c = no_memory_sound (form (map string_bytes c.args.words.now)) _
