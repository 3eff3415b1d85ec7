use Rattle.eifcheck.specs.declared.reading.Stop.TheVariants as stop
use Rattle.eifcheck.specs.ReadWords.{command_of}
use Rattle.eifcheck.proofs.Checked.{judged, stopped}
use Rattle.eifcheck.proofs.command.check.Goals as goal

pub returns-in-Ok-clause-answer : goal.returns-in-Ok-clause-answer
returns-in-Ok-clause-answer g c =
    judged (command_of c.args.words.now) _ _ _ _ _ c.in-Ok.input _ c.in-Ok.ensures.reads c.judge.ensures.ends
    c.judge.ensures.answer

pub returns-in-Err-TooLarge-clause-answer : goal.returns-in-Err-TooLarge-clause-answer
returns-in-Err-TooLarge-clause-answer g c =
    stopped (command_of c.args.words.now) _ _ _ _ c.in-Err-TooLarge.field-0 stop.TooLarge c.in-Err-TooLarge.field-0-is
    c.in-Err-TooLarge.ensures.reads

pub returns-in-Err-ReadFault-clause-answer : goal.returns-in-Err-ReadFault-clause-answer
returns-in-Err-ReadFault-clause-answer g c =
    stopped (command_of c.args.words.now) _ _ _ _ c.in-Err-ReadFault.field-0 stop.ReadFault c.in-Err-ReadFault.field-0-is
    c.in-Err-ReadFault.ensures.reads

pub returns-in-Err-Memory-clause-answer : goal.returns-in-Err-Memory-clause-answer
returns-in-Err-Memory-clause-answer g c =
    stopped (command_of c.args.words.now) _ _ _ _ c.in-Err-Memory.field-0 stop.Memory c.in-Err-Memory.field-0-is
    c.in-Err-Memory.ensures.reads
