use Rattle.eifcheck.specs.ReadWords.{command_of}
use Rattle.eifcheck.proofs.Reports.{system_reported}
use Rattle.eifcheck.proofs.command.system_report.Goals as goal

pub returns : goal.returns
returns g c =
    system_reported (command_of c.args.words.now) c.args.files.now c.in_ok-verdict.verdict c.in_ok-bytes.bytes.items
    c.says_yes-is_yes.result c.in_ok-verdict.ensures
    c.in_ok-bytes.ensures c.says_yes-is_yes.ensures
