-- How instructions begin.
use Rattle.std.proofs.Common.{◌≡◌, refl}
use Rattle.eif_grammar.specs.declared.terminal.Terminal.{Terminal}
use Rattle.eif_grammar.specs.declared.terminal.Terminal.TheVariants as t
use Rattle.eif_grammar.specs.InstructionRules.{InstructionStart, by_name, by_result, by_precursor, by_current, by_create, by_if, by_from, by_check, no_instruction, instruction_start}

-- what the start of an instruction says of its token
abbrev pub InstructionToken : Terminal → InstructionStart → Type 0
InstructionToken x by_name = x ≡ t.Identifier
InstructionToken x by_result = x ≡ t.Result
InstructionToken x by_precursor = x ≡ t.Precursor
InstructionToken x by_current = x ≡ t.Current
InstructionToken x by_create = x ≡ t.Create
InstructionToken x by_if = x ≡ t.If
InstructionToken x by_from = x ≡ t.From
InstructionToken x by_check = x ≡ t.Check
InstructionToken x no_instruction = Unit {0}

pub instruction_token : (x : Terminal) → InstructionToken x (instruction_start x)
instruction_token t.Identifier = refl
instruction_token t.Result = refl
instruction_token t.Precursor = refl
instruction_token t.Current = refl
instruction_token t.Create = refl
instruction_token t.If = refl
instruction_token t.From = refl
instruction_token t.Check = refl
instruction_token _ = tt
