use Rattle.std.proofs.Common.{◌≡◌, ◌++◌, take, drop}
use Rattle.std.specs.Option.{option_map}
use Rattle.eifcheck.specs.Form.{cut_at_dot}
use Rattle.eifcheck.proofs.command_line.first_dot.Given as goal

-- what is cut off from here on, with what stands before
abbrev pub invariant-bytes : goal.invariant-bytes
invariant-bytes l =
    cut_at_dot l.text ≡ option_map (λ parts. (take l.i l.text ++ parts.0, parts.1)) (cut_at_dot (drop l.i l.text))
