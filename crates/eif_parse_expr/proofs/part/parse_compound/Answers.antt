use Rattle.std.proofs.Common.{◌≡◌, ℕ, List, drop, Result, Ok, Err, IfOk}
use Rattle.std.specs.declared.vec.Vec.{Vec}
use Rattle.std.specs.declared.alloc.Global.{Global}
use Rattle.eif_tree.specs.declared.Instr.{Instr}
use Rattle.eif_tree.specs.Height.{compound_height}
use Rattle.eif_grammar.specs.Tokens.{Token}
use Rattle.eif_grammar.specs.Goals.{compound, instruction_goal}
use Rattle.eif_grammar.specs.Outcomes.{Calls}
use Rattle.eif_grammar_laws.proofs.InstructionLaws.{only_compound}
use Rattle.eif_grammar_laws.proofs.FrontLaws.{longest_compound}
use Rattle.eif_parse_expr.specs.declared.parsed.PartError.{PartError}
use Rattle.eif_parse_expr.specs.declared.parsed.PartError.TheVariants.{At, Memory}
use Rattle.eif_parse_expr.specs.declared.parsed.Parsed.{Parsed}
use Rattle.eif_parse_expr.specs.InstructionSubrules.{inss_view}
use Rattle.eif_parse_expr.specs.Readings.{Reads}
use Rattle.eif_parse_expr.specs.ReadParts.{ReadsCompound}
use Rattle.eif_parse_expr.proofs.part.parse_compound.Goals as goal

of_reading : (room : ℕ) (ts : List Token) (start : ℕ) (r : Result (Parsed (Vec Instr Global)) PartError)
    → Reads (Calls (instruction_goal (compound room)) (drop start ts)) inss_view ts start r → IfOk r (λ x. x.height ≡ compound_height (inss_view x.tree)) → ReadsCompound room ts start r
of_reading room ts start (Ok x) l high = record {
  only = only_compound room (drop start ts) (drop x.next ts) (inss_view x.tree) l.outcome;
  high = high;
  forward = l.forward;
  within = l.within;
}
of_reading room ts start (Err (At p)) l high = record { past = longest_compound room (drop start ts) (drop p ts) l.outcome; forward = l.forward; within = l.within }
of_reading room ts start (Err Memory) l high = tt

pub returns : goal.returns
returns c = of_reading c.args.room c.args.tokens.now.tokens c.args.from c.compound.result c.compound.ensures.reads c.compound.ensures.height
