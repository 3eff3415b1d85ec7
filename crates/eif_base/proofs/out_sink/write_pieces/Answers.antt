use Rattle.std.proofs.Common.{◌-◌, ◌++◌, length, take, drop, sym, ap, subst, ◌∙◌, arith, length-take}
use lib.Seq.{take-add, take-take}
use Rattle.std.specs.Io.KnownBytes.{Appends}
use Rattle.std.proofs.KnownBytes.{Appends-trans}
use Rattle.eif_base.proofs.out_sink.write_pieces.Goals as goal

pub pieces-preserved : goal.pieces-preserved
pieces-preserved g c =
    let done = c.pieces.written in
    let n = c.in-Ok.count in
    let xs = c.args.bytes.now in
    let fits = c.in-Ok.ensures.bound in
    let most = length-take (length xs - done) (drop done xs) in
    let joined = ap (λ l. take done xs ++ l) (take-take n (length xs - done) (drop done xs) (omega arith)) ∙ sym (take-add done n xs) in
    record {
      within = omega arith;
      taken = subst (Appends _ _) joined (Appends-trans _ _ _ _ _ c.pieces.invariant.taken c.in-Ok.ensures.bytes);
      kept = λ empty. absurd (omega (arith, ap length empty));
    }
