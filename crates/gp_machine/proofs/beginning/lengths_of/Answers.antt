use Rattle.std.proofs.Common.{length, ap, arith}
use Rattle.gp_isa.specs.declared.parts.Parts.{Parts}
use Rattle.gp_machine.proofs.Ending.{all_lengths}
use Rattle.gp_machine.proofs.beginning.lengths_of.Goals as goal

pub returns : goal.returns
returns c =
    all_lengths c.args.program.now c.loop-f.lengths.items
    (omega (arith, c.loop-f.invariant.len, c.loop-f-test.false, c.len-functions.ensures, ap (λ (p : Parts). length p.functions) c.parts.ensures.parts))
    (λ k within. c.loop-f.invariant.each k (omega (arith, within, c.loop-f.invariant.len)))
