use Rattle.std.proofs.Common.{sym, ap, ◌∙◌}
use Rattle.std.specs.Int.{w32}
use Rattle.std.proofs.lemmas.Nat.Bits.{bit_at_set_same, bit_at_set_other, bit_at_clear_same, bit_at_clear_other}
use Rattle.gp_machine.specs.kept.Crowd.{one_if}
use Rattle.gp_machine.proofs.workers.mark.Goals as goal

pub returns-then-is-clause-here : goal.returns-then-is-clause-here
returns-then-is-clause-here c = bit_at_set_same w32 c.args.marks c.args.w c.requires ∙ sym (ap one_if c.if-is.true)

pub returns-then-is-clause-others : goal.returns-then-is-clause-others
returns-then-is-clause-others c = λ v low other. bit_at_set_other w32 c.args.marks c.args.w c.requires v other

pub returns-else-is-clause-here : goal.returns-else-is-clause-here
returns-else-is-clause-here c = bit_at_clear_same w32 c.args.marks c.args.w c.requires ∙ sym (ap one_if c.if-is.false)

pub returns-else-is-clause-others : goal.returns-else-is-clause-others
returns-else-is-clause-others c = λ v low other. bit_at_clear_other w32 c.args.marks c.args.w c.requires v low other
