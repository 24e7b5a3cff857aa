use Rattle.std.proofs.Common.{arith, sym}
use Rattle.gp_words.proofs.Digits.{divisor_none, divisor_some, divisor_not}
use Rattle.gp_words.proofs.Lists.{in_range}
use Rattle.gp_words.proofs.number.divisor.Goals as goal

pub returns-in_err-number : goal.returns-in_err-number
returns-in_err-number c = rw c.from_residual.ensures (sym (divisor_none c.args.whole c.args.word.now (sym c.in_err-number.ensures)))

pub nonzero_rem-whole : goal.nonzero_rem-whole
nonzero_rem-whole c = omega (arith, in_range 1 c.args.whole c.args.word.now c.in_ok-number.number (sym c.in_ok-number.ensures))

pub returns-then-whole-number-eq0 : goal.returns-then-whole-number-eq0
returns-then-whole-number-eq0 c = sym (divisor_some c.args.whole c.in_ok-number.number c.args.word.now (sym c.in_ok-number.ensures) c.if-whole-number-eq0.true)

pub returns-else-whole-number-eq0 : goal.returns-else-whole-number-eq0
returns-else-whole-number-eq0 c = sym (divisor_not c.args.whole c.in_ok-number.number c.args.word.now (sym c.in_ok-number.ensures) c.if-whole-number-eq0.false)
