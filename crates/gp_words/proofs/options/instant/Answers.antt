use Rattle.std.proofs.Common.{arith}
use Rattle.std.proofs.lemmas.Grind.{common_steps}
use Rattle.gp_words.specs.Options.{value_of}
use Rattle.gp_words.proofs.options.instant.Goals as goal

pub returns-then-eq : goal.returns-then-eq
unfolding value_of
returns-then-eq c = let e = c.if-eq.ensures in grind (arith, common_steps)

pub returns-in_err-clock : goal.returns-in_err-clock
unfolding value_of
returns-in_err-clock c = let e = c.in_err-clock.ensures in grind (arith, common_steps)

pub returns : goal.returns
unfolding value_of
returns c = let e = c.in_ok-clock.ensures in grind (arith, common_steps)
