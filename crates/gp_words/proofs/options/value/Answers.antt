use Rattle.std.proofs.Common.{arith}
use Rattle.std.proofs.lemmas.Grind.{common_steps}
use Rattle.gp_words.specs.Options.{value_of}
use Rattle.gp_words.proofs.options.value.Goals as goal

pub returns-in-Numbers : goal.returns-in-Numbers
unfolding value_of
returns-in-Numbers c = grind (arith, common_steps)

pub returns-in_ok-picks-in-Lists : goal.returns-in_ok-picks-in-Lists
unfolding value_of
returns-in_ok-picks-in-Lists c = grind (arith, common_steps)

pub returns-in-Divisors : goal.returns-in-Divisors
unfolding value_of
returns-in-Divisors c = grind (arith, common_steps)
