use Rattle.std.proofs.Common.{◌≡◌, ◌%◌, eq-eqb, arith}
use Rattle.std.proofs.lemmas.Bool.Decides.{nat_tests}
use Rattle.gp_cells.proofs.WordFacts.{home_by_bits, home_bits}
use Rattle.gp_cells.proofs.word.is_home.Goals as goal

pub returns-then-word-eq1 : goal.returns-then-word-eq1
returns-then-word-eq1 c = (
  (λ t. let low : c.args.word % 4294967296 ≡ 0 = grind (arith, nat_tests) in home_by_bits c.args.word c.if-word-eq1.true low),
  (λ h. eq-eqb (c.args.word % 4294967296) 0 (home_bits c.args.word h)),
)
