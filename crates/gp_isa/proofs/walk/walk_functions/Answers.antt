use Rattle.std.proofs.Common.{◌<◌, get_or, arith}
use Rattle.gp_isa.proofs.Tables.{whole_sizes}
use Rattle.gp_isa.proofs.Walks.{walked_less, walked_all}
use Rattle.gp_isa.proofs.walk.walk_functions.Goals as goal

pub loop-rank-init : goal.loop-rank-init
loop-rank-init c = walked_less c.args.parts.now c.in_ok-walk.walk (λ f. ⊥) (λ k. get_or c.args.ranks.now k 0 < 0) c.in_ok-walk.ensures (λ f within less. omega (arith, less))

pub returns-clause-sizes : goal.returns-clause-sizes
returns-clause-sizes c =
    whole_sizes c.args.parts.now c.requires.acyclic c.loop-rank.walk.sizes.items (λ k. get_or c.args.ranks.now k 0 < c.loop-rank.rank) c.loop-rank.invariant.sizes
    (λ f. omega (arith, c.requires.ranks.few f, c.loop-rank-test.false))

pub returns-clause-loops : goal.returns-clause-loops
returns-clause-loops c =
    walked_all c.args.parts.now c.loop-rank.walk (λ k. get_or c.args.ranks.now k 0 < c.loop-rank.rank) c.loop-rank.invariant
    (λ f. omega (arith, c.requires.ranks.few f, c.loop-rank-test.false))
