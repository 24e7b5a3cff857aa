use Rattle.std.proofs.Common.{◌<◌, ◌+◌, get_or, arith}
use Rattle.gp_isa.specs.kept.Walks.{Done}
use Rattle.gp_isa.proofs.Walks.{walked_less, done_first, done_last}
use Rattle.gp_isa.proofs.walk.walk_rank.Goals as goal

pub loop-f-init : goal.loop-f-init
loop-f-init c = walked_less c.args.parts.now c.args.walk.now (λ k. get_or c.args.ranks.now k 0 < c.args.rank) (Done c.args.ranks.now c.args.rank 0) c.requires.before (λ k within done. done_first c.args.ranks.now c.args.rank k done)

pub returns : goal.returns
returns c =
    walked_less c.args.parts.now c.loop-f.walk (Done c.args.ranks.now c.args.rank c.loop-f.f) (λ k. get_or c.args.ranks.now k 0 < c.args.rank + 1) c.loop-f.invariant
    (λ k within less. done_last c.args.ranks.now c.args.rank c.loop-f.f k (omega (arith, within, c.loop-f-test.false, c.len-f-end.ensures)) less)
