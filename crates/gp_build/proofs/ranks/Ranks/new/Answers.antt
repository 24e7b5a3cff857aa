use Rattle.std.proofs.Common.{◌≡◌, length, arith}
use Rattle.gp_build.proofs.Ranking.{are_ranks}
use Rattle.gp_build.proofs.ranks.Ranks.new.Goals as goal

pub returns : goal.returns
returns c =
    let count : c.loop-f.f ≡ length c.args.parts.now.functions = omega (arith, c.loop-f-test.false, c.loop-f.auto.f-end, c.len-count.ensures) in
    let long = c.loop-f.invariant.long in
    are_ranks c.args.parts.now c.in_ok-order.order.items c.loop-f.invariant.ordered (record { places = c.loop-f.places }) (omega arith)
    (λ g below. c.loop-f.invariant.each g (omega arith))
