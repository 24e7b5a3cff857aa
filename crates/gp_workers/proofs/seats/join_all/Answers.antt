use Rattle.std.proofs.Common.{rules, arith, ◌≡◌, ◌+◌, length, vec_len}
use Rattle.gp_workers.specs.Actors.{Actor}
use Rattle.gp_workers.proofs.InOrder.{has_left}
use Rattle.gp_workers.proofs.seats.join_all.Goals as goal

pub push_reserved-requires : goal.push_reserved-requires
push_reserved-requires g c =
    let some = has_left (λ (it : Actor). it.number) _ (g.R.Run.settings.workers + 2) c.loop-seat.back.items _ _ c.in-Some.seat c.in-Some.ensures.steps.0 c.loop-seat.invariant.splits in
    let room = c.loop-seat.invariant.room in
    let same : vec_len c.loop-seat.back ≡ length c.loop-seat.back.items = search rules in
    omega arith
