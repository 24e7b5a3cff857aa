use Rattle.std.proofs.Common.{rules, arith, ◌≡◌, ◌+◌, length, vec_len}
use Rattle.gp_workers.specs.Actors.{Actor}
use Rattle.gp_workers.proofs.InOrder.{has_left}
use Rattle.gp_workers.proofs.seats.fn.play_all.scope.Goals as goal

pub push_reserved-requires : goal.push_reserved-requires
push_reserved-requires g c =
    let some = has_left _ (λ (it : Actor). it.number) (g.R.Run.settings.workers + 2) c.loop-actor.seats.items _ _ c.in-Some.actor c.in-Some.ensures.steps.0 c.loop-actor.invariant.splits in
    let room = c.loop-actor.invariant.room in
    let same : vec_len c.loop-actor.seats ≡ length c.loop-actor.seats.items = search rules in
    omega arith

pub push_reserved-requires-in-loop-actor : goal.push_reserved-requires-in-loop-actor
push_reserved-requires-in-loop-actor g c =
    let some = has_left _ (λ (it : Actor). it.number) (g.R.Run.settings.workers + 2) c.loop-actor.seats.items _ _ c.in-Some.actor c.in-Some.ensures.steps.0 c.loop-actor.invariant.splits in
    let room = c.loop-actor.invariant.room in
    let same : vec_len c.loop-actor.seats ≡ length c.loop-actor.seats.items = search rules in
    omega arith
