use Rattle.std.proofs.Common.{ap}
use Rattle.gp_sync.specs.WaitState.{WaitState}
use Rattle.gp_machine.specs.kept.Crowd.{Crowd}
use Rattle.gp_machine.specs.kept.Workers.{Crew}
use Rattle.gp_machine.specs.Queue.{Line}
use Rattle.gp_machine.proofs.present.Present.new.Goals as goal

pub invariant_of-result : goal.invariant_of-result
invariant_of-result g c =
    rw (← c.requires.program, ← c.requires.settings) (
      record {
        in_range = c.requires.range;
        in_limits = c.parts.ensures.limits;
        planned = c.in_ok-plan.ensures;
        its_capacities = ap (λ (lists : WaitState). lists.capacities) c.in_ok-goroutines.ensures.waits;
        its_period = ap (λ (crew : Crew). crew.period) c.in_ok-workers.ensures;
      },
      record {
        of_goroutines = ap (λ (goroutines : Crowd). goroutines.cells) c.in_ok-goroutines.ensures.goroutines;
        of_queue = ap (λ (queue : Line). queue.cells) c.in_ok-queue.ensures;
        of_waits = ap (λ (lists : WaitState). lists.cells) c.in_ok-goroutines.ensures.waits;
      },
    )
