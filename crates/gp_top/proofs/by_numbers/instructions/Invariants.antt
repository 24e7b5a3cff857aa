-- The instructions so far are those of the first workers.
use Rattle.std.proofs.Common.{◌≡◌, ◌≤◌, take, map}
use Rattle.gp_journal.specs.declared.goroutine.Worker.{Worker}
use Rattle.gp_machine.specs.State.{code_of}
use Rattle.gp_machine.specs.Run.{last}
use Rattle.gp_top.proofs.by_numbers.instructions.Given as goal

abbrev pub invariant-loop-w : goal.invariant-loop-w
invariant-loop-w g l = record {
  so_far : l.done.items ≡ take l.w (map (λ (worker : Worker). worker.instructions) (last (code_of g.R.Run.program) g.R.Run.settings l.machine).workers);
  within : l.w ≤ l.settings.workers;
}
