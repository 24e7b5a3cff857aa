use Rattle.std.proofs.Common.{◌≤◌, ◌-◌, ◌+◌, ◌*◌, ℕ, length, drop}
use Rattle.gp_stack.specs.kept.Looks.{steps, points_of_all}
use Rattle.gp_stack.proofs.Peeks.{Sees}
use Rattle.gp_stack.proofs.peek.+look.Given as goal

abbrev pub decreases-look_at : goal.decreases-look_at
decreases-look_at l = 4 * (9 * l.calls + l.loops)

abbrev pub decreases-look_some : goal.decreases-look_some
decreases-look_some l = 4 * (9 * l.calls + l.loops) + 1

abbrev pub decreases-look_on : goal.decreases-look_on
decreases-look_on l = 4 * (9 * l.calls + l.loops) + 2

abbrev pub decreases-look_turns : goal.decreases-look_turns
decreases-look_turns l = 4 * (9 * l.calls + l.loops) + 3

abbrev pub invariant-look_on-loop-at : goal.invariant-look_on-loop-at
invariant-look_on-loop-at l = record {
  few : l.local ≤ l.limit;
  sees : (f : ℕ) → Sees (steps (points_of_all l.program l.calls l.loops f (drop l.from l.block.statements.now))) l.limit l.local (steps (points_of_all l.program l.calls l.loops f (drop l.at l.block.statements.now)));
}

abbrev pub decreases-look_on-loop-at : goal.decreases-look_on-loop-at
decreases-look_on-loop-at l = length l.block.statements.now - l.at
