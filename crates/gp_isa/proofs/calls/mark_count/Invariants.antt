-- The marks at the first places are counted.
use Rattle.std.proofs.Common.{◌≡◌, ◌≤◌}
use Rattle.gp_isa.specs.kept.Ways.{marks_below}
use Rattle.gp_isa.proofs.calls.mark_count.Given as goal

abbrev pub invariant-loop-h : goal.invariant-loop-h
invariant-loop-h l = record { count : l.count ≡ marks_below l.row l.h; few : l.count ≤ l.h }
