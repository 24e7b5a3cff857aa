use Rattle.std.proofs.Common.{◌≡◌}
use Rattle.gp_cells_tests.proofs.two.record.Given as goal

abbrev pub invariant-loop : goal.invariant-loop
invariant-loop g l = l.pass.cells ≡ l.initial.pass.cells
