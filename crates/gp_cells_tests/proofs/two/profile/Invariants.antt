use Rattle.std.proofs.Common.{◌≡◌}
use Rattle.gp_cells_tests.proofs.two.profile.Given as goal

abbrev pub invariant-loop-epoch : goal.invariant-loop-epoch
invariant-loop-epoch g l = l.pass.cells ≡ l.initial.pass.cells
