use Rattle.std.proofs.Common.{◌≡◌}
use Rattle.gp_cells.specs.Words.{IsHome}
use Rattle.gp_cells_tests.proofs.two.work.Given as goal

-- the next take is from a home word
abbrev pub invariant-loop : goal.invariant-loop
invariant-loop g l = record { pass : l.pass.cells ≡ l.initial.pass.cells; from_home : IsHome l.word }
