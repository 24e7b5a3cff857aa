-- The first rows have been sent through.
use Rattle.gp_isa.proofs.Rows.{GoesThrough}
use Rattle.gp_isa.proofs.calls.go_through.Given as goal

abbrev pub invariant-loop-f : goal.invariant-loop-f
invariant-loop-f l = GoesThrough l.fn.rows l.rows l.through l.f
