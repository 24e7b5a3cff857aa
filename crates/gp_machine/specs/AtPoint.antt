-- What becomes of a goroutine that comes to a shared point.
use Rattle.gp_journal.specs.declared.answer.Applied.{Applied}
use Rattle.gp_journal.specs.declared.answer.Applied.TheVariants.{Passed, Born}
use Rattle.gp_machine.specs.declared.at_point.AtPoint.{AtPoint}
use Rattle.gp_machine.specs.declared.at_point.AtPoint.TheVariants.{Stays, Passes, Bears}

-- what the answer to its Op tells of it; of any other entry, that it stays
abbrev pub at_point : Applied → AtPoint
at_point (Passed woke event died) = Passes
at_point (Born h died) = Bears
at_point _ = Stays
