use Rattle.std.proofs.Common.{◌≡◌, take}
use Rattle.gp_top.specs.Report.{refusals}
use Rattle.gp_top.proofs.report.refusals.Given as goal

abbrev pub invariant-loop-made : goal.invariant-loop-made
invariant-loop-made l = l.refused.items ≡ refusals (take l.made-index l.journal)
