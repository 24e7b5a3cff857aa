use Rattle.std.proofs.Common.{sym, ap, ◌∙◌}
use Rattle.gp_report.specs.Fault.{fault_line}
use Rattle.gp_report.proofs.line.made.Goals as goal

pub returns-in_ok-format-in-Usage : goal.returns-in_ok-format-in-Usage
returns-in_ok-format-in-Usage c = c.in_ok-format-in-Usage.ensures.ok ∙ ap fault_line (sym c.in-Usage.is)

pub returns-in_ok-format-in-Line : goal.returns-in_ok-format-in-Line
returns-in_ok-format-in-Line c = c.in_ok-format-in-Line.ensures.ok ∙ ap fault_line (sym c.in-Line.is)

pub returns-in_ok-format-in-At : goal.returns-in_ok-format-in-At
returns-in_ok-format-in-At c = c.in_ok-format-in-At.ensures.ok ∙ ap fault_line (sym c.in-At.is)
