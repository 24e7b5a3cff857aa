use Rattle.std.proofs.Common.{◌-◌, length}
use Rattle.gp_text.specs.Page.{texts, IsReaching}
use Rattle.gp_text.proofs.page.reach.Given as goal

abbrev pub invariant-loop-alloc : goal.invariant-loop-alloc
invariant-loop-alloc l = IsReaching (texts l.initial.page) (texts l.page) l.count

abbrev pub decreases-loop-alloc : goal.decreases-loop-alloc
decreases-loop-alloc l = l.count - length (texts l.page)
