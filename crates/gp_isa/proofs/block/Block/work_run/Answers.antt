use Rattle.std.proofs.Common.{◌-◌, ◌≤◌, arith}
use Rattle.gp_isa.specs.Size.{is_work}
use Rattle.gp_isa.proofs.Runs.{run_is}
use Rattle.gp_isa.proofs.block.Block.work_run.Goals as goal

pub returns-clause-run : goal.returns-clause-run
returns-clause-run c parts block =
    let fits : c.last_within-to.result - c.args.at ≤ c.in_ok-suffix.suffix.work = omega (arith, c.min.ensures, c.min-many.ensures, c.last_within-to.ensures.within.1) in
    run_is parts is_work c.args.self.now.statements.now c.args.self.now.loops c.args.loops c.args.calls c.args.at c.last_within-to.result c.in_ok-suffix.suffix.work c.saturating_sub-points.result c.in_ok-points_from.field-0 c.in_ok-suffix.suffix
    c.in_ok-suffix.ensures.loops (c.in_ok-suffix.ensures.sums parts block) c.in_ok-suffix.ensures.few (c.in_ok-suffix.ensures.sums parts block).work c.last_within-to.ensures.within.0 fits (c.in_ok-points_from.ensures parts block)
    (omega (arith, c.saturating_sub-points.ensures))
