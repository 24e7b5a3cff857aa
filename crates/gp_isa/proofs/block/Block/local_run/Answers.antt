use Rattle.std.proofs.Common.{◌+◌, arith}
use Rattle.gp_isa.specs.Trace.{is_local}
use Rattle.gp_isa.proofs.Runs.{run_is}
use Rattle.gp_isa.proofs.block.Block.local_run.Goals as goal

pub returns-clause-run : goal.returns-clause-run
returns-clause-run c parts block =
    run_is parts is_local c.args.self.now.statements.now c.args.self.now.loops c.args.loops c.args.calls c.args.at (c.args.at + c.min.result) c.in_ok-suffix.suffix.local c.saturating_sub.result c.in_ok-behind.behind c.in_ok-suffix.suffix
    c.in_ok-suffix.ensures.loops (c.in_ok-suffix.ensures.sums parts block) c.in_ok-suffix.ensures.few (c.in_ok-suffix.ensures.sums parts block).local (omega arith) (omega (arith, c.min.ensures)) (c.in_ok-behind.ensures parts block) (omega
    (arith, c.saturating_sub.ensures))
