use Rattle.std.proofs.Common.{arith}
use Rattle.gp_isa.specs.Trace.{trace}
use Rattle.gp_isa.proofs.Runs.{entry_at}
use Rattle.gp_isa.proofs.block.Block.entry.Goals as goal

pub returns-clause-entry : goal.returns-clause-entry
returns-clause-entry c parts block =
    entry_at (trace parts) c.args.self.now.table.now c.args.self.now.loops c.args.self.now.base c.args.at c.in_ok-place.place c.args.self.now.statements.now _ (block (omega arith)) (omega arith) c.in_ok-place.ensures.1
