use Rattle.std.proofs.Common.{◌<◌, ◌≤◌, length, reverse}
use Rattle.gp_isa.specs.declared.parts.Parts.{Parts}
use Rattle.gp_isa.specs.Block.{IsBlock, IsRun}
use Rattle.gp_isa.specs.Size.{is_work}
use Rattle.gp_stack.specs.kept.Passing.{IsWorkRun}
use Rattle.gp_stack.proofs.Working.{told_both, work_stands}
use Rattle.gp_stack.proofs.place.Place.work_here.Goals as goal

pub returns-clause-stands : goal.returns-clause-stands
returns-clause-stands c =
    told_both c.work_run.result (λ run. (c.args.self.now.top.at < run.to) × (run.to ≤ length c.args.here.now.statements.now))
    (λ run. (parts : Parts) → IsBlock parts c.args.here.now → IsRun parts is_work c.args.here.now.statements.now c.args.self.now.top.loops c.args.self.now.top.calls c.args.self.now.top.at run)
    (λ run. IsWorkRun c.args.program.now c.args.self.now.top (reverse c.args.self.now.outer.items) run.to run.points)
    (λ run within is. work_stands c.args.program.now c.parts.ensures.checked c.args.self.now.top (reverse c.args.self.now.outer.items) c.args.here.now.statements.now run c.requires.statements within (is c.args.program.now c.requires.kept))
    c.work_run.ensures.within c.work_run.ensures.run
