use Rattle.std.proofs.Common.{length, ap, arith}
use Rattle.gp_machine.specs.kept.Workers.{Crew}
use Rattle.gp_machine.proofs.Crew.{kept_worked}
use Rattle.gp_machine.proofs.workers.Workers.works.Goals as goal

pub invariant_of-self : goal.invariant_of-self
invariant_of-self c =
    kept_worked c.self.invariant c.args.w c.index_mut-worker.result.now c.work.new.worker c.args.n c.count_down-at_tick.new.left
    c.mark-self-inside.result c.moved-self-inside.result c.args.died c.count_down-at_tick.result c.is_some-was.result c.is_some-is.result
    (omega (arith, c.requires.within, ap (λ (crew : Crew). length crew.all) c.self.view_is)) c.index_mut-worker.ensures.value c.work.ensures c.count_down-at_tick.ensures.left c.is_some-was.ensures c.is_some-is.ensures
    c.mark-self-inside.ensures.here c.mark-self-inside.ensures.others c.moved-self-inside.ensures
