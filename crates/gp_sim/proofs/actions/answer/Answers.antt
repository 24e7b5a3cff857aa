use Rattle.std.proofs.Common.{subst, arith}
use Rattle.gp_journal.specs.Settings.{AreInRange}
use Rattle.gp_journal.specs.State.{code_of}
use Rattle.gp_journal.proofs.Lemmas.{kept_at}
use Rattle.gp_sim.proofs.actions.answer.Goals as goal

pub overflow_add-result : goal.overflow_add-result
overflow_add-result g c =
    let range = subst AreInRange c.requires.settings c.requires.range in
    let few = (kept_at (code_of g.R.Run.program) g.R.Run.settings c.args.machine.now range c.journal.ensures.legal).numbered.epochs in
    let a = range.few_requests in
    let e = c.last_epoch.ensures in omega arith
