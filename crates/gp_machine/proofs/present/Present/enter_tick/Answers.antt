use Rattle.gp_journal.specs.State.{code_of}
use Rattle.gp_journal.proofs.Lemmas.{runs_there}
use Rattle.gp_machine.proofs.present.Present.enter_tick.Goals as goal

pub ticks-requires : goal.ticks-requires
ticks-requires g c = (runs_there (code_of g.R.Run.program) g.R.Run.settings c.args.self.now c.requires.reached c.is_in_range.ensures c.args.w c.args.g c.requires.may.runs).is_worker
