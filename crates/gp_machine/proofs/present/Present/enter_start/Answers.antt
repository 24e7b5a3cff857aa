use Rattle.gp_journal.specs.State.{code_of}
use Rattle.gp_journal.proofs.Lemmas.{idle_within, runnable_born, born_cell, runnable_once}
use Rattle.gp_machine.proofs.present.Present.enter_start.Goals as goal

pub starts-requires-clause-worker : goal.starts-requires-clause-worker
starts-requires-clause-worker g c = idle_within c.args.self.now c.args.w c.requires.may.idle

pub starts-requires-clause-born : goal.starts-requires-clause-born
starts-requires-clause-born g c = runnable_born (code_of g.R.Run.program) g.R.Run.settings c.args.self.now c.requires.reached c.args.g c.requires.may.runnable

pub starts-requires-clause-cell : goal.starts-requires-clause-cell
starts-requires-clause-cell g c = born_cell (code_of g.R.Run.program) g.R.Run.settings c.args.self.now c.requires.reached c.is_in_range.ensures c.args.g
    (runnable_born (code_of g.R.Run.program) g.R.Run.settings c.args.self.now c.requires.reached c.args.g c.requires.may.runnable)

pub starts-requires-clause-once : goal.starts-requires-clause-once
starts-requires-clause-once g c = runnable_once (code_of g.R.Run.program) g.R.Run.settings c.args.self.now c.requires.reached c.args.g c.requires.may.runnable
