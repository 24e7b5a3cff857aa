use Rattle.std.proofs.Common.{arith}
use Rattle.gp_journal.specs.State.{code_of}
use Rattle.gp_journal.proofs.Lemmas.{runs_there, run_extent}
use Rattle.gp_machine.proofs.Acting.{can_count}
use Rattle.gp_machine.proofs.present.Present.enter_run.Goals as goal

pub passes-requires-clause-worker : goal.passes-requires-clause-worker
passes-requires-clause-worker g c = (runs_there (code_of g.R.Run.program) g.R.Run.settings c.args.self.now c.requires.reached c.is_in_range.ensures c.args.w c.args.g c.requires.may.runs).is_worker

pub passes-requires-clause-born : goal.passes-requires-clause-born
passes-requires-clause-born g c = (runs_there (code_of g.R.Run.program) g.R.Run.settings c.args.self.now c.requires.reached c.is_in_range.ensures c.args.w c.args.g c.requires.may.runs).is_born

pub passes-requires-clause-room : goal.passes-requires-clause-room
passes-requires-clause-room g c = can_count g.R.Run.program g.R.Run.settings c.args.self.now c.requires.reached c.is_in_range.ensures c.args.w c.args.g c.args.n
    (let few = run_extent (code_of g.R.Run.program) g.R.Run.settings c.args.self.now c.args.w c.args.g c.args.n c.requires.may.is_next in omega arith)
