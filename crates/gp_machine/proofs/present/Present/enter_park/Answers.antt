use Rattle.gp_journal.specs.State.{code_of}
use Rattle.gp_journal.proofs.Lemmas.{runs_there, runner_absent}
use Rattle.gp_machine.proofs.present.Present.enter_park.Goals as goal

pub parks-requires-clause-worker : goal.parks-requires-clause-worker
parks-requires-clause-worker g c = (runs_there (code_of g.R.Run.program) g.R.Run.settings c.args.self.now c.requires.reached c.is_in_range.ensures c.args.w c.args.g c.requires.may.runs).is_worker

pub parks-requires-clause-born : goal.parks-requires-clause-born
parks-requires-clause-born g c = (runs_there (code_of g.R.Run.program) g.R.Run.settings c.args.self.now c.requires.reached c.is_in_range.ensures c.args.w c.args.g c.requires.may.runs).is_born

pub parks-requires-clause-cell : goal.parks-requires-clause-cell
parks-requires-clause-cell g c = (runs_there (code_of g.R.Run.program) g.R.Run.settings c.args.self.now c.requires.reached c.is_in_range.ensures c.args.w c.args.g c.requires.may.runs).is_cell

pub parks-requires-clause-absent : goal.parks-requires-clause-absent
parks-requires-clause-absent g c = runner_absent (code_of g.R.Run.program) g.R.Run.settings c.args.self.now c.requires.reached c.args.w c.args.g c.requires.may.runs
