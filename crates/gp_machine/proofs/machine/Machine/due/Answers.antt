use Rattle.gp_journal.specs.State.{code_of}
use Rattle.gp_journal.proofs.Lemmas.{kept_at}
use Rattle.gp_machine.proofs.machine.Machine.due.Goals as goal

pub due-requires-clause-slice : goal.due-requires-clause-slice
due-requires-clause-slice g c =
    rw c.self.invariant.its_last ((kept_at (code_of g.R.Run.program) g.R.Run.settings c.self.inside.journal.items c.self.invariant.in_range c.self.invariant.legal).numbered.slices c.args.w)
