use Rattle.gp_journal.specs.State.{code_of}
use Rattle.gp_journal.proofs.Lemmas.{some_request, epochs_below, none_active}
use Rattle.gp_machine.proofs.present.Present.enter_open.Goals as goal

pub serves-requires : goal.serves-requires
serves-requires g c = some_request g.R.Run.settings c.args.self.now c.requires.may.is_asked

pub opens-requires-clause-none : goal.opens-requires-clause-none
opens-requires-clause-none g c = rw c.serves.ensures (none_active g.R.Run.settings c.args.self.now c.requires.may.is_asked)

pub opens-requires-clause-before : goal.opens-requires-clause-before
opens-requires-clause-before g c = rw c.serves.ensures (epochs_below (code_of g.R.Run.program) g.R.Run.settings c.args.self.now c.requires.reached
    (none_active g.R.Run.settings c.args.self.now c.requires.may.is_asked) c.args.epoch c.requires.may.next_epoch)
