use Rattle.gp_journal.proofs.Lemmas.{some_request}
use Rattle.gp_machine.proofs.present.Present.enter_refuse.Goals as goal

pub serves-requires : goal.serves-requires
serves-requires g c = some_request g.R.Run.settings c.args.self.now c.requires.may.is_asked
