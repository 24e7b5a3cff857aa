use Rattle.gp_cpu.proofs.Pieces.{pieces_are_batches}
use Rattle.gp_cpu.proofs.Staying.{pieces_stay_whole}
use Rattle.gp_cpu.proofs.laws.law_batches.Goals as goal

pub returns-clause-batches : goal.returns-clause-batches
returns-clause-batches c = pieces_are_batches

pub returns-clause-stay : goal.returns-clause-stay
returns-clause-stay c = pieces_stay_whole
