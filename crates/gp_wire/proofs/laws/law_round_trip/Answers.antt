use Rattle.gp_wire.proofs.RoundTripLemmas.{round_trip}
use Rattle.gp_wire.proofs.laws.law_round_trip.Goals as goal

pub returns : goal.returns
returns c = round_trip
