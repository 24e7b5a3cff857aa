use Rattle.gp_ring.proofs.Rounding.{IsWalked}
use Rattle.gp_ring.proofs.gather.stop_of.Given as goal

-- so many records were walked over
abbrev pub invariant-loop : goal.invariant-loop
invariant-loop l = IsWalked l.slots l.fn.hdrsize l.records l.fn.from l.fn.to l.fn.at l.place l.counter
