use Rattle.gp_ring.specs.Offered.{offer_of}
use Rattle.gp_ring.proofs.between.emission.emit_offer.Given as goal

-- the offer whose record is emitted
abbrev pub ghosts-store_delivered : goal.ghosts-store_delivered
ghosts-store_delivered a = record { decided = offer_of a.tag a.time a.header.now a.stack.now }
