use Rattle.gp_ring.specs.Offered.{offer_of}
use Rattle.gp_ring.proofs.between.writing.begin_loss.Given as goal

-- the offer that is lost
abbrev pub ghosts-store_lost : goal.ghosts-store_lost
ghosts-store_lost a = record { decided = offer_of a.tag a.time a.header.now a.stack.now }
