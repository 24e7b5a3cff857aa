use Rattle.gp_ring.specs.Offered.{offer_of}
use Rattle.gp_ring.proofs.between.writing.count_one.Given as goal

-- the offer that is lost
abbrev pub ghosts-exchange_bump : goal.ghosts-exchange_bump
ghosts-exchange_bump a = record { decided = offer_of a.tag a.time a.header.now a.stack.now }
