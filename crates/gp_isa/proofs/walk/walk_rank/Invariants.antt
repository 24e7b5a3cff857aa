-- Functions of lower ranks are done, and those of this rank so far.
use Rattle.gp_isa.specs.kept.Walks.{Done, IsWalked}
use Rattle.gp_isa.proofs.walk.walk_rank.Given as goal

abbrev pub invariant-loop-f : goal.invariant-loop-f
invariant-loop-f l = IsWalked l.parts l.walk (Done l.ranks l.rank l.f)
