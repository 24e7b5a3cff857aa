-- Functions of the ranks so far are done.
use Rattle.std.proofs.Common.{◌<◌, get_or}
use Rattle.gp_isa.specs.kept.Walks.{IsWalked}
use Rattle.gp_isa.proofs.walk.walk_functions.Given as goal

abbrev pub invariant-loop-rank : goal.invariant-loop-rank
invariant-loop-rank l = IsWalked l.parts l.walk (λ k. get_or l.ranks k 0 < l.rank)
