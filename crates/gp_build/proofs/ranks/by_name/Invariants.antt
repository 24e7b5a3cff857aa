use Rattle.gp_build.proofs.Ranking.{Counts}
use Rattle.gp_build.proofs.ranks.by_name.Given as goal

abbrev pub invariant-loop-f : goal.invariant-loop-f
invariant-loop-f l = Counts l.f l.order.items
