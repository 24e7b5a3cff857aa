use Rattle.std.proofs.Common.{◌≡◌, ◌+◌, ◌++◌, drop}
use Rattle.gp_text.specs.Reading.{each_at}
use Rattle.gp_text.proofs.declare.each.Given as goal

abbrev pub invariant-loop-at : goal.invariant-loop-at
invariant-loop-at g l = l.all ++ each_at g.D.Declaration.declared_by (l.at + 1) (drop l.at l.said) ≡ each_at g.D.Declaration.declared_by 1 l.said
