-- The names so far fit.
use Rattle.std.proofs.Common.{map, take}
use Rattle.gp_isa.specs.InLimits.{AreNames}
use Rattle.gp_isa.proofs.in_limits.names_fit.Given as goal

abbrev pub invariant-loop-at : goal.invariant-loop-at
invariant-loop-at g l = AreNames (map g.N.Named.name_of (take l.at l.items))
