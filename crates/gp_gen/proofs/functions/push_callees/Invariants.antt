use Rattle.std.proofs.Common.{◌≡◌, ◌++◌}
use Rattle.gp_gen.specs.Generated.{each_below, callee_of}
use Rattle.gp_gen.proofs.functions.push_callees.Given as goal

abbrev pub invariant-loop-j : goal.invariant-loop-j
invariant-loop-j l = l.all ≡ l.initial.all ++ each_below (callee_of l.n) l.j
