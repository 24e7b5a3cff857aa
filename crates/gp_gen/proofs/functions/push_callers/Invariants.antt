use Rattle.std.proofs.Common.{◌≡◌, ◌++◌}
use Rattle.gp_gen.specs.Generated.{each_below, caller_of}
use Rattle.gp_gen.proofs.functions.push_callers.Given as goal

abbrev pub invariant-loop-j : goal.invariant-loop-j
invariant-loop-j l = l.all ≡ l.initial.all ++ each_below (caller_of l.n) l.j
