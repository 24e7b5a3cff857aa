use Rattle.std.proofs.Common.{◌≡◌, ◌++◌, map}
use Rattle.gp_build.specs.Samples.{group_of}
use Rattle.gp_build.proofs.samples.list.Given as goal

abbrev pub invariant-loop-shown : goal.invariant-loop-shown
invariant-loop-shown l =
    l.samples.items ++ map group_of l.shown-iterator ≡ map group_of l.initial.shown-iterator
