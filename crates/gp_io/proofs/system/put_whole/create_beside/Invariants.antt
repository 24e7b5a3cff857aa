-- All names that were tried so far are taken.
use Rattle.std.proofs.Common.{ℕ, List, map}
use Rattle.gp_io.specs.OfSystem.{Taken, Makes}
use Rattle.gp_io.proofs.system.put_whole.create_beside.Given as goal

abbrev pub invariant-loop-number : goal.invariant-loop-number
invariant-loop-number g l = (names : List (List ℕ)) × Makes (g.F.Folder.calls l.initial.folder) (map Taken names) (g.F.Folder.calls l.folder)
