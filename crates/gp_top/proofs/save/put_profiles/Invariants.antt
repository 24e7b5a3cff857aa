-- The store has the files so far.
use Rattle.std.proofs.Common.{take}
use Rattle.gp_top.specs.Files.{goroutine_files}
use Rattle.gp_top.specs.Putting.{ArePut}
use Rattle.gp_top.proofs.save.put_profiles.Given as goal

abbrev pub invariant-loop-at : goal.invariant-loop-at
invariant-loop-at g l =
    ArePut (take l.at (goroutine_files l.program l.file l.profiles))
    (g.K.Store.files l.initial.store, g.K.Store.asked l.initial.store, g.K.Store.faults l.initial.store)
    (g.K.Store.files l.store, g.K.Store.asked l.store, g.K.Store.faults l.store)
