-- What an actor keeps by its role.
use Rattle.std.specs.Prelude.{◌≡◌, ◌+◌, None}
use Rattle.atomic_table.specs.Seated.{TableId}
use Rattle.gp_journal.specs.declared.settings.Settings.{Settings}
use Rattle.gp_ring.specs.TwoEnds.{RingOf}
use Rattle.gp_workers.specs.Actors.{Actor, reading}
use Rattle.gp_workers.specs.declared.actor.Role.{Role}
use Rattle.gp_workers.specs.declared.actor.Role.TheVariants.{Worker, Profiler, Reader}
use Rattle.gp_workers.specs.kept.Locked.{IsWorker, IsProfiler}

-- which actor it is
abbrev pub actor_of : Settings → Role → Actor
actor_of settings (Worker share) = record { number = share.number; row = share.row; reader = None }
actor_of settings (Profiler share room) = record { number = share.number; row = share.row; reader = None }
actor_of settings (Reader number intake) = reading settings intake

-- what it keeps of its share and its numbers, or of the ring that it reads
abbrev pub IsRole : TableId → RingOf → Settings → Role → Type 0
IsRole book ring settings (Worker share) = IsWorker book settings share
IsRole book ring settings (Profiler share room) = IsProfiler book settings share × (room ≡ settings.room)
IsRole book ring settings (Reader number intake) = (number ≡ settings.workers + 1) × (intake.ring ≡ ring)
