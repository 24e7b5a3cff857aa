-- What stands behind the lock of a run keeps whenever the lock is free.
use Rattle.std.specs.Prelude.{◌≡◌, ◌≤◌, ◌<◌, ℕ, List}
use Rattle.std.specs.List.{AllByRecursion}
use Rattle.atomic_table.specs.Seated.{TableId}
use Rattle.gp_isa.specs.declared.parts.Parts.{Parts}
use Rattle.gp_stack.specs.declared.body.Body.{Body}
use Rattle.gp_journal.specs.declared.entry.Entry.{Entry}
use Rattle.gp_journal.specs.declared.settings.Settings.{Settings}
use Rattle.gp_journal.specs.Bodies.{AllStand, AreBodiesOf, progress_each}
use Rattle.gp_journal.specs.Run.{state_of}
use Rattle.gp_journal.specs.Settings.{AreInRange}
use Rattle.gp_ring.specs.TwoEnds.{RingOf}
use Rattle.gp_tally.specs.Rows.{Part}
use Rattle.gp_world.specs.RingEnds.{IsOf}
use Rattle.gp_world.specs.Rows.{is_done, has_finished}
use Rattle.gp_world.specs.Scene.{Scene}

-- The bodies stand in the program, there is one for each goroutine that was born, and room for all; that of a live goroutine
-- stands where its goroutine does.
pub record Fit (program : Parts) (settings : Settings) (journal : List Entry) (room : ℕ) (bodies : List Body) : Type 0 where
  pub in_range : AreInRange settings
  pub stand : AllStand program bodies
  pub its_bodies : AreBodiesOf (state_of program settings journal) (progress_each bodies)
  pub has_room : settings.cells ≤ room

-- What a turn keeps of the world: its book, and of which ring it has an end.
pub record Keeps (old new : Scene) : Type 0 where
  pub same_book : new.book ≡ old.book
  pub still_of : (ring : RingOf) → IsOf old.ring ring → IsOf new.ring ring

-- One that moves no body keeps that the bodies fit, too.
pub record Leaves (program : Parts) (settings : Settings) (old new : Scene) : Type 0 where
  pub keeps : Keeps old new
  pub still_fit : (room : ℕ) (bodies : List Body) → Fit program settings old.journal room bodies →
      Fit program settings new.journal room bodies

-- All of it.
pub record IsLocked (book : TableId) (ring : RingOf) (program : Parts) (settings : Settings) (world : Scene) (room : ℕ)
    (bodies : List Body) : Type 0 where
  pub its_book : world.book ≡ book
  pub its_ring : IsOf world.ring ring
  pub fit : Fit program settings world.journal room bodies

-- What the share of a worker is between turns, and that of the profiler.
pub record IsWorker (book : TableId) (settings : Settings) (share : Part) : Type 0 where
  pub its_book : share.book ≡ book
  pub number : share.number < settings.workers
  pub told : share.row.a ≤ is_done

pub record IsProfiler (book : TableId) (settings : Settings) (share : Part) : Type 0 where
  pub its_book : share.book ≡ book
  pub number : share.number ≡ settings.workers
  pub told : share.row.a ≤ has_finished
