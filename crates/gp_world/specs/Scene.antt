-- What a world is to its callers.
use Rattle.std.specs.Prelude.{ℕ, Bool, List}
use Rattle.atomic_table.specs.Seated.{TableId}
use Rattle.gp_journal.specs.declared.entry.Entry.{Entry}
use Rattle.gp_world.specs.declared.ring_end.RingEnd.{RingEnd}

-- which book its actors' shares are of, the journal, who waits for a worker, its end of the ring of samples, and whether somebody
-- met want of memory
pub record Scene : Type 0 where
  pub book : TableId
  pub journal : List Entry
  -- runnable goroutines that no worker has picked, in their order
  pub waiting : List ℕ
  pub ring : RingEnd
  pub failed : Bool
