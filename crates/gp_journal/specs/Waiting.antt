-- What wait lists tell of the clocks at which goroutines blocked.
use Rattle.std.specs.Prelude.{◌≡◌, ℕ, List, get_or}
use Rattle.std.specs.List.{AllByRecursion}
use Rattle.gp_sync.specs.declared.effect.Waiter.{Waiter}
use Rattle.gp_sync.specs.Operations.{Channel, Mutex, empty_channel, free_mutex}
use Rattle.gp_journal.specs.declared.goroutine.Goroutine.{Goroutine}
use Rattle.gp_journal.specs.State.{nobody}

-- The places of a wait list tell the clocks at which their goroutines blocked.
abbrev pub TellsClocks : List Goroutine → List Waiter → Type 0
TellsClocks goroutines waiters = AllByRecursion (λ (waiter : Waiter). waiter.since ≡ (get_or goroutines waiter.g nobody).blocked) waiters

-- All wait lists of a state do so.
pub record WaitListsTell (goroutines : List Goroutine) (channels : List Channel) (mutexes : List Mutex) : Type 0 where
  pub senders : (c : ℕ) → TellsClocks goroutines (get_or channels c empty_channel).senders
  pub receivers : (c : ℕ) → TellsClocks goroutines (get_or channels c empty_channel).receivers
  pub waiters : (m : ℕ) → TellsClocks goroutines (get_or mutexes m free_mutex).waiters
