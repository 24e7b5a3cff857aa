-- How many places goroutines have in the lines of channels and mutexes.
use Rattle.std.specs.Prelude.{ℕ, ◌+◌, ◌==◌, List, count_by, sum_by}
use Rattle.gp_sync.specs.declared.effect.Waiter.{Waiter}
use Rattle.gp_sync.specs.Operations.{Channel, Mutex}

-- how many places g has in a line
abbrev pub in_line : ℕ → List Waiter → ℕ
in_line g line = count_by (λ (waiter : Waiter). waiter.g == g) line

-- in the two lines of a channel
abbrev pub in_channel : ℕ → Channel → ℕ
in_channel g channel = in_line g channel.senders + in_line g channel.receivers

-- in the line of a mutex
abbrev pub in_mutex : ℕ → Mutex → ℕ
in_mutex g mutex = in_line g mutex.waiters

-- how many places g has in all lines
unfoldable pub places_of : List Channel → List Mutex → ℕ → ℕ
places_of channels mutexes g = sum_by (in_channel g) channels + sum_by (in_mutex g) mutexes
