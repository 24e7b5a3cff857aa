-- One wait list of those of the channels and mutexes, and the line that keeps it.
use Rattle.std.specs.Prelude.{ℕ, ◌+◌, ◌<◌, List, length}
use Rattle.gp_sync.specs.declared.effect.Waiter.{Waiter}
use Rattle.gp_sync.specs.declared.wait_list.WaitList.{WaitList}
use Rattle.gp_sync.specs.declared.wait_list.WaitList.TheVariants.{Senders, Receivers, Lockers}
use Rattle.gp_sync.specs.WaitState.{WaitState, channel, mutex, with_channel, with_mutex}

-- its channel or mutex is there
abbrev pub IsThere : WaitState → WaitList → Type 0
IsThere state (Senders c) = c < length state.channels
IsThere state (Receivers c) = c < length state.channels
IsThere state (Lockers m) = m < length state.mutexes

-- who waits in it
abbrev pub waiters_in : WaitState → WaitList → List Waiter
waiters_in state (Senders c) = (channel state c).senders
waiters_in state (Receivers c) = (channel state c).receivers
waiters_in state (Lockers m) = (mutex state m).waiters

-- the state with others waiting in it
abbrev pub with_waiters : WaitState → WaitList → List Waiter → WaitState
with_waiters state (Senders c) waiters = with_channel state c (record (channel state c) { senders = waiters })
with_waiters state (Receivers c) waiters = with_channel state c (record (channel state c) { receivers = waiters })
with_waiters state (Lockers m) waiters = with_mutex state m (record (mutex state m) { waiters = waiters })

-- The number of its line, where there are so many channels: those of the senders come first, then those of the
-- receivers, then those of the mutexes.
abbrev pub number_of : ℕ → WaitList → ℕ
number_of channels (Senders c) = c
number_of channels (Receivers c) = channels + c
number_of channels (Lockers m) = channels + (channels + m)
