-- What the four operations on channels and mutexes do: the effect on the goroutine that makes one, and what is left.
use Rattle.std.specs.Prelude.{◌≡◌, refl, ℕ, ◌+◌, ◌-◌, Bool, true, false, List, [], ◌∷◌, ◌++◌, if◌then◌else◌, nat_lt}
use Rattle.gp_sync.specs.declared.effect.Effect.{Effect}
use Rattle.gp_sync.specs.declared.effect.Effect.TheVariants.{Done, Blocks, Wakes, Fault}
use Rattle.gp_sync.specs.declared.effect.Waiter.{Waiter}

-- A channel: how many values are in its buffer, and who waits, the head of each line first.
pub record Channel : Type 0 where
  pub buffered : ℕ
  pub senders : List Waiter
  pub receivers : List Waiter

-- A mutex: whether it is held, and who waits, the head first.
pub record Mutex : Type 0 where
  pub held : Bool
  pub waiters : List Waiter

-- goroutine g, which waits since a clock
abbrev pub waiter : ℕ → ℕ → Waiter
waiter g clock = record { g = g; since = clock }

-- an empty channel, and a free mutex, on which nobody waits
abbrev pub empty_channel : Channel
empty_channel = record { buffered = 0; senders = []; receivers = [] }

abbrev pub free_mutex : Mutex
free_mutex = record { held = false; waiters = [] }

-- A send wakes the head receiver where one waits. Else it fills the buffer where that isn't at the channel's
-- capacity, and otherwise blocks at the tail of the senders.
abbrev pub send_to : List Waiter → ℕ → Channel → Waiter → Effect × Channel
send_to (head ∷ rest) capacity channel me = (Wakes head.g head.since, record channel { receivers = rest })
send_to [] capacity channel me =
    if nat_lt channel.buffered capacity
    then (Done, record channel { buffered = channel.buffered + 1 })
    else (Blocks, record channel { senders = channel.senders ++ me ∷ [] })

abbrev pub send : ℕ → Channel → Waiter → Effect × Channel
send capacity channel me = send_to channel.receivers capacity channel me

-- A receive wakes the head sender where one waits: what is buffered stays, since the sender's value takes the
-- place of the one taken. Else it takes from the buffer where that has a value, and otherwise blocks at the tail
-- of the receivers.
abbrev pub recv_from : List Waiter → Channel → Waiter → Effect × Channel
recv_from (head ∷ rest) channel me = (Wakes head.g head.since, record channel { senders = rest })
recv_from [] channel me =
    if nat_lt 0 channel.buffered
    then (Done, record channel { buffered = channel.buffered - 1 })
    else (Blocks, record channel { receivers = channel.receivers ++ me ∷ [] })

abbrev pub recv : Channel → Waiter → Effect × Channel
recv channel me = recv_from channel.senders channel me

-- A lock takes a free mutex, and blocks at the tail where it is held, be it by the same goroutine.
abbrev pub lock : Mutex → Waiter → Effect × Mutex
lock mutex me =
    if mutex.held
    then (Blocks, record mutex { waiters = mutex.waiters ++ me ∷ [] })
    else (Done, record mutex { held = true })

-- An unlock of a free mutex is a fault. Of a held one it wakes the head waiter, the mutex staying held, or frees
-- it where none waits. Any goroutine may unlock.
abbrev pub unlock_for : List Waiter → Mutex → Effect × Mutex
unlock_for (head ∷ rest) mutex = (Wakes head.g head.since, record mutex { waiters = rest })
unlock_for [] mutex = (Done, record mutex { held = false })

abbrev pub unlock : Mutex → Effect × Mutex
unlock mutex = if mutex.held then unlock_for mutex.waiters mutex else (Fault, mutex)

-- Three examples. A send blocks where nobody receives and there is no buffer; a receive then wakes that sender; an
-- unlock hands a held mutex over to the head waiter.
blocked_send : send 0 empty_channel (waiter 3 7) ≡ (Blocks, record empty_channel { senders = waiter 3 7 ∷ [] })
blocked_send = refl

waking_receive : recv (record empty_channel { senders = waiter 3 7 ∷ [] }) (waiter 5 9) ≡ (Wakes 3 7, empty_channel)
waking_receive = refl

handed_over : unlock (record { held = true; waiters = waiter 3 7 ∷ waiter 4 8 ∷ [] })
    ≡ (Wakes 3 7, record { held = true; waiters = waiter 4 8 ∷ [] })
handed_over = refl
