-- What operations do to the wait lists of channels and mutexes.
use Rattle.std.proofs.Common.{◌≡◌, ℕ, ◌+◌, ◌≤◌, Bool, true, false, cond, List, [], ◌∷◌, ◌++◌, get_or, set, refl, ap, ◌∙◌, ◌-◌, arith, nat_lt, if◌then◌else◌, ◌==◌}
use Rattle.std.proofs.lemmas.List.Sums.{sum_by-cons, sum_by_push}
use Rattle.gp_sync.specs.declared.effect.Effect.{Effect}
use Rattle.gp_sync.specs.declared.effect.Effect.TheVariants.{Done, Blocks, Wakes, Fault}
use Rattle.gp_sync.specs.declared.effect.Waiter.{Waiter}
use Rattle.gp_sync.specs.Operations.{Channel, Mutex, empty_channel, free_mutex, send, send_to, recv, recv_from, lock, unlock, unlock_for}
use Rattle.gp_sync.specs.Places.{in_line, in_channel, in_mutex, places_of}
use Rattle.gp_journal.proofs.Places.{sum_by-set_le}
use Rattle.gp_journal.proofs.Parts.{one_if, Balances}

-- a wait list behind its head, and with one more at its tail
head_of : (k : ℕ) (head : Waiter) (rest waiters : List Waiter) → waiters ≡ head ∷ rest → in_line k waiters ≡ one_if (head.g == k) + in_line k rest
head_of k head rest waiters e = ap (in_line k) e ∙ sum_by-cons (λ (x : Waiter). cond (x.g == k) 1 0) head rest

tail_of : (k : ℕ) (waiters : List Waiter) (me : Waiter) → in_line k (waiters ++ me ∷ []) ≡ in_line k waiters + one_if (me.g == k)
tail_of k waiters me = sum_by_push (λ (x : Waiter). cond (x.g == k) 1 0) waiters me

-- what an operation of g does to the number of places of goroutine k at one channel, or at one mutex
abbrev AtChannel : Effect × Channel → ℕ → ℕ → Channel → Type 0
AtChannel outcome g k channel = Balances outcome.0 g k (in_channel k channel) (in_channel k outcome.1)

abbrev AtMutex : Effect × Mutex → ℕ → ℕ → Mutex → Type 0
AtMutex outcome g k mutex = Balances outcome.0 g k (in_mutex k mutex) (in_mutex k outcome.1)

send_balances : (k : ℕ) (receivers : List Waiter) (capacity : ℕ) (channel : Channel) (me : Waiter) → channel.receivers ≡ receivers →
    Balances (send_to receivers capacity channel me).0 me.g k (in_channel k channel) (in_channel k (send_to receivers capacity channel me).1)
send_balances k (head ∷ rest) capacity channel me e = omega (arith, head_of k head rest channel.receivers e)
send_balances k [] capacity channel me e = room (nat_lt channel.buffered capacity)
  where
    room : (b : Bool) → AtChannel (if b then (Done, record channel { buffered = channel.buffered + 1 }) else (Blocks, record channel { senders = channel.senders ++ me ∷ [] })) me.g k channel
    room true = omega arith
    room false = omega (arith, tail_of k channel.senders me)

recv_balances : (k : ℕ) (senders : List Waiter) (channel : Channel) (me : Waiter) → channel.senders ≡ senders →
    Balances (recv_from senders channel me).0 me.g k (in_channel k channel) (in_channel k (recv_from senders channel me).1)
recv_balances k (head ∷ rest) channel me e = omega (arith, head_of k head rest channel.senders e)
recv_balances k [] channel me e = room (nat_lt 0 channel.buffered)
  where
    room : (b : Bool) → AtChannel (if b then (Done, record channel { buffered = channel.buffered - 1 }) else (Blocks, record channel { receivers = channel.receivers ++ me ∷ [] })) me.g k channel
    room true = omega arith
    room false = omega (arith, tail_of k channel.receivers me)

lock_balances : (k : ℕ) (held : Bool) (mutex : Mutex) (me : Waiter) →
    AtMutex (if held then (Blocks, record mutex { waiters = mutex.waiters ++ me ∷ [] }) else (Done, record mutex { held = true })) me.g k mutex
lock_balances k true mutex me = omega (arith, tail_of k mutex.waiters me)
lock_balances k false mutex me = omega arith

unlock_for_balances : (k g : ℕ) (waiters : List Waiter) (mutex : Mutex) → mutex.waiters ≡ waiters →
    Balances (unlock_for waiters mutex).0 g k (in_mutex k mutex) (in_mutex k (unlock_for waiters mutex).1)
unlock_for_balances k g (head ∷ rest) mutex e = omega (arith, head_of k head rest mutex.waiters e)
unlock_for_balances k g [] mutex e = omega arith

unlock_balances : (k g : ℕ) (held : Bool) (mutex : Mutex) →
    AtMutex (if held then unlock_for mutex.waiters mutex else (Fault, mutex)) g k mutex
unlock_balances k g true mutex = unlock_for_balances k g mutex.waiters mutex refl
unlock_balances k g false mutex = omega arith

-- A balance at one channel or mutex is one over all of them.
lifted : (effect : Effect) (g k old new a b : ℕ) → new + a ≤ old + b → Balances effect g k a b → Balances effect g k old new
lifted Done g k old new a b sum balance = omega arith
lifted (Wakes h since) g k old new a b sum balance = omega arith
lifted Blocks g k old new a b sum balance = omega arith
lifted Fault g k old new a b sum balance = omega arith

channel_sum : (k c : ℕ) (new : Channel) (cs : List Channel) (ms : List Mutex) → places_of (set cs c new) ms k + in_channel k (get_or cs c empty_channel) ≤ places_of cs ms k + in_channel k new
unfolding places_of
channel_sum k c new cs ms = let e = sum_by-set_le (in_channel k) empty_channel cs c new refl in omega arith

mutex_sum : (k m : ℕ) (new : Mutex) (cs : List Channel) (ms : List Mutex) → places_of cs (set ms m new) k + in_mutex k (get_or ms m free_mutex) ≤ places_of cs ms k + in_mutex k new
unfolding places_of
mutex_sum k m new cs ms = let e = sum_by-set_le (in_mutex k) free_mutex ms m new refl in omega arith

module _ (cs : List Channel) (ms : List Mutex) (me : Waiter) (k : ℕ) where
  pub send_moves : (c capacity : ℕ) → let outcome = send capacity (get_or cs c empty_channel) me in Balances outcome.0 me.g k (places_of cs ms k) (places_of (set cs c outcome.1) ms k)
  send_moves c capacity =
      let channel = get_or cs c empty_channel in
      let outcome = send capacity channel me in
      lifted outcome.0 me.g k (places_of cs ms k) (places_of (set cs c outcome.1) ms k) (in_channel k channel) (in_channel k outcome.1)
      (channel_sum k c outcome.1 cs ms) (send_balances k channel.receivers capacity channel me refl)

  pub recv_moves : (c : ℕ) → let outcome = recv (get_or cs c empty_channel) me in Balances outcome.0 me.g k (places_of cs ms k) (places_of (set cs c outcome.1) ms k)
  recv_moves c =
      let channel = get_or cs c empty_channel in
      let outcome = recv channel me in
      lifted outcome.0 me.g k (places_of cs ms k) (places_of (set cs c outcome.1) ms k) (in_channel k channel) (in_channel k outcome.1)
      (channel_sum k c outcome.1 cs ms) (recv_balances k channel.senders channel me refl)

  pub lock_moves : (m : ℕ) → let outcome = lock (get_or ms m free_mutex) me in Balances outcome.0 me.g k (places_of cs ms k) (places_of cs (set ms m outcome.1) k)
  lock_moves m =
      let mutex = get_or ms m free_mutex in
      let outcome = lock mutex me in
      lifted outcome.0 me.g k (places_of cs ms k) (places_of cs (set ms m outcome.1) k) (in_mutex k mutex) (in_mutex k outcome.1)
      (mutex_sum k m outcome.1 cs ms) (lock_balances k mutex.held mutex me)

  pub unlock_moves : (m : ℕ) → let outcome = unlock (get_or ms m free_mutex) in Balances outcome.0 me.g k (places_of cs ms k) (places_of cs (set ms m outcome.1) k)
  unlock_moves m =
      let mutex = get_or ms m free_mutex in
      let outcome = unlock mutex in
      lifted outcome.0 me.g k (places_of cs ms k) (places_of cs (set ms m outcome.1) k) (in_mutex k mutex) (in_mutex k outcome.1)
      (mutex_sum k m outcome.1 cs ms) (unlock_balances k me.g mutex.held mutex)
