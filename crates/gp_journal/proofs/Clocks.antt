-- A place in a wait list tells the clock at which its goroutine blocked.
use Rattle.std.proofs.Common.{◌≡◌, ◌⊎◌, ℕ, ◌+◌, ◌-◌, ◌<◌, ◌≤◌, Bool, true, false, ◌==◌, cond, List, [], ◌∷◌, ◌++◌, length, get_or, set, take, replicate, Some, refl, sym, ap, ◌∙◌, subst, inl, inr, arith, zero, suc}
use Rattle.std.proofs.Common.{if◌then◌else◌, nat_lt, sum_by, get_or-set_other, get_or-set_same}
use Rattle.std.proofs.lemmas.List.{get_or_past}
use Rattle.std.proofs.lemmas.List.Sums.{sum_by-cons, get_or-le-sum_by}
use Rattle.std.proofs.lemmas.Bool.{cases_lt}
use Rattle.gp_isa.specs.Trace.{Instruction, Local, Labels, Send, Recv, Lock, Unlock, Spawn}
use Rattle.gp_sync.specs.declared.effect.Effect.{Effect}
use Rattle.gp_sync.specs.declared.effect.Effect.TheVariants.{Done, Blocks, Wakes, Fault}
use Rattle.gp_sync.specs.declared.effect.Waiter.{Waiter}
use Rattle.gp_sync.specs.Operations.{Channel, Mutex, empty_channel, free_mutex, send, send_to, recv, recv_from, lock, unlock, unlock_for}
use Rattle.gp_journal.specs.declared.entry.Entry.{Entry}
use Rattle.gp_journal.specs.declared.entry.Entry.TheVariants.{Start, Run, Op, Tick, Park, Open, Refuse, Record, Close}
use Rattle.gp_journal.specs.declared.goroutine.Goroutine.{Goroutine}
use Rattle.gp_journal.specs.declared.settings.Settings.{Settings}
use Rattle.gp_journal.specs.State.{Code, State, nobody, goroutine, worker, channel, mutex, births, first}
use Rattle.gp_journal.specs.Due.{next_instruction}
use Rattle.gp_journal.specs.May.{May}
use Rattle.gp_journal.specs.Effect.{with_goroutine, passed, unmarked, blocked_at, woken_at, child_of, waiter, passes, faults, bears, meets, operates, after}
use Rattle.gp_journal.specs.Run.{AreLegal, IsLegal, after_all, last}
use Rattle.gp_sync.specs.Places.{in_line, in_channel, in_mutex, places_of}
use Rattle.gp_journal.specs.Waiting.{TellsClocks, WaitListsTell}
use Rattle.gp_journal.specs.RunLaws.{WaitListsTellClocks}
use Rattle.gp_journal.proofs.Places.{changed, pushed}
use Rattle.gp_journal.proofs.Whole.{IsWhole, live_within}
use Rattle.gp_journal.proofs.Parts.{live_status, not_waiting, with_wait_lists, one_if_eq}
use Rattle.gp_journal.proofs.Steps.{step_whole}
use Rattle.gp_journal.proofs.Law.{first_whole, prefix_legal}

-- Goroutines with the same clocks of blocking.
abbrev SameClocks : List Goroutine → List Goroutine → Type 0
SameClocks old new = (k : ℕ) → (get_or new k nobody).blocked ≡ (get_or old k nobody).blocked

tells_same : (old new : List Goroutine) (waiters : List Waiter) → SameClocks old new → TellsClocks old waiters → TellsClocks new waiters
tells_same old new [] same tells = tt
tells_same old new (x ∷ waiters) same tells = (tells.0 ∙ sym (same x.g), tells_same old new waiters same tells.1)

wait_lists_same : (old new : List Goroutine) (cs : List Channel) (ms : List Mutex) → SameClocks old new → WaitListsTell old cs ms → WaitListsTell new cs ms
wait_lists_same old new cs ms same tell = record {
  senders = λ c. tells_same old new _ same (tell.senders c);
  receivers = λ c. tells_same old new _ same (tell.receivers c);
  waiters = λ m. tells_same old new _ same (tell.waiters m);
}

set_clock : (gs new : List Goroutine) (g : ℕ) (y : Goroutine) → SameClocks gs new → y.blocked ≡ (get_or new g nobody).blocked → SameClocks gs (set new g y)
set_clock gs new g y same e = changed (λ k x. x.blocked ≡ (get_or gs k nobody).blocked) nobody new g y (e ∙ same g) same

-- Where g stands in no wait list, its clock may change.
tells_apart : (gs : List Goroutine) (g : ℕ) (y : Goroutine) (waiters : List Waiter) → in_line g waiters ≤ 0 → TellsClocks gs waiters → TellsClocks (set gs g y) waiters
tells_apart gs g y [] none tells = tt
tells_apart gs g y (x ∷ waiters) none tells =
    let parts = sum_by-cons (λ (w : Waiter). cond (w.g == g) 1 0) x waiters in
    (tells.0 ∙ ap (λ (z : Goroutine). z.blocked) (sym (get_or-set_other gs g x.g y nobody (λ e. let one = one_if_eq x.g g e in omega arith))), tells_apart gs g y waiters (omega arith) tells.1)

zero_at : {X : Type 0} (f : X → ℕ) (d : X) (xs : List X) (k : ℕ) → (k < length xs) ⊎ (length xs ≤ k) → f d ≡ 0 → sum_by f xs ≤ 0 → f (get_or xs k d) ≤ 0
zero_at f d xs k (inl within) past none = let le = get_or-le-sum_by f xs k d within in omega arith
zero_at f d xs k (inr beyond) past none = let e = ap f (get_or_past xs k d beyond) in omega arith

wait_lists_apart : (gs : List Goroutine) (cs : List Channel) (ms : List Mutex) (g : ℕ) (y : Goroutine) → places_of cs ms g ≤ 0 → WaitListsTell gs cs ms → WaitListsTell (set gs g y) cs ms
unfolding places_of
wait_lists_apart gs cs ms g y none tell = record {
  senders = λ c. tells_apart gs g y _ (let z = zero_at (in_channel g) empty_channel cs c (cases_lt c (length cs)) refl (omega arith) in omega arith) (tell.senders c);
  receivers = λ c. tells_apart gs g y _ (let z = zero_at (in_channel g) empty_channel cs c (cases_lt c (length cs)) refl (omega arith) in omega arith) (tell.receivers c);
  waiters = λ m. tells_apart gs g y _ (zero_at (in_mutex g) free_mutex ms m (cases_lt m (length ms)) refl (omega arith)) (tell.waiters m);
}

tells_push : (gs : List Goroutine) (waiters : List Waiter) (me : Waiter) → me.since ≡ (get_or gs me.g nobody).blocked → TellsClocks gs waiters → TellsClocks gs (waiters ++ me ∷ [])
tells_push gs [] me e tells = (e, tt)
tells_push gs (x ∷ waiters) me e tells = (tells.0, tells_push gs waiters me e tells.1)

tells_tail : (gs : List Goroutine) (waiters : List Waiter) (head : Waiter) (rest : List Waiter) → waiters ≡ head ∷ rest → TellsClocks gs waiters → TellsClocks gs rest
tells_tail gs waiters head rest e tells = (subst (TellsClocks gs) e tells).1

-- what holds after an operation: of the goroutines as they were, or with the one that blocks
abbrev Chosen : Effect → Type 0 → Type 0 → Type 0
Chosen Blocks A B = B
Chosen _ A B = A

abbrev ChannelTells : List Goroutine → Channel → Type 0
ChannelTells gs channel = TellsClocks gs channel.senders × TellsClocks gs channel.receivers

abbrev MutexTells : List Goroutine → Mutex → Type 0
MutexTells gs mutex = TellsClocks gs mutex.waiters

module _ (gs new : List Goroutine) (me : Waiter) (mine : me.since ≡ (get_or new me.g nobody).blocked) where
  abbrev ChannelChosen : Effect × Channel → Type 0
  ChannelChosen outcome = Chosen outcome.0 (ChannelTells gs outcome.1) (ChannelTells new outcome.1)

  abbrev MutexChosen : Effect × Mutex → Type 0
  MutexChosen outcome = Chosen outcome.0 (MutexTells gs outcome.1) (MutexTells new outcome.1)

  send_tells : (receivers : List Waiter) (capacity : ℕ) (channel : Channel) → channel.receivers ≡ receivers → ChannelTells gs channel → ChannelTells new channel →
      ChannelChosen (send_to receivers capacity channel me)
  send_tells (head ∷ rest) capacity channel e tells tells' = (tells.0, tells_tail gs channel.receivers head rest e tells.1)
  send_tells [] capacity channel e tells tells' = room (nat_lt channel.buffered capacity)
    where
      room : (b : Bool) → ChannelChosen (if b then (Done, record channel { buffered = channel.buffered + 1 }) else (Blocks, record channel { senders = channel.senders ++ me ∷ [] }))
      room true = tells
      room false = (tells_push new channel.senders me mine tells'.0, tells'.1)

  recv_tells : (senders : List Waiter) (channel : Channel) → channel.senders ≡ senders → ChannelTells gs channel → ChannelTells new channel → ChannelChosen (recv_from senders channel me)
  recv_tells (head ∷ rest) channel e tells tells' = (tells_tail gs channel.senders head rest e tells.0, tells.1)
  recv_tells [] channel e tells tells' = room (nat_lt 0 channel.buffered)
    where
      room : (b : Bool) → ChannelChosen (if b then (Done, record channel { buffered = channel.buffered - 1 }) else (Blocks, record channel { receivers = channel.receivers ++ me ∷ [] }))
      room true = tells
      room false = (tells'.0, tells_push new channel.receivers me mine tells'.1)

  lock_tells : (held : Bool) (mutex : Mutex) → MutexTells gs mutex → MutexTells new mutex →
      MutexChosen (if held then (Blocks, record mutex { waiters = mutex.waiters ++ me ∷ [] }) else (Done, record mutex { held = true }))
  lock_tells true mutex tells tells' = tells_push new mutex.waiters me mine tells'
  lock_tells false mutex tells tells' = tells

  unlock_tells : (held : Bool) (waiters : List Waiter) (mutex : Mutex) → mutex.waiters ≡ waiters → MutexTells gs mutex → MutexChosen (if held then unlock_for waiters mutex else (Fault, mutex))
  unlock_tells true (head ∷ rest) mutex e tells = tells_tail gs mutex.waiters head rest e tells
  unlock_tells true [] mutex e tells = tells
  unlock_tells false waiters mutex e tells = tells

-- one channel or mutex among all wait lists
with_one_channel : (gs : List Goroutine) (cs : List Channel) (ms : List Mutex) (c : ℕ) (new : Channel) → WaitListsTell gs cs ms → ChannelTells gs new → WaitListsTell gs (set cs c new) ms
with_one_channel gs cs ms c new all it = record {
  senders = changed (λ k (x : Channel). TellsClocks gs x.senders) empty_channel cs c new it.0 all.senders;
  receivers = changed (λ k (x : Channel). TellsClocks gs x.receivers) empty_channel cs c new it.1 all.receivers;
  waiters = all.waiters;
}

with_one_mutex : (gs : List Goroutine) (cs : List Channel) (ms : List Mutex) (m : ℕ) (new : Mutex) → WaitListsTell gs cs ms → MutexTells gs new → WaitListsTell gs cs (set ms m new)
with_one_mutex gs cs ms m new all it = record {
  senders = all.senders;
  receivers = all.receivers;
  waiters = changed (λ k (x : Mutex). TellsClocks gs x.waiters) free_mutex ms m new it all.waiters;
}

chosen : (effect : Effect) {A B C D : Type 0} → (A → C) → (B → D) → Chosen effect A B → Chosen effect C D
chosen Done f h x = f x
chosen (Wakes g since) f h x = f x
chosen Blocks f h x = h x
chosen Fault f h x = f x

module _ (code : Code) (settings : Settings) (w g : ℕ) (s : State) (whole : IsWhole s) (runs : (worker s w).runs ≡ Some g) (tell : WaitListsTell s.goroutines s.channels s.mutexes) where
  abbrev blocking : List Goroutine
  blocking = set s.goroutines g (blocked_at s.clock (goroutine s g))

  within : g < length s.goroutines
  within = live_within s.goroutines g (live_status (goroutine s g) (whole.on_worker w g runs) refl)

  mine : s.clock ≡ (get_or blocking g nobody).blocked
  mine = ap (λ (x : Goroutine). x.blocked) (sym (get_or-set_same s.goroutines g (blocked_at s.clock (goroutine s g)) nobody within))

  tell_blocking : WaitListsTell blocking s.channels s.mutexes
  tell_blocking = wait_lists_apart s.goroutines s.channels s.mutexes g (blocked_at s.clock (goroutine s g)) (not_waiting s w g 0 whole (whole.on_worker w g runs)) tell

  same_all : SameClocks s.goroutines s.goroutines
  same_all k = refl

  meets_tells : (effect : Effect) (cs : List Channel) (ms : List Mutex) → Chosen effect (WaitListsTell s.goroutines cs ms) (WaitListsTell blocking cs ms) →
      let t = meets code settings w g effect (with_wait_lists cs ms s) in WaitListsTell t.goroutines t.channels t.mutexes
  unfolding meets
  meets_tells Done cs ms told = wait_lists_same s.goroutines _ cs ms (set_clock s.goroutines s.goroutines g (passed code 1 (goroutine s g)) same_all refl) told
  meets_tells (Wakes h since) cs ms told =
      let gs = set s.goroutines h (woken_at s.clock (goroutine s h)) in
      wait_lists_same s.goroutines _ cs ms (set_clock s.goroutines gs g (passed code 1 (get_or gs g nobody))
      (set_clock s.goroutines s.goroutines h (woken_at s.clock (goroutine s h)) same_all refl) refl) told
  meets_tells Blocks cs ms told = told
  meets_tells Fault cs ms told = wait_lists_same s.goroutines _ cs ms (set_clock s.goroutines s.goroutines g _ same_all refl) told

  channel_tells : (c : ℕ) (outcome : Effect × Channel) → Chosen outcome.0 (ChannelTells s.goroutines outcome.1) (ChannelTells blocking outcome.1) →
      Chosen outcome.0 (WaitListsTell s.goroutines (set s.channels c outcome.1) s.mutexes) (WaitListsTell blocking (set s.channels c outcome.1) s.mutexes)
  channel_tells c outcome = chosen outcome.0 (with_one_channel s.goroutines s.channels s.mutexes c outcome.1 tell) (with_one_channel blocking s.channels s.mutexes c outcome.1 tell_blocking)

  mutex_tells : (m : ℕ) (outcome : Effect × Mutex) → Chosen outcome.0 (MutexTells s.goroutines outcome.1) (MutexTells blocking outcome.1) →
      Chosen outcome.0 (WaitListsTell s.goroutines s.channels (set s.mutexes m outcome.1)) (WaitListsTell blocking s.channels (set s.mutexes m outcome.1))
  mutex_tells m outcome = chosen outcome.0 (with_one_mutex s.goroutines s.channels s.mutexes m outcome.1 tell) (with_one_mutex blocking s.channels s.mutexes m outcome.1 tell_blocking)

  spawns_tell : (function : ℕ) (room : Bool) → let t = if room then passes code settings w g 1 (bears code function g s) else faults 2 w g s in WaitListsTell t.goroutines t.channels t.mutexes
  spawns_tell function true =
      let gs = s.goroutines ++ child_of code function g s ∷ [] in
      let born : SameClocks s.goroutines gs = pushed (λ k x. x.blocked ≡ (goroutine s k).blocked) nobody s.goroutines (child_of code function g s)
      (ap (λ (x : Goroutine). x.blocked) (sym (get_or_past s.goroutines (length s.goroutines) nobody (omega arith)))) same_all in
      wait_lists_same s.goroutines _ s.channels s.mutexes (set_clock s.goroutines gs g (passed code 1 (get_or gs g nobody)) born refl) tell
  spawns_tell function false = wait_lists_same s.goroutines _ s.channels s.mutexes (set_clock s.goroutines s.goroutines g _ same_all refl) tell

  operates_tell : (instruction : Instruction) → let t = operates code settings w g instruction s in WaitListsTell t.goroutines t.channels t.mutexes
  unfolding operates
  operates_tell Local = tell
  operates_tell (Labels l) = tell
  operates_tell (Send c) =
      let outcome = send (code.capacity c) (channel s c) (waiter s g) in
      meets_tells outcome.0 _ _ (channel_tells c outcome (send_tells s.goroutines blocking (waiter s g) mine (channel s c).receivers (code.capacity c) (channel s c) refl
      (tell.senders c, tell.receivers c) (tell_blocking.senders c, tell_blocking.receivers c)))
  operates_tell (Recv c) =
      let outcome = recv (channel s c) (waiter s g) in
      meets_tells outcome.0 _ _ (channel_tells c outcome (recv_tells s.goroutines blocking (waiter s g) mine (channel s c).senders (channel s c) refl (tell.senders c, tell.receivers c)
      (tell_blocking.senders c, tell_blocking.receivers c)))
  operates_tell (Lock m) =
      let outcome = lock (mutex s m) (waiter s g) in
      meets_tells outcome.0 _ _ (mutex_tells m outcome (lock_tells s.goroutines blocking (waiter s g) mine (mutex s m).held (mutex s m) (tell.waiters m) (tell_blocking.waiters m)))
  operates_tell (Unlock m) =
      let outcome = unlock (mutex s m) in
      meets_tells outcome.0 _ _ (mutex_tells m outcome (unlock_tells s.goroutines blocking (waiter s g) mine (mutex s m).held (mutex s m).waiters (mutex s m) refl (tell.waiters m)))
  operates_tell (Spawn function) = spawns_tell function (nat_lt (births s) settings.cells)

  acts_tell : (granted : Bool) → let t = if granted then passes code settings w g 1 (with_goroutine g (record (goroutine s g) { granted = false }) s) else operates code settings w g
      (next_instruction code s g) s in WaitListsTell t.goroutines t.channels t.mutexes
  acts_tell true =
      let gs = set s.goroutines g (unmarked (goroutine s g)) in
      wait_lists_same s.goroutines _ s.channels s.mutexes (set_clock s.goroutines gs g (passed code 1 (get_or gs g nobody))
      (set_clock s.goroutines s.goroutines g (unmarked (goroutine s g)) same_all refl) refl) tell
  acts_tell false = operates_tell (next_instruction code s g)

one_changed : (s : State) (g : ℕ) (y : Goroutine) → y.blocked ≡ (goroutine s g).blocked → WaitListsTell s.goroutines s.channels s.mutexes → WaitListsTell (set s.goroutines g y) s.channels s.mutexes
one_changed s g y e tell = wait_lists_same s.goroutines (set s.goroutines g y) s.channels s.mutexes (set_clock s.goroutines s.goroutines g y (λ k. refl) e) tell

abbrev Tells : State → Type 0
Tells s = WaitListsTell s.goroutines s.channels s.mutexes

step_tells : (code : Code) (settings : Settings) (s : State) (entry : Entry) → IsWhole s → Tells s → May code settings s entry → Tells (after code settings s entry)
unfolding after
step_tells code settings s (Start w g) whole tell may = one_changed s g _ refl tell
step_tells code settings s (Run w g n) whole tell may = one_changed s g _ refl tell
step_tells code settings s (Op w g) whole tell may = acts_tell code settings w g s whole may.runs tell (goroutine s g).granted
step_tells code settings s (Tick w g) whole tell may = tell
step_tells code settings s (Park w g) whole tell may = one_changed s g _ refl tell
step_tells code settings s (Open epoch room) whole tell may = tell
step_tells code settings s (Refuse room n) whole tell may = tell
step_tells code settings s (Record actor g) whole tell may = one_changed s g _ refl tell
step_tells code settings s (Close epoch) whole tell may = tell

all_tell : (code : Code) (settings : Settings) (s : State) (entries : List Entry) → IsWhole s → Tells s → AreLegal code settings s entries → Tells (after_all code settings s entries)
all_tell code settings s [] whole tell legal = tell
all_tell code settings s (entry ∷ entries) whole tell legal =
    all_tell code settings (after code settings s entry) entries (step_whole code settings s entry whole legal.0) (step_tells code settings s entry whole tell legal.0) legal.1

no_channel : (P : Channel → Type 0) (n c : ℕ) → P empty_channel → P (get_or (replicate n empty_channel) c empty_channel)
no_channel P zero c p = p
no_channel P (suc n) zero p = p
no_channel P (suc n) (suc c) p = no_channel P n c p

no_mutex : (P : Mutex → Type 0) (n c : ℕ) → P free_mutex → P (get_or (replicate n free_mutex) c free_mutex)
no_mutex P zero c p = p
no_mutex P (suc n) zero p = p
no_mutex P (suc n) (suc c) p = no_mutex P n c p

first_tells : (code : Code) (settings : Settings) → Tells (first code settings)
first_tells code settings =
    let gs = (first code settings).goroutines in
    record {
      senders = λ c. no_channel (λ x. TellsClocks gs x.senders) code.channels c tt;
      receivers = λ c. no_channel (λ x. TellsClocks gs x.receivers) code.channels c tt;
      waiters = λ m. no_mutex (λ x. TellsClocks gs x.waiters) code.mutexes m tt;
    }

-- So they do after all entries of a legal journal,
pub last_tells : (code : Code) (settings : Settings) (journal : List Entry) → IsLegal code settings journal →
    let s = last code settings journal in WaitListsTell s.goroutines s.channels s.mutexes
last_tells code settings journal legal =
    all_tell code settings (first code settings) journal (first_whole code settings) (first_tells code settings) legal

-- and at each of its steps.
pub wait_lists_tell_clocks : WaitListsTellClocks
wait_lists_tell_clocks code settings journal k legal =
    last_tells code settings (take k journal) (prefix_legal code settings (first code settings) k journal legal)
