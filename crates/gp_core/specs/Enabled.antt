-- When each event is enabled. Its actor, worker and goroutine are there; what else it asks for is said here.
use Rattle.std.specs.Prelude.{◌≡◌, ◌⊎◌, ◌-◌, ◌≤◌, ◌<◌, ℕ, true, false, Bool, ◌&&◌, not, List, [], ◌∷◌, length, if◌then◌else◌, nat_lt, nat_le, None, is_some, ◌+◌}
use Rattle.gp_journal.specs.declared.entry.Entry.{Entry}
use Rattle.gp_journal.specs.declared.entry.Entry.TheVariants.{Start, Record, Open, Refuse, Close}
use Rattle.gp_journal.specs.declared.settings.Settings.{Settings}
use Rattle.gp_journal.specs.State.{Code, State, goroutine, is_live, is_running, is_runnable, is_idle, births, live}
use Rattle.gp_journal.specs.Due.{asked, over, due}
use Rattle.gp_journal.specs.May.{May, is_recorded}
use Rattle.gp_journal.specs.Effect.{after}
use Rattle.gp_journal.specs.Run.{AreLegal}
use Rattle.gp_core.specs.declared.word.Word.{Word}
use Rattle.gp_core.specs.declared.word.Word.TheVariants.{Dead, Home, Claimed}
use Rattle.gp_core.specs.declared.hold.How.TheVariants.{Claim, Take}
use Rattle.gp_core.specs.declared.event.CoreEvent.{CoreEvent}
use Rattle.gp_core.specs.declared.event.CoreEvent.TheVariants as event
use Rattle.gp_core.specs.CoreState.{CoreState, word, hand, now, Holds, HoldsBy, copy_in}

-- `Claim{a, g}`: the actor's hand is free, and the word is a home word with the epoch before the last one.
pub record MayClaim (state : State) (core : CoreState) (a g : ℕ) : Type 0 where
  pub is_free : hand core a ≡ None
  pub some_epoch : 1 ≤ state.last_epoch
  pub is_absent : word core g ≡ Home (state.last_epoch - 1)

-- `Copy{a, g}`: the actor holds g, which is live and doesn't run.
pub record MayCopy (state : State) (core : CoreState) (a g : ℕ) : Type 0 where
  pub holds_it : Holds g (hand core a)
  pub lives : is_live (goroutine state g) ≡ true
  pub stands : is_running (goroutine state g).status ≡ false

-- `Satisfy{a, g}`: the actor has claimed g in the epoch that g has.
pub record MaySatisfy (state : State) (core : CoreState) (a g : ℕ) : Type 0 where
  pub is_claimed : word core g ≡ Claimed (goroutine state g).epoch a

-- `Take{w, g}`: the worker's hand is free, and the word is a home word.
abbrev pub IsHome : Word → Type 0
IsHome (Home epoch) = Unit {0}
IsHome _ = ⊥

pub record MayTake (core : CoreState) (w g : ℕ) : Type 0 where
  pub is_free : hand core w ≡ None
  pub is_home : IsHome (word core g)

-- whether g has to be recorded before it starts: a profile is active, and its epoch is below that
abbrev pub is_needed : State → ℕ → Bool
is_needed state g = nat_lt (goroutine state g).epoch state.active

-- whether `Start{w, g}` is legal
abbrev pub may_start : Settings → State → ℕ → ℕ → Bool
may_start settings state w g =
    is_idle state w && is_runnable (goroutine state g).status && not (asked settings state) && not (over settings state)
    && is_recorded state g

-- what `Begin` adds: the Record where it is needed, then the Start where that is legal
abbrev pub start_of : Settings → State → ℕ → ℕ → List Entry
start_of settings state w g = if may_start settings state w g then Start w g ∷ [] else []

abbrev pub beginning_of : Code → Settings → State → ℕ → ℕ → List Entry
beginning_of code settings state w g =
    if is_needed state g
    then Record w g ∷ start_of settings (after code settings state (Record w g)) w g
    else start_of settings state w g

-- `Begin{w, g}`: the worker has taken g and has a copy where the Record is needed. At least one entry is added, and all
-- that are added are legal.
pub record MayBegin (code : Code) (settings : Settings) (state : State) (core : CoreState) (w g : ℕ) : Type 0 where
  pub has_taken : HoldsBy Take g (hand core w)
  pub has_copy : is_needed state g ≡ true → is_some (copy_in (hand core w)) ≡ true
  pub adds_some : 0 < length (beginning_of code settings state w g)
  pub are_legal : AreLegal code settings state (beginning_of code settings state w g)

-- `Commit{a, g}` of a claim: it is one of the active epoch, the actor has a copy, and the Record is legal.
pub record MayCommitClaim (code : Code) (settings : Settings) (state : State) (core : CoreState) (a g : ℕ) : Type 0 where
  pub has_claimed : HoldsBy Claim g (hand core a)
  pub is_claim : word core g ≡ Claimed state.active a
  pub has_copy : is_some (copy_in (hand core a)) ≡ true
  pub is_legal : May code settings state (Record a g)

-- `Commit{a, g}` of what runs: the actor has taken g, and the entry that is due on it is legal.
pub record MayCommitDue (code : Code) (settings : Settings) (state : State) (core : CoreState) (a g : ℕ) : Type 0 where
  pub has_taken : HoldsBy Take g (hand core a)
  pub is_legal : May code settings state (due code settings state a g)

-- `Give{w, g}`: the worker has taken g, which is live and doesn't run.
pub record MayGive (state : State) (core : CoreState) (w g : ℕ) : Type 0 where
  pub has_taken : HoldsBy Take g (hand core w)
  pub lives : is_live (goroutine state g) ≡ true
  pub stands : is_running (goroutine state g).status ≡ false

-- `Bear{w, g}`: g is live, and its cell is empty.
pub record MayBear (state : State) (core : CoreState) (g : ℕ) : Type 0 where
  pub lives : is_live (goroutine state g) ≡ true
  pub is_empty : word core g ≡ Dead

-- `Bury{w, g}`: the worker has taken g, which is dead.
pub record MayBury (state : State) (core : CoreState) (w g : ℕ) : Type 0 where
  pub has_taken : HoldsBy Take g (hand core w)
  pub has_died : is_live (goroutine state g) ≡ false

-- the Open or the Refuse that can be legal: an Open where there is room for all that live, with the next epoch
abbrev pub opening_of : Settings → State → Entry
opening_of settings state =
    if nat_le (live state) settings.room
    then Open (state.last_epoch + 1) settings.room
    else Refuse settings.room (live state)

-- an actor is a worker or the profiler, which comes behind the workers; a goroutine was born
pub record IsPair (settings : Settings) (state : State) (a g : ℕ) (holds : Type 0) : Type 0 where
  pub is_actor : a ≤ settings.workers
  pub is_born : g < births state
  pub holds_too : holds

pub record IsWorkersPair (settings : Settings) (state : State) (w g : ℕ) (holds : Type 0) : Type 0 where
  pub is_worker : w < settings.workers
  pub is_born : g < births state
  pub holds_too : holds

-- An event is enabled.
abbrev pub IsEnabled : Code → Settings → CoreState → CoreEvent → Type 0
IsEnabled code settings core (event.Claim a g) =
    let state = now code settings core in IsPair settings state a g (MayClaim state core a g)
IsEnabled code settings core (event.Copy a g) =
    let state = now code settings core in IsPair settings state a g (MayCopy state core a g)
IsEnabled code settings core (event.Satisfy a g) =
    let state = now code settings core in IsPair settings state a g (MaySatisfy state core a g)
IsEnabled code settings core (event.Take w g) =
    let state = now code settings core in IsWorkersPair settings state w g (MayTake core w g)
IsEnabled code settings core (event.Begin w g) =
    let state = now code settings core in IsWorkersPair settings state w g (MayBegin code settings state core w g)
IsEnabled code settings core (event.Commit a g) =
    let state = now code settings core in
    IsPair settings state a g (MayCommitClaim code settings state core a g ⊎ MayCommitDue code settings state core a g)
IsEnabled code settings core (event.Give w g) =
    let state = now code settings core in IsWorkersPair settings state w g (MayGive state core w g)
IsEnabled code settings core (event.Bear w g) =
    let state = now code settings core in IsWorkersPair settings state w g (MayBear state core g)
IsEnabled code settings core (event.Bury w g) =
    let state = now code settings core in IsWorkersPair settings state w g (MayBury state core w g)
IsEnabled code settings core event.OpenAll =
    let state = now code settings core in May code settings state (opening_of settings state)
IsEnabled code settings core event.CloseAll =
    let state = now code settings core in May code settings state (Close state.active)
