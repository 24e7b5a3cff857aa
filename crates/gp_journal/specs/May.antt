-- The condition of each entry.
use Rattle.std.specs.Prelude.{◌≡◌, ◌+◌, ◌≤◌, ◌<◌, ℕ, Bool, true, false, ◌||◌, ◌==◌, Some}
use Rattle.gp_journal.specs.declared.entry.Entry.{Entry}
use Rattle.gp_journal.specs.declared.entry.Entry.TheVariants.{Start, Run, Op, Tick, Park, Open, Refuse, Record, Close}
use Rattle.gp_journal.specs.declared.goroutine.Status.TheVariants.{Runnable}
use Rattle.gp_journal.specs.declared.settings.Settings.{Settings}
use Rattle.gp_journal.specs.State.{Code, State, goroutine, worker, is_idle, is_behind, unrecorded, live, running}
use Rattle.gp_journal.specs.Due.{asked, over, due}

-- whether g has the active profile's epoch, where there is one
abbrev pub is_recorded : State → ℕ → Bool
is_recorded state g = (state.active == 0) || ((goroutine state g).epoch == state.active)

-- `Start{w, g}`: w is idle, g is runnable, no profile is asked for, the run isn't over, and g is recorded where a
-- profile is active.
pub record MayStart (settings : Settings) (state : State) (w g : ℕ) : Type 0 where
  pub idle : is_idle state w ≡ true
  pub runnable : (goroutine state g).status ≡ Runnable
  pub none_asked : asked settings state ≡ false
  pub not_over : over settings state ≡ false
  pub recorded : is_recorded state g ≡ true

-- `Run`, `Op`, `Tick` and `Park`: w runs g, and this is the due entry.
pub record IsDue (code : Code) (settings : Settings) (state : State) (w g : ℕ) (entry : Entry) : Type 0 where
  pub runs : (worker state w).runs ≡ Some g
  pub is_next : due code settings state w g ≡ entry

-- `Open{epoch, room}`: a profile is asked for, nobody runs, the room is the option's, at most so many are live, and
-- the epoch is one above the last.
pub record MayOpen (settings : Settings) (state : State) (epoch room : ℕ) : Type 0 where
  pub is_asked : asked settings state ≡ true
  pub nobody_runs : running state ≡ 0
  pub room_given : room ≡ settings.room
  pub fits : live state ≤ room
  pub next_epoch : epoch ≡ state.last_epoch + 1

-- `Refuse{room, n}`: a profile is asked for, nobody runs, the room is the option's, n are live, and that is above
-- the room.
pub record MayRefuse (settings : Settings) (state : State) (room n : ℕ) : Type 0 where
  pub is_asked : asked settings state ≡ true
  pub nobody_runs : running state ≡ 0
  pub room_given : room ≡ settings.room
  pub number_live : n ≡ live state
  pub too_many : room < n

-- `Record{actor, g}`: g has still to be recorded in the active profile, and the actor is an idle worker or the
-- profiler.
pub record MayRecord (settings : Settings) (state : State) (actor g : ℕ) : Type 0 where
  pub is_active : 0 < state.active
  pub unrecorded : is_behind state.active (goroutine state g) ≡ true
  pub recorder : ((actor == settings.workers) || is_idle state actor) ≡ true

-- `Close{epoch}`: this profile is active, and nobody has still to be recorded in it.
pub record MayClose (state : State) (epoch : ℕ) : Type 0 where
  pub is_active : 0 < state.active
  pub epoch_given : epoch ≡ state.active
  pub all_recorded : unrecorded state ≡ 0

-- Each entry is legal exactly under its condition.
abbrev pub May : Code → Settings → State → Entry → Type 0
May code settings state (Start w g) = MayStart settings state w g
May code settings state (Run w g n) = IsDue code settings state w g (Run w g n)
May code settings state (Op w g) = IsDue code settings state w g (Op w g)
May code settings state (Tick w g) = IsDue code settings state w g (Tick w g)
May code settings state (Park w g) = IsDue code settings state w g (Park w g)
May code settings state (Open epoch room) = MayOpen settings state epoch room
May code settings state (Refuse room n) = MayRefuse settings state room n
May code settings state (Record actor g) = MayRecord settings state actor g
May code settings state (Close epoch) = MayClose state epoch
