-- What the calls of the profiler answer, which entry each makes, and what it leaves.
use Rattle.std.specs.Prelude.{ℕ, ◌+◌, ◌-◌, List, [], ◌∷◌, ◌++◌, length, get_or, nat_lt, if◌then◌else◌, Option, Some, None}
use Rattle.gp_journal.specs.declared.entry.Entry.{Entry}
use Rattle.gp_journal.specs.declared.entry.Entry.TheVariants.{Open, Refuse, Record, Close}
use Rattle.gp_journal.specs.declared.settings.Settings.{Settings}
use Rattle.gp_journal.specs.May.{is_recorded}
use Rattle.gp_journal.specs.Profiles.{records_of}
use Rattle.gp_journal.specs.Run.{last}
use Rattle.gp_journal.specs.State.{Code, State, goroutine, live, running}
use Rattle.gp_tally.specs.Rows.{Part}
use Rattle.gp_tally.specs.declared.row.Row.{Row}
use Rattle.gp_world.specs.Calls.{live_at_open}
use Rattle.gp_world.specs.Scene.{Scene}
use Rattle.gp_profiler.specs.declared.answers.Opening.{Opening}
use Rattle.gp_profiler.specs.declared.answers.Opening.TheVariants.{Opened, TooSmall, NotStopped}
use Rattle.gp_profiler.specs.declared.answers.Recording.{Recording}
use Rattle.gp_profiler.specs.declared.answers.Recording.TheVariants.{Recorded, Already}
use Rattle.gp_profiler.specs.declared.answers.Closing.{Closing}
use Rattle.gp_profiler.specs.declared.answers.Closing.TheVariants.{Closed, Missing}

-- The world with one entry more, or as it was.
abbrev pub with_entry : Scene → Option Entry → Scene
with_entry world None = world
with_entry world (Some entry) = record world { journal = world.journal ++ entry ∷ [] }

-- The share with another row where an entry was made, or as it was.
abbrev pub share_with : Part → Option Entry → Row → Part
share_with share None row = share
share_with share (Some entry) row = record share { row = row }

-- ---- open_profile

-- Somebody runs; or more are live than the room allows; or a profile is opened.
abbrev pub opening_of : Settings → State → Opening
opening_of settings state =
    if nat_lt 0 (running state) then NotStopped (running state)
    else if nat_lt settings.room (live state) then TooSmall (live state) settings.room
    else Opened (state.last_epoch + 1) (live state)

-- its entry
abbrev pub opening_entry : Settings → Opening → Option Entry
opening_entry settings (Opened epoch n) = Some (Open epoch settings.room)
opening_entry settings (TooSmall n room) = Some (Refuse room n)
opening_entry settings (NotStopped running) = None

-- ---- record_one

-- No profile is active, or it has g already; or g is recorded.
abbrev pub recording_of : State → ℕ → Recording
recording_of state g = if is_recorded state g then Already (goroutine state g).epoch else Recorded

-- its entry, by an actor
abbrev pub recording_entry : ℕ → ℕ → Recording → Option Entry
recording_entry actor g Recorded = Some (Record actor g)
recording_entry actor g (Already epoch) = None

-- ---- close_profile

-- how many records were made since the Open of the profile of an epoch
abbrev pub number_recorded : Code → Settings → List Entry → ℕ → ℕ
number_recorded code settings journal epoch = length (get_or (records_of code settings journal) (epoch - 1) [])

-- Fewer were made since the active profile's Open than were live there; or it is closed.
abbrev pub closing_of : Code → Settings → List Entry → Closing
closing_of code settings journal =
    let epoch = (last code settings journal).active in
    let have = number_recorded code settings journal epoch in
    let n = live_at_open code settings journal in
    if nat_lt have n then Missing have n else Closed epoch

-- its entry
abbrev pub closing_entry : Closing → Option Entry
closing_entry (Closed epoch) = Some (Close epoch)
closing_entry (Missing have n) = None
