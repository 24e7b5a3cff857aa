-- The rows of the actors' book: by number the workers, and the profiler behind them.
use Rattle.std.specs.Prelude.{◌≡◌, ◌≢◌, ◌<◌, ◌⊎◌, ◌==◌, ◌+◌, ℕ, List, map, if◌then◌else◌, Option, Some, None}
use Rattle.std.specs.List.{range_with_len}
use Rattle.atomic_table.specs.Seated.{TableId}
use Rattle.gp_isa.specs.declared.parts.Parts.{Parts}
use Rattle.gp_tally.specs.Rows.{Part}
use Rattle.gp_tally.specs.declared.row.Row.{Row}
use Rattle.gp_journal.specs.declared.entry.Entry.{Entry}
use Rattle.gp_journal.specs.declared.settings.Settings.{Settings}
use Rattle.gp_journal.specs.Actors.{made_by}
use Rattle.gp_journal.specs.Run.{state_of}
use Rattle.gp_journal.specs.State.{worker}

-- What the first number of a worker's row says: it has nothing, it has picked a goroutine, it runs one, or the run was over as
-- it looked for one. The second number is that goroutine.
abbrev pub has_nothing : ℕ
has_nothing = 0

abbrev pub has_picked : ℕ
has_picked = 1

abbrev pub runs_one : ℕ
runs_one = 2

abbrev pub is_done : ℕ
is_done = 3

-- What that of the profiler's row says: no profile is active, one is, the profiler has finished, or the reader has then taken in the
-- ring's end. The second number is the last epoch given.
abbrev pub between_profiles : ℕ
between_profiles = 0

abbrev pub within_profile : ℕ
within_profile = 1

abbrev pub has_finished : ℕ
has_finished = 2

abbrev pub has_settled : ℕ
has_settled = 3

-- the row of an actor that has done nothing
abbrev pub blank : Row
blank = record { a = 0; b = 0; c = 0; d = 0 }

-- The row of an actor after a journal. The third number is how many entries it has made, the fourth how many instructions it
-- has run; the profiler runs none.
abbrev pub row_of : Parts → Settings → List Entry → ℕ → ℕ → ℕ → Row
row_of program settings journal actor a b = record {
  a = a;
  b = b;
  c = made_by settings actor journal;
  d = (worker (state_of program settings journal) actor).instructions;
}

-- the row of worker w where it runs somebody or nobody
abbrev pub row_with : Parts → Settings → List Entry → ℕ → Option ℕ → Row
row_with program settings journal w None = row_of program settings journal w has_nothing 0
row_with program settings journal w (Some g) = row_of program settings journal w runs_one g

-- the row of worker w by what the state says of it
abbrev pub worker_row : Parts → Settings → List Entry → ℕ → Row
worker_row program settings journal w = row_with program settings journal w (worker (state_of program settings journal) w).runs

-- the row of the profiler that hasn't finished
abbrev pub profiler_row : Parts → Settings → List Entry → Row
profiler_row program settings journal =
    let state = state_of program settings journal in
    row_of program settings journal settings.workers (if state.active == 0 then between_profiles else within_profile) state.last_epoch

-- and of the one that has
abbrev pub finished_row : Parts → Settings → List Entry → Row
finished_row program settings journal =
    row_of program settings journal settings.workers has_finished (state_of program settings journal).last_epoch

-- and once the ring's end is taken in
abbrev pub settled_row : Parts → Settings → List Entry → Row
settled_row program settings journal =
    row_of program settings journal settings.workers has_settled (state_of program settings journal).last_epoch

-- whom a worker runs, by its row
abbrev pub on_of : Row → Option ℕ
on_of row = if row.a == runs_one then Some row.b else None

-- who may record: the profiler, or a worker that runs nobody
abbrev pub MayRecordAs : ℕ → ℕ → Row → Type 0
MayRecordAs workers actor row = (actor ≡ workers) ⊎ ((actor < workers) × (row.a ≢ runs_one))

-- the share of a book's row as it is issued
abbrev pub share_of : TableId → ℕ → Part
share_of book n = record { book = book; number = n; row = blank }

-- The shares of a book's rows, as they are issued: the workers', and the profiler's behind them.
abbrev pub shares_of : TableId → ℕ → List Part
shares_of book workers = map (share_of book) (range_with_len 0 (workers + 1))
