-- The workers, with marks of those that run a goroutine and how many these are, and how far each is from its next tick.
use Rattle.std.specs.Prelude.{◌≡◌, ◌+◌, ◌-◌, ◌%◌, ◌<◌, ◌≤◌, ℕ, zero, suc, Bool, not, ◌&&◌, ◌||◌, ◌==◌}
use Rattle.std.specs.Prelude.{List, length, get_or, count_by, if◌then◌else◌, None}
use Rattle.std.specs.Int.{bit_at}
use Rattle.gp_isa.specs.Limits.{most_workers}
use Rattle.gp_journal.specs.declared.goroutine.Worker.{Worker}
use Rattle.gp_journal.specs.State.{resting}
use Rattle.gp_machine.specs.OnWorker.{is_busy}
use Rattle.gp_machine.specs.kept.Crowd.{one_if}

-- the workers by number, and how many instructions of each lie between two of its ticks
pub record Crew : Type 0 where
  pub period : ℕ
  pub all : List Worker

-- how many instructions a worker has left to its next tick
abbrev pub left_of : ℕ → Worker → ℕ
left_of period w = period - w.instructions % period

-- how many bits of a word are set below one
unfoldable pub bits_below : ℕ → ℕ → ℕ
bits_below word zero = 0
bits_below word (suc k) = bits_below word k + bit_at word k

-- the bits of a word say of each worker whether it runs a goroutine
abbrev pub AreMarked : List Worker → ℕ → Type 0
AreMarked all marks = (w : ℕ) → w < 32 → bit_at marks w ≡ one_if (is_busy (get_or all w resting))

-- They are as few as there may be, those that run a goroutine are marked and counted, and what each has left is kept.
pub record AreKept (period : ℕ) (all : List Worker) (to_tick : List ℕ) (marks busy : ℕ) : Type 0 where
  pub some : 0 < period
  pub few : length all ≤ most_workers
  pub marked : AreMarked all marks
  pub counted : busy ≡ count_by is_busy all
  pub as_many : length to_tick ≡ length all
  pub left : (w : ℕ) → get_or to_tick w period ≡ left_of period (get_or all w resting)

-- a worker that has run n instructions more, which brought it to a tick or not, its goroutine having died or not
abbrev pub worked_at : ℕ → Bool → Bool → Worker → Worker
worked_at n died at_tick w = record w {
  runs = if died then None else w.runs;
  instructions = w.instructions + n;
  slice = w.slice + n;
  tick = w.tick || (not died && at_tick);
}

-- which is where its instructions come to a multiple of the period
abbrev pub worked_by : ℕ → ℕ → Bool → Worker → Worker
worked_by period n died w = worked_at n died ((w.instructions + n) % period == 0) w
