-- The actors of a run: by number the workers, the profiler behind them, and the reader behind that.
use Rattle.std.specs.Prelude.{◌≡◌, ◌+◌, ◌==◌, ℕ, false, List, Option, Some, None, MatchOption, map, if◌then◌else◌}
use Rattle.std.specs.List.{AllByRecursion, range_with_len}
use Rattle.gp_journal.specs.declared.settings.Settings.{Settings}
use Rattle.gp_ring.specs.PlainRing.{Found, Raced, Nothing, End}
use Rattle.gp_ring.specs.TwoEnds.{ReaderEnd}
use Rattle.gp_tally.specs.declared.row.Row.{Row}
use Rattle.gp_world.specs.Rows.{blank, is_done, has_finished}

-- an actor's number, the row of its share, and the end of the ring that it reads; only the reader has that, and in place of a
-- share a blank row
pub record Actor : Type 0 where
  pub number : ℕ
  pub row : Row
  pub reader : Option ReaderEnd

-- the reader
abbrev pub reading : Settings → ReaderEnd → Actor
reading settings reader = record { number = settings.workers + 1; row = blank; reader = Some reader }

-- An actor has nothing to do any more: the run was over as the worker looked for a goroutine, the profiler has finished, or what the
-- reader found last is the end.
abbrev pub HasEnded : Settings → Actor → Type 0
HasEnded settings it =
    MatchOption it.reader (it.row.a ≡ (if it.number == settings.workers then has_finished else is_done))
    (λ (reader : ReaderEnd). reader.hand ≡ End)

-- nothing was taken: there was nothing, or in place of a loss that was seen another word was found
abbrev pub IsNothing : Found → Type 0
IsNothing Nothing = Unit {0}
IsNothing (Raced was found) = Unit {0}
IsNothing _ = ⊥

-- What an idle turn of the reader did: it loaded the word of what is written once more, has acted on what it saw, and took nothing.
pub record IsInVain (old new : ReaderEnd) : Type 0 where
  pub loads : new.loads ≡ old.loads + 1
  pub looked : new.looked ≡ false
  pub nothing : IsNothing new.hand

abbrev pub ReadsInVain : Option ReaderEnd → Option ReaderEnd → Type 0
ReadsInVain None new = Unit {0}
ReadsInVain (Some old) (Some new) = IsInVain old new
ReadsInVain (Some old) None = ⊥

abbrev pub numbers_of : List Actor → List ℕ
numbers_of actors = map (λ (it : Actor). it.number) actors

-- There is each of them, in the order of their numbers.
abbrev pub AreActors : Settings → List Actor → Type 0
AreActors settings actors = numbers_of actors ≡ range_with_len 0 (settings.workers + 2)

-- Each of them has ended.
abbrev pub HaveEnded : Settings → List Actor → Type 0
HaveEnded settings actors = AllByRecursion (HasEnded settings) actors
