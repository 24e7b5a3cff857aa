-- How the lines of channels and mutexes are numbered in one table: those of the senders by channel, then those of the
-- receivers by channel, then those of the mutexes.
use Rattle.std.specs.Prelude.{◌≡◌, ℕ, ◌+◌, ◌<◌, ◌^◌, Bool, List, [], ◌∷◌, length, drop}
use Rattle.gp_sync.specs.declared.effect.Waiter.{Waiter}
use Rattle.gp_sync.specs.Operations.{Channel, Mutex}
use Rattle.gp_sync.specs.kept.Links.{LineTable}
use Rattle.gp_sync.specs.WaitState.{WaitState}

-- channels from how many values each has, its senders and its receivers
abbrev pub channels_of : List ℕ → List (List Waiter) → List (List Waiter) → List Channel
channels_of [] ss rs = []
channels_of (b ∷ bs) [] rs = []
channels_of (b ∷ bs) (s ∷ ss) [] = []
channels_of (b ∷ bs) (s ∷ ss) (r ∷ rs) = record { buffered = b; senders = s; receivers = r } ∷ channels_of bs ss rs

-- mutexes from whether each is held, and its line
abbrev pub mutexes_of : List Bool → List (List Waiter) → List Mutex
mutexes_of [] ws = []
mutexes_of (h ∷ hs) [] = []
mutexes_of (h ∷ hs) (w ∷ ws) = record { held = h; waiters = w } ∷ mutexes_of hs ws

-- what capacities, numbers of buffered values, flags of held mutexes and a table of lines stand for
abbrev pub state_of : List ℕ → List ℕ → List Bool → LineTable → WaitState
state_of capacities buffered held table = record {
  cells = table.cells;
  capacities = capacities;
  channels = channels_of buffered table.lines (drop (length buffered) table.lines);
  mutexes = mutexes_of held (drop (length buffered) (drop (length buffered) table.lines));
}

-- The table has just the lines of the channels and mutexes.
pub record IsLaidOut (capacities : List ℕ) (buffered : List ℕ) (held : List Bool) (lines : List (List Waiter)) : Type 0 where
  pub capacity_each : length capacities ≡ length buffered
  pub line_each : length lines ≡ length buffered + length buffered + length held
  pub few : length lines < 2 ^ 32
