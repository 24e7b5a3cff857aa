-- What wait lists are: the channels and mutexes of a program, with who waits on them.
use Rattle.std.specs.Prelude.{ℕ, List, length, slice_index_or, slice_set, map, replicate}
use Rattle.gp_isa.specs.declared.parts.Parts.{Parts}
use Rattle.gp_isa.specs.declared.parts.ChannelDecl.{ChannelDecl}
use Rattle.gp_sync.specs.Operations.{Channel, Mutex, empty_channel, free_mutex}

-- The channels with their capacities, and the mutexes, for goroutines whose numbers are below `cells`.
pub record WaitState : Type 0 where
  pub cells : ℕ
  pub capacities : List ℕ
  pub channels : List Channel
  pub mutexes : List Mutex

-- empty channels of such capacities, and so many free mutexes
abbrev pub empty_lists : ℕ → List ℕ → ℕ → WaitState
empty_lists cells capacities mutexes = record {
  cells = cells;
  capacities = capacities;
  channels = replicate (length capacities) empty_channel;
  mutexes = replicate mutexes free_mutex;
}

-- those of a program at its start
abbrev pub at_start : Parts → ℕ → WaitState
at_start program cells = empty_lists cells (map (λ (declared : ChannelDecl). declared.capacity) program.channels) (length program.mutexes)

-- the channel of a number
abbrev pub channel : WaitState → ℕ → Channel
channel state c = slice_index_or state.channels c empty_channel

-- the capacity of a channel
abbrev pub capacity : WaitState → ℕ → ℕ
capacity state c = slice_index_or state.capacities c 0

-- the mutex of a number
abbrev pub mutex : WaitState → ℕ → Mutex
mutex state m = slice_index_or state.mutexes m free_mutex

-- the state with another channel, or another mutex, under a number
abbrev pub with_channel : WaitState → ℕ → Channel → WaitState
with_channel state c new = record state { channels = slice_set state.channels c new }

abbrev pub with_mutex : WaitState → ℕ → Mutex → WaitState
with_mutex state m new = record state { mutexes = slice_set state.mutexes m new }
