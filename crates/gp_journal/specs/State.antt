-- The state of the machine.
use Rattle.std.specs.Prelude.{ℕ, Bool, true, false, not, ◌&&◌, List, [], ◌∷◌, length, get_or, replicate, count_by, None, is_none, unwrap_or, slice_index_or, nat_lt, map}
use Rattle.gp_isa.specs.declared.parts.Parts.{Parts}
use Rattle.gp_isa.specs.declared.parts.ChannelDecl.{ChannelDecl}
use Rattle.gp_isa.specs.Checked.{main_of}
use Rattle.gp_isa.specs.Trace.{Point, trace}
use Rattle.gp_sync.specs.Operations.{Channel, Mutex, empty_channel, free_mutex}
use Rattle.gp_journal.specs.declared.goroutine.Goroutine.{Goroutine}
use Rattle.gp_journal.specs.declared.goroutine.Status.{Status}
use Rattle.gp_journal.specs.declared.goroutine.Status.TheVariants.{Runnable, Running, Dead}
use Rattle.gp_journal.specs.declared.goroutine.Worker.{Worker}
use Rattle.gp_journal.specs.declared.settings.Request.{Request}
use Rattle.gp_journal.specs.declared.settings.Settings.{Settings}

-- What the machine sees of a program: the trace of each function, the capacity of each channel, how many channels
-- and mutexes there are, and which function is `main`.
pub record Code : Type 0 where
  pub points : ℕ → List Point
  pub capacity : ℕ → ℕ
  pub channels : ℕ
  pub mutexes : ℕ
  pub main : ℕ

-- the code of a program
abbrev pub code_of : Parts → Code
code_of program = record {
  points = trace program;
  capacity = λ c. slice_index_or (map (λ (declared : ChannelDecl). declared.capacity) program.channels) c 0;
  channels = length program.channels;
  mutexes = length program.mutexes;
  main = unwrap_or (main_of program) 0;
}

-- What the machine keeps.
pub record State : Type 0 where
  -- the goroutines born so far, by number, which is the order of their births
  pub goroutines : List Goroutine
  -- the numbers of the runnable ones, in the order in which they came
  pub queue : List ℕ
  pub channels : List Channel
  pub mutexes : List Mutex
  pub workers : List Worker
  -- how many instructions the workers have run together
  pub clock : ℕ
  -- the requests that are left
  pub requests : List Request
  -- the epoch of the active profile, 0 where none is
  pub active : ℕ
  -- the last epoch given
  pub last_epoch : ℕ
  -- the fault made, 0 where none was
  pub fault : ℕ
  -- the number of entries so far
  pub entries : ℕ

-- what stands for a goroutine that wasn't born
abbrev pub nobody : Goroutine
nobody = record { start = 0; set = 0; count = 0; status = Dead; granted = false; epoch = 0; blocked = 0; woken = 0 }

-- a worker that has run nothing
abbrev pub resting : Worker
resting = record { runs = None; instructions = 0; slice = 0; tick = false }

-- the goroutine of a number
abbrev pub goroutine : State → ℕ → Goroutine
goroutine state g = get_or state.goroutines g nobody

-- the worker of a number
abbrev pub worker : State → ℕ → Worker
worker state w = get_or state.workers w resting

-- the channel of a number
abbrev pub channel : State → ℕ → Channel
channel state c = get_or state.channels c empty_channel

-- the mutex of a number
abbrev pub mutex : State → ℕ → Mutex
mutex state m = get_or state.mutexes m free_mutex

-- whether a status is runnable
abbrev pub is_runnable : Status → Bool
is_runnable Runnable = true
is_runnable _ = false

-- running on some worker
abbrev pub is_running : Status → Bool
is_running (Running w) = true
is_running _ = false

-- dead
abbrev pub is_dead : Status → Bool
is_dead Dead = true
is_dead _ = false

-- all but the dead are live
abbrev pub is_live : Goroutine → Bool
is_live g = not (is_dead g.status)

-- the trace of a goroutine
abbrev pub trace_of : Code → Goroutine → List Point
trace_of code g = code.points g.start

-- how many goroutines were born
abbrev pub births : State → ℕ
births state = length state.goroutines

-- how many are live
abbrev pub live : State → ℕ
live state = count_by is_live state.goroutines

-- how many are running
abbrev pub running : State → ℕ
running state = count_by (λ g. is_running g.status) state.goroutines

-- whether there is a worker of a number, and it runs nothing
abbrev pub is_idle : State → ℕ → Bool
is_idle state w = nat_lt w (length state.workers) && is_none (worker state w).runs

-- whether a goroutine has still to be recorded in the profile of an epoch
abbrev pub is_behind : ℕ → Goroutine → Bool
is_behind epoch g = is_live g && nat_lt g.epoch epoch

-- how many of some goroutines have
abbrev pub number_behind : ℕ → List Goroutine → ℕ
number_behind epoch goroutines = count_by (is_behind epoch) goroutines

-- how many of a state have still to be recorded in the active profile
abbrev pub unrecorded : State → ℕ
unrecorded state = number_behind state.active state.goroutines

-- The goroutine that runs `main`: runnable, with no points passed and the empty label set 0.
abbrev pub main_goroutine : Code → Goroutine
main_goroutine code = record {
  start = code.main;
  set = 0;
  count = 0;
  status = Runnable;
  granted = false;
  epoch = 0;
  blocked = 0;
  woken = 0;
}

-- The first state: goroutine 0 is born, to run `main`, and nothing has happened.
abbrev pub first : Code → Settings → State
first code settings = record {
  goroutines = main_goroutine code ∷ [];
  queue = 0 ∷ [];
  channels = replicate code.channels empty_channel;
  mutexes = replicate code.mutexes free_mutex;
  workers = replicate settings.workers resting;
  clock = 0;
  requests = settings.at;
  active = 0;
  last_epoch = 0;
  fault = 0;
  entries = 0;
}
