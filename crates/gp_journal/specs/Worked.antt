-- Small programs and journals of theirs, worked out by hand.
use Rattle.std.specs.Prelude.{◌≡◌, ℕ, true, false, List, [], ◌∷◌, codes, take, ◌++◌}
use Rattle.gp_isa.specs.declared.parts.Parts.{Parts}
use Rattle.gp_isa.specs.declared.parts.Function.{Function}
use Rattle.gp_isa.specs.declared.parts.ChannelDecl.{ChannelDecl}
use Rattle.gp_isa.specs.declared.statement.Stmt.{Stmt, roll-Stmt}
use Rattle.gp_isa.specs.declared.statement.What.{What}
use Rattle.gp_isa.specs.declared.statement.What.TheVariants as what
use Rattle.gp_stack.specs.declared.record.Record.{Record as Row}
use Rattle.gp_journal.specs.declared.entry.Entry.{Entry}
use Rattle.gp_journal.specs.declared.entry.Entry.TheVariants.{Start, Run, Op, Tick, Park, Open, Refuse, Record, Close}
use Rattle.gp_journal.specs.declared.entry.Ended.{Ended}
use Rattle.gp_journal.specs.declared.entry.Ended.TheVariants.{Main, Fault, Full, Deadlock}
use Rattle.gp_journal.specs.declared.settings.Request.{Request}
use Rattle.gp_journal.specs.declared.settings.Request.TheVariants.{Clock, End}
use Rattle.gp_journal.specs.declared.settings.Settings.{Settings}
use Rattle.gp_journal.specs.State.{Code, first}
use Rattle.gp_journal.specs.Due.{ended, has_come}
use Rattle.gp_journal.specs.declared.answer.Applied.TheVariants as answer
use Rattle.gp_journal.specs.declared.answer.Applied.TheVariants.{Blocked}
use Rattle.gp_journal.specs.Told.{Told, says, told_from, done_of, made_of, nothing, over_now, passed_it, passed_last, bore, woke, waited}
use Rattle.gp_journal.specs.Run.{IsLegal, IsFinished, last, at}
use Rattle.gp_journal.specs.Frozen.{frozen, rows_taken, sorted}

abbrev pub statement : ℕ → What → Stmt
statement line what = roll-Stmt (record { line = line; what = what })

abbrev pub main_function : ℕ → ℕ → List Stmt → Function
main_function line end body = record { name = codes "main"; line = line; end = end; body = body }

abbrev pub other_function : ℕ → ℕ → List Stmt → Function
other_function line end body = record { name = codes "f"; line = line; end = end; body = body }

abbrev pub program_of : List Function → Parts
program_of functions = record { functions = functions; channels = []; mutexes = []; labels = [] }

abbrev pub with_channels : List ChannelDecl → List Function → Parts
with_channels channels functions = record { functions = functions; channels = channels; mutexes = []; labels = [] }

-- one worker, the usual options, and requests
abbrev pub plain : List Request → Settings
plain requests = record {
  workers = 1;
  at = requests;
  room = 1024;
  hz = 100;
  block = 0;
  mutex = 0;
  seed = 42;
  cells = 1024;
  entries = 262144;
  ring = 131072;
  tags = 16384;
  picks = [];
}

abbrev shown : ℕ → ℕ → ℕ → Row
shown g function line = record { g = g; stack = record { function = function; line = line } ∷ []; set = 0 }

-- A finished journal, with how its run ended, what is told after each entry, by worker the instructions that it has
-- run, and by actor how many entries it made.
pub record Worked (code : Code) (settings : Settings) (journal : List Entry) (end : Ended) (told : List Told)
    (done made : List ℕ) : Type 0 where
  pub finished : IsFinished code settings journal
  pub its_end : ended (last code settings journal) ≡ end
  pub its_told : told_from code settings (first code settings) journal ≡ told
  pub its_done : done_of (last code settings journal) ≡ done
  pub its_made : made_of settings journal ≡ made

-- A journal that is legal, and not any more with one entry put at its end.
pub record EndsThere (code : Code) (settings : Settings) (journal : List Entry) (entry : Entry) : Type 0 where
  pub legal : IsLegal code settings journal
  pub refused : IsLegal code settings (journal ++ entry ∷ []) → ⊥

-- the rows frozen before entry k of a journal
abbrev pub frozen_at : Code → Settings → List Entry → ℕ → List Row
frozen_at code settings journal k = frozen code (at code settings journal k)

-- func main { work 1 }
abbrev pub smallest : Parts
smallest = program_of (main_function 1 3 (statement 2 (what.Work 1) ∷ []) ∷ [])

-- A profile of the smallest program, asked for at once.
abbrev pub smallest_settings : Settings
smallest_settings = plain (Clock 0 ∷ [])

abbrev pub smallest_journal : List Entry
smallest_journal = Open 1 1024 ∷ Record 1 0 ∷ Close 1 ∷ Start 0 0 ∷ Run 0 0 1 ∷ []

abbrev pub smallest_told : List Told
smallest_told =
    says nothing 0 1 1 0 1 1 ∷
    says nothing 0 1 1 0 1 1 ∷
    says nothing 0 1 1 0 0 1 ∷
    says nothing 0 1 1 1 0 1 ∷
    says over_now 1 1 0 0 0 1 ∷ []

pub record SmallestProgram (code : Code) : Type 0 where
  pub journal : Worked code smallest_settings smallest_journal Main smallest_told (1 ∷ []) (2 ∷ 3 ∷ [])
  pub rows : frozen_at code smallest_settings smallest_journal 0 ≡ shown 0 0 2 ∷ []
  -- not legal: a Close while main is unrecorded; a Run of two points; a Tick that isn't due; a Park where nothing asks
  pub no_close : EndsThere code smallest_settings (Open 1 1024 ∷ []) (Close 1)
  pub no_more_points : EndsThere code smallest_settings (take 4 smallest_journal) (Run 0 0 2)
  pub no_tick : EndsThere code smallest_settings (take 4 smallest_journal) (Tick 0 0)
  pub no_park : EndsThere code smallest_settings (take 4 smallest_journal) (Park 0 0)

-- chan c 0; func main { spawn f, work 1000, send c, work 5 }; func f { recv c, work 7 }
abbrev pub wake : Parts
wake = with_channels (record { name = codes "c"; line = 1; capacity = 0 } ∷ [])
    (
    main_function 2 7 (
    statement 3 (what.Spawn 1) ∷ statement 4 (what.Work 1000) ∷ statement 5 (what.Send 0) ∷ statement 6 (what.Work 5) ∷ []
    )
    ∷ other_function 8 11 (statement 9 (what.Recv 0) ∷ statement 10 (what.Work 7) ∷ []) ∷ []
    )

abbrev pub wake_settings : Settings
wake_settings = plain (Clock 1001 ∷ [])

-- up to the Open
abbrev pub wake_opening : List Entry
wake_opening = Start 0 0 ∷ Op 0 0 ∷ Run 0 0 999 ∷ Park 0 0 ∷ Start 0 1 ∷ Op 0 1 ∷ Start 0 0 ∷ Run 0 0 1 ∷ Park 0 0 ∷ Open 1 1024 ∷ []

-- f is woken between the Open and its Record, and its row still shows line 9.
abbrev pub wake_journal : List Entry
wake_journal = wake_opening ++ Record 0 0 ∷ Start 0 0 ∷ Op 0 0 ∷ Record 1 1 ∷ Close 1 ∷ Run 0 0 5 ∷ []

abbrev pub wake_told : List Told
wake_told =
    says nothing 0 1 1 1 0 0 ∷
    says (bore 1) 1 2 2 1 0 0 ∷
    says nothing 1000 2 2 1 0 0 ∷
    says nothing 1000 2 2 0 0 0 ∷
    says nothing 1000 2 2 1 0 0 ∷
    says Blocked 1000 2 2 0 0 0 ∷
    says nothing 1000 2 2 1 0 0 ∷
    says nothing 1001 2 2 1 0 0 ∷
    says nothing 1001 2 2 0 0 0 ∷
    says nothing 1001 2 2 0 1 1 ∷
    says nothing 1001 2 2 0 1 1 ∷
    says nothing 1001 2 2 1 1 1 ∷
    says (woke 1 1000 false false) 1002 2 2 1 1 1 ∷
    says nothing 1002 2 2 1 1 1 ∷
    says nothing 1002 2 2 1 0 1 ∷
    says over_now 1007 2 1 0 0 1 ∷ []

pub record WokenBetween (code : Code) : Type 0 where
  pub journal : Worked code wake_settings wake_journal Main wake_told (1007 ∷ []) (13 ∷ 3 ∷ [])
  pub rows : frozen_at code wake_settings wake_journal 9 ≡ shown 0 0 5 ∷ shown 1 1 9 ∷ []
  pub taken : rows_taken code wake_settings (at code wake_settings wake_journal 10)
      (Record 0 0 ∷ Start 0 0 ∷ Op 0 0 ∷ Record 1 1 ∷ Close 1 ∷ []) ≡ shown 0 0 5 ∷ shown 1 1 9 ∷ []
  -- not legal: a Start before the Record; a Run of one point too many before the quantum
  pub no_start : EndsThere code wake_settings wake_opening (Start 0 0)
  pub no_more_points : EndsThere code wake_settings (Start 0 0 ∷ Op 0 0 ∷ []) (Run 0 0 1000)

-- func main { spawn f, work 5 }; func f { work 2 }
abbrev pub pair : Parts
pair = program_of (
    main_function 1 4 (statement 2 (what.Spawn 1) ∷ statement 3 (what.Work 5) ∷ [])
    ∷ other_function 5 7 (statement 6 (what.Work 2) ∷ []) ∷ []
    )

abbrev pub pair_settings : ℕ → Settings
pair_settings given = record (plain (Clock 1 ∷ [])) { room = given }

abbrev pub refused_journal : List Entry
refused_journal = Start 0 0 ∷ Op 0 0 ∷ Park 0 0 ∷ Refuse 1 2 ∷ Start 0 1 ∷ Run 0 1 2 ∷ Start 0 0 ∷ Run 0 0 5 ∷ []

abbrev pub refused_told : List Told
refused_told =
    says nothing 0 1 1 1 0 0 ∷
    says (bore 1) 1 2 2 1 0 0 ∷
    says nothing 1 2 2 0 0 0 ∷
    says nothing 1 2 2 0 0 0 ∷
    says nothing 1 2 2 1 0 0 ∷
    says over_now 3 2 1 0 0 0 ∷
    says nothing 3 2 1 1 0 0 ∷
    says over_now 8 2 0 0 0 0 ∷ []

abbrev pub profiled_journal : List Entry
profiled_journal =
    Start 0 0 ∷ Op 0 0 ∷ Park 0 0 ∷ Open 1 2 ∷ Record 1 0 ∷ Record 1 1 ∷ Close 1 ∷ Start 0 1 ∷ Run 0 1 2 ∷ Start 0 0 ∷
    Run 0 0 5 ∷ []

abbrev pub profiled_told : List Told
profiled_told =
    says nothing 0 1 1 1 0 0 ∷
    says (bore 1) 1 2 2 1 0 0 ∷
    says nothing 1 2 2 0 0 0 ∷
    says nothing 1 2 2 0 1 1 ∷
    says nothing 1 2 2 0 1 1 ∷
    says nothing 1 2 2 0 1 1 ∷
    says nothing 1 2 2 0 0 1 ∷
    says nothing 1 2 2 1 0 1 ∷
    says over_now 3 2 1 0 0 1 ∷
    says nothing 3 2 1 1 0 1 ∷
    says over_now 8 2 0 0 0 1 ∷ []

-- Two workers, each of which records what it starts; the profiler's number is 2.
abbrev pub two_workers : Settings
two_workers = record (plain (Clock 1 ∷ [])) { workers = 2 }

abbrev pub side_by_side : List Entry
side_by_side =
    Start 0 0 ∷ Op 0 0 ∷ Park 0 0 ∷ Open 1 1024 ∷ Record 0 0 ∷ Start 0 0 ∷ Record 1 1 ∷ Start 1 1 ∷ Run 1 1 2 ∷
    Close 1 ∷ Run 0 0 5 ∷ []

abbrev pub parallel_told : List Told
parallel_told =
    says nothing 0 1 1 1 0 0 ∷
    says (bore 1) 1 2 2 1 0 0 ∷
    says nothing 1 2 2 0 0 0 ∷
    says nothing 1 2 2 0 1 1 ∷
    says nothing 1 2 2 0 1 1 ∷
    says nothing 1 2 2 1 1 1 ∷
    says nothing 1 2 2 1 1 1 ∷
    says nothing 1 2 2 2 1 1 ∷
    says over_now 3 2 1 1 1 1 ∷
    says nothing 3 2 1 1 0 1 ∷
    says over_now 8 2 0 0 0 1 ∷ []

pub record RoomForTwo (code : Code) : Type 0 where
  pub refused : Worked code (pair_settings 1) refused_journal Main refused_told (8 ∷ []) (7 ∷ 1 ∷ [])
  pub profiled : Worked code (pair_settings 2) profiled_journal Main profiled_told (8 ∷ []) (7 ∷ 4 ∷ [])
  pub parallel : Worked code two_workers side_by_side Main parallel_told (6 ∷ 2 ∷ []) (6 ∷ 3 ∷ 2 ∷ [])
  pub rows : frozen_at code (pair_settings 2) profiled_journal 3 ≡ shown 0 0 3 ∷ shown 1 1 6 ∷ []
  pub parallel_rows : frozen_at code two_workers side_by_side 3 ≡ shown 0 0 3 ∷ shown 1 1 6 ∷ []
  -- not legal: an Open where the room is too small, and a Refuse where it isn't; an Open while somebody runs; a
  -- Record of a goroutine born after the Open
  pub no_open : EndsThere code (pair_settings 1) (Start 0 0 ∷ Op 0 0 ∷ Park 0 0 ∷ []) (Open 1 1)
  pub no_refuse : EndsThere code (pair_settings 2) (Start 0 0 ∷ Op 0 0 ∷ Park 0 0 ∷ []) (Refuse 2 2)
  pub no_open_running : EndsThere code (pair_settings 2) (Start 0 0 ∷ Op 0 0 ∷ []) (Open 1 2)
  pub no_record_of_born : EndsThere code (plain (Clock 0 ∷ [])) (Open 1 1024 ∷ Record 1 0 ∷ Start 0 0 ∷ Op 0 0 ∷ []) (Record 1 1)

-- chan d 2; mutex m; func main { spawn f, spawn f, lock m, work 1002, unlock m, recv d, recv d };
-- func f { lock m, unlock m, send d }
abbrev pub contended : Parts
contended = record {
  functions =
      main_function 3 11 (
      statement 4 (what.Spawn 1) ∷ statement 5 (what.Spawn 1) ∷ statement 6 (what.Lock 0) ∷ statement 7 (what.Work 1002)
      ∷ statement 8 (what.Unlock 0) ∷ statement 9 (what.Recv 0) ∷ statement 10 (what.Recv 0) ∷ []
      )
      ∷ other_function 12 16 (statement 13 (what.Lock 0) ∷ statement 14 (what.Unlock 0) ∷ statement 15 (what.Send 0) ∷ [])
      ∷ [];
  channels = record { name = codes "d"; line = 2; capacity = 2 } ∷ [];
  mutexes = record { name = codes "m"; line = 1 } ∷ [];
  labels = [];
}

abbrev pub contended_journal : List Entry
contended_journal =
    Start 0 0 ∷ Op 0 0 ∷ Op 0 0 ∷ Op 0 0 ∷ Run 0 0 997 ∷ Park 0 0 ∷ Start 0 1 ∷ Op 0 1 ∷ Start 0 2 ∷ Op 0 2 ∷
    Start 0 0 ∷ Run 0 0 5 ∷ Op 0 0 ∷ Op 0 0 ∷
    Start 0 1 ∷ Op 0 1 ∷ Op 0 1 ∷ Op 0 1 ∷ Start 0 2 ∷ Op 0 2 ∷ Op 0 2 ∷ Op 0 2 ∷ Start 0 0 ∷ Op 0 0 ∷ Op 0 0 ∷ []

abbrev pub contended_told : List Told
contended_told =
    says nothing 0 1 1 1 0 0 ∷
    says (bore 1) 1 2 2 1 0 0 ∷
    says (bore 2) 2 3 3 1 0 0 ∷
    says passed_it 3 3 3 1 0 0 ∷
    says nothing 1000 3 3 1 0 0 ∷
    says nothing 1000 3 3 0 0 0 ∷
    says nothing 1000 3 3 1 0 0 ∷
    says Blocked 1000 3 3 0 0 0 ∷
    says nothing 1000 3 3 1 0 0 ∷
    says Blocked 1000 3 3 0 0 0 ∷
    says nothing 1000 3 3 1 0 0 ∷
    says nothing 1005 3 3 1 0 0 ∷
    says (woke 1 1000 true false) 1006 3 3 1 0 0 ∷
    says Blocked 1006 3 3 0 0 0 ∷
    says nothing 1006 3 3 1 0 0 ∷
    says (waited 5000) 1007 3 3 1 0 0 ∷
    says (woke 2 1000 true false) 1008 3 3 1 0 0 ∷
    says (woke 0 1006 false true) 1009 3 2 0 0 0 ∷
    says nothing 1009 3 2 1 0 0 ∷
    says (waited 7000) 1010 3 2 1 0 0 ∷
    says passed_it 1011 3 2 1 0 0 ∷
    says passed_last 1012 3 1 0 0 0 ∷
    says nothing 1012 3 1 1 0 0 ∷
    says (waited 2000) 1013 3 1 1 0 0 ∷
    says passed_last 1014 3 0 0 0 0 ∷ []

pub record ContendedMutex (code : Code) : Type 0 where
  pub journal : Worked code (plain []) contended_journal Main contended_told (1014 ∷ []) (25 ∷ 0 ∷ [])

-- chan c 0; func main { spawn f, recv c }; func f { recv c }
abbrev pub deadlocked : Parts
deadlocked = with_channels (record { name = codes "c"; line = 1; capacity = 0 } ∷ [])
    (
    main_function 2 5 (statement 3 (what.Spawn 1) ∷ statement 4 (what.Recv 0) ∷ [])
    ∷ other_function 6 8 (statement 7 (what.Recv 0) ∷ []) ∷ []
    )

abbrev pub deadlock_journal : List Entry
deadlock_journal = Start 0 0 ∷ Op 0 0 ∷ Op 0 0 ∷ Start 0 1 ∷ Op 0 1 ∷ Open 1 1024 ∷ Record 1 0 ∷ Record 1 1 ∷ Close 1 ∷ []

abbrev pub deadlock_told : List Told
deadlock_told =
    says nothing 0 1 1 1 0 0 ∷
    says (bore 1) 1 2 2 1 0 0 ∷
    says Blocked 1 2 2 0 0 0 ∷
    says nothing 1 2 2 1 0 0 ∷
    says Blocked 1 2 2 0 0 0 ∷
    says nothing 1 2 2 0 1 1 ∷
    says nothing 1 2 2 0 1 1 ∷
    says nothing 1 2 2 0 1 1 ∷
    says nothing 1 2 2 0 0 1 ∷ []

abbrev pub one_cell : Settings
one_cell = record (plain []) { cells = 1 }

abbrev pub one_cell_journal : List Entry
one_cell_journal = Start 0 0 ∷ Op 0 0 ∷ []

abbrev pub one_cell_told : List Told
one_cell_told =
    says nothing 0 1 1 1 0 0 ∷
    says (answer.Fault 2) 0 1 1 0 0 0 ∷ []

pub record Deadlocks (code : Code) : Type 0 where
  pub journal : Worked code (plain (End ∷ [])) deadlock_journal Deadlock deadlock_told (1 ∷ []) (5 ∷ 4 ∷ [])
  pub rows : frozen_at code (plain (End ∷ [])) deadlock_journal 5 ≡ shown 0 0 4 ∷ shown 1 1 7 ∷ []
  -- with one cell the same program makes a fault
  pub no_cell : Worked code one_cell one_cell_journal (Fault 2) one_cell_told (0 ∷ []) (2 ∷ 0 ∷ [])

-- mutex m; func main { work 3, unlock m }
abbrev pub faulty : Parts
faulty = record {
  functions = main_function 2 5 (statement 3 (what.Work 3) ∷ statement 4 (what.Unlock 0) ∷ []) ∷ [];
  channels = [];
  mutexes = record { name = codes "m"; line = 1 } ∷ [];
  labels = [];
}

abbrev pub fault_journal : List Entry
fault_journal = Start 0 0 ∷ Run 0 0 3 ∷ Op 0 0 ∷ Open 1 1024 ∷ Record 1 0 ∷ Close 1 ∷ []

abbrev pub fault_told : List Told
fault_told =
    says nothing 0 1 1 1 0 0 ∷
    says nothing 3 1 1 1 0 0 ∷
    says (answer.Fault 1) 3 1 1 0 0 0 ∷
    says nothing 3 1 1 0 1 1 ∷
    says nothing 3 1 1 0 1 1 ∷
    says nothing 3 1 1 0 0 1 ∷ []

pub record FaultOfUnlock (code : Code) : Type 0 where
  pub journal : Worked code (plain (End ∷ [])) fault_journal (Fault 1) fault_told (3 ∷ []) (3 ∷ 3 ∷ [])
  pub rows : frozen_at code (plain (End ∷ [])) fault_journal 3 ≡ shown 0 0 4 ∷ []

-- func main { work 6 }, with a tick at each instruction
abbrev pub six : Parts
six = program_of (main_function 1 3 (statement 2 (what.Work 6) ∷ []) ∷ [])

abbrev pub ticking : Settings
ticking = record (plain []) { hz = 1000000 }

abbrev pub tick_journal : List Entry
tick_journal =
    Start 0 0 ∷ Run 0 0 1 ∷ Tick 0 0 ∷ Run 0 0 1 ∷ Tick 0 0 ∷ Run 0 0 1 ∷ Tick 0 0 ∷ Run 0 0 1 ∷ Tick 0 0 ∷
    Run 0 0 1 ∷ Tick 0 0 ∷ Run 0 0 1 ∷ []

abbrev pub tick_told : List Told
tick_told =
    says nothing 0 1 1 1 0 0 ∷
    says nothing 1 1 1 1 0 0 ∷
    says nothing 1 1 1 1 0 0 ∷
    says nothing 2 1 1 1 0 0 ∷
    says nothing 2 1 1 1 0 0 ∷
    says nothing 3 1 1 1 0 0 ∷
    says nothing 3 1 1 1 0 0 ∷
    says nothing 4 1 1 1 0 0 ∷
    says nothing 4 1 1 1 0 0 ∷
    says nothing 5 1 1 1 0 0 ∷
    says nothing 5 1 1 1 0 0 ∷
    says over_now 6 1 0 0 0 0 ∷ []

-- Where the journal is full, the worker leaves what it runs and the last request is served.
abbrev pub full_settings : Settings
full_settings = record (plain (End ∷ [])) { entries = 16 }

-- func main { work 20000 }
abbrev pub long : Parts
long = program_of (main_function 1 3 (statement 2 (what.Work 20000) ∷ []) ∷ [])

abbrev pub full_journal : List Entry
full_journal =
    Start 0 0 ∷ Run 0 0 1000 ∷ Park 0 0 ∷ Start 0 0 ∷ Run 0 0 1000 ∷ Park 0 0 ∷ Start 0 0 ∷ Run 0 0 1000 ∷ Park 0 0 ∷
    Start 0 0 ∷ Run 0 0 1000 ∷ Park 0 0 ∷
    Start 0 0 ∷ Run 0 0 1000 ∷ Park 0 0 ∷ Start 0 0 ∷ Park 0 0 ∷ Open 1 1024 ∷ Record 1 0 ∷ Close 1 ∷ []

abbrev pub full_told : List Told
full_told =
    says nothing 0 1 1 1 0 0 ∷
    says nothing 1000 1 1 1 0 0 ∷
    says nothing 1000 1 1 0 0 0 ∷
    says nothing 1000 1 1 1 0 0 ∷
    says nothing 2000 1 1 1 0 0 ∷
    says nothing 2000 1 1 0 0 0 ∷
    says nothing 2000 1 1 1 0 0 ∷
    says nothing 3000 1 1 1 0 0 ∷
    says nothing 3000 1 1 0 0 0 ∷
    says nothing 3000 1 1 1 0 0 ∷
    says nothing 4000 1 1 1 0 0 ∷
    says nothing 4000 1 1 0 0 0 ∷
    says nothing 4000 1 1 1 0 0 ∷
    says nothing 5000 1 1 1 0 0 ∷
    says nothing 5000 1 1 0 0 0 ∷
    says nothing 5000 1 1 1 0 0 ∷
    says nothing 5000 1 1 0 0 0 ∷
    says nothing 5000 1 1 0 1 1 ∷
    says nothing 5000 1 1 0 1 1 ∷
    says nothing 5000 1 1 0 0 1 ∷ []

pub record Ticks (code : Code) : Type 0 where
  pub journal : Worked code ticking tick_journal Main tick_told (6 ∷ []) (12 ∷ 0 ∷ [])

pub record FullJournal (code : Code) : Type 0 where
  pub journal : Worked code full_settings full_journal Full full_told (5000 ∷ []) (17 ∷ 3 ∷ [])
  pub rows : frozen_at code full_settings full_journal 17 ≡ shown 0 0 2 ∷ []
  pub no_start : EndsThere code full_settings (take 17 full_journal) (Start 0 0)

-- the row of a goroutine with no frame
abbrev bare : ℕ → Row
bare g = record { g = g; stack = []; set = 0 }

-- Small examples: an instant at the clock has come, one above it hasn't, and the end never comes by the clock; rows
-- that were taken in the order 2, 0, 1 are sorted by number.
pub record SmallExamples : Type 0 where
  pub come : has_come 5 (Clock 5) ≡ true
  pub to_come : has_come 5 (Clock 6) ≡ false
  pub never_by_clock : has_come 5 End ≡ false
  pub sorted_rows : sorted (bare 2 ∷ bare 0 ∷ bare 1 ∷ []) ≡ bare 0 ∷ bare 1 ∷ bare 2 ∷ []
