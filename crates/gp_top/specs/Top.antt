-- What the two top calls promise, in the words of their clauses.
use Rattle.std.specs.Prelude.{◌≡◌, ◌⊎◌, ℕ, List, [], ◌∷◌, Option}
use Rattle.gp_journal.specs.declared.settings.Settings.{Settings}
use Rattle.gp_text.specs.declared.cause.Cause.{Cause}
use Rattle.gp_text.specs.Number.{number_of}
use Rattle.gp_wire.specs.Cause as wire
use Rattle.gp_wire.specs.declared.cause.Cause.{Cause as WireCause}
use Rattle.gp_wire.specs.declared.profile.Profile.{Profile}
use Rattle.gp_build.specs.Meant.{meaning_of}
use Rattle.gp_words.specs.declared.jobs.Job.{Job}
use Rattle.gp_words.specs.declared.jobs.Job.TheVariants.{Gen, Dump}
use Rattle.gp_words.specs.Read.{Read as Reading, Names, Faults}
use Rattle.gp_report.specs.Fault.{fault_line}
use Rattle.gp_report.specs.Dump.{dump_text}
use Rattle.gp_report.specs.declared.refusal.Fault.TheVariants.{Usage, Line, At, Long}
use Rattle.gp_report.specs.declared.report.Report.{Report}
use Rattle.gp_top.specs.Exit.{exit_done, exit_usage, exit_refused, exit_read_fault, exit_put_fault, exit_memory}
use Rattle.gp_top.specs.Status.{status_of}
use Rattle.gp_top.specs.Report.{IsReport, Order, IsInOrder}
use Rattle.gp_top.specs.Files.{Output}
use Rattle.gp_top.specs.Putting.{Told, ArePut, FirstArePut, OneFails, Sunk, Writes, FailsToWrite}
use Rattle.gp_top.specs.Task.{Task, task_files, task_summary, generated_file}
use Rattle.gp_top.specs.Asked.{file_job, limit_of, IsTooLong, IsFaulty, IsFaultyProfile, IsProfile, IsAsked}

-- ---- a run

-- A text was written, and the status is the one that tells how all ended; or the text couldn't be written, and it's 4.
abbrev pub IsTold : List ℕ → ℕ → Sunk → Sunk → ℕ → Type 0
IsTold text ending before after status =
    ((status ≡ ending) × Writes text before after) ⊎ ((status ≡ exit_put_fault) × FailsToWrite text before after)

-- What became of the files of a run and of its summary, of which the status tells.
pub data ComesTo (outputs : List Output) (summary : List ℕ) (ending : ℕ) (before after : Told) (sink_before sink_after : Sunk) (status : ℕ)
    : Type 0 where
  -- All files were put. Then the summary was written, and the status tells how the run ended; or it couldn't be written.
  AllPut : ArePut outputs before after → IsTold summary ending sink_before sink_after status
      → ComesTo outputs summary ending before after sink_before sink_after status
  -- A put failed. Then nothing more was put, and nothing was written.
  PutFails : status ≡ exit_put_fault → OneFails outputs before after → sink_after ≡ sink_before
      → ComesTo outputs summary ending before after sink_before sink_after status
  -- Memory ran out. Some files, maybe all of them, were put, and nothing was written.
  OutOfMemory : status ≡ exit_memory → FirstArePut outputs before after → sink_after ≡ sink_before
      → ComesTo outputs summary ending before after sink_before sink_after status

-- The headline. The words ask for a run of a program under options, the report is that run's, and where numbers choose the order
-- it is that of their choice. Each file put is one of that run's files. The status tells how the run ended, or why not all files
-- and the summary stand.
pub record IsRun (asked : Reading Job) (held : Option (List ℕ)) (before after : Told) (sink_before sink_after : Sunk) (status : ℕ)
    (report : Report) : Type 0 where
  pub task : Task
  pub is_asked : IsAsked asked held task
  pub reported : IsReport task.program task.settings report
  pub in_order : IsInOrder task.order task.program task.settings report
  pub comes_to :
      ComesTo (task_files task report) (task_summary task report) (status_of report) before after sink_before sink_after status

-- ---- without a run

-- the statuses of words, files and sources of which no run comes
abbrev pub IsRefusal : ℕ → Type 0
IsRefusal status = (status ≡ exit_usage) ⊎ ((status ≡ exit_refused) ⊎ (status ≡ exit_read_fault))

-- The words ask for the text of a profile, the bytes read are all that the source held and give a profile, and the text of
-- what it means was written: whole on 0, on 4 a prefix.
pub record IsDumped (asked : Reading Job) (held : Option (List ℕ)) (before after : Sunk) (status : ℕ) : Type 0 where
  pub file : List ℕ
  pub job : asked ≡ Names (Dump file)
  pub profile : Profile
  pub accepted : IsProfile held profile
  pub told : IsTold (dump_text (meaning_of profile)) exit_done before after status

-- The words ask for a run of a generated program.
pub record AskForGenerated (asked : Reading Job) (n q : ℕ) : Type 0 where
  pub settings : Settings
  pub job : asked ≡ Names (Gen n q settings)

-- What is put where memory runs out: nothing, or the text of a generated program.
pub data PutsNoMore (asked : Reading Job) (before after : Told) : Type 0 where
  PutsNothing : after ≡ before → PutsNoMore asked before after
  PutsProgram : (n q : ℕ) → AskForGenerated asked n q → ArePut (generated_file n q ∷ []) before after → PutsNoMore asked before after

-- How a call ends that has no report.
pub data EndsWithoutReport (asked : Reading Job) (held : Option (List ℕ)) (before after : Told) (sink_before sink_after : Sunk)
    (status : ℕ) : Type 0 where
  -- The words, the bytes or the source are at fault, and nothing was put.
  Refusal : IsRefusal status → after ≡ before → EndsWithoutReport asked held before after sink_before sink_after status
  -- The text of a profile was asked for, and nothing was put.
  Dumped : IsDumped asked held sink_before sink_after status → after ≡ before
      → EndsWithoutReport asked held before after sink_before sink_after status
  -- The text of a generated program couldn't be put, and nothing was written.
  ProgramFails : (n q : ℕ) → AskForGenerated asked n q → status ≡ exit_put_fault → OneFails (generated_file n q ∷ []) before after
      → sink_after ≡ sink_before → EndsWithoutReport asked held before after sink_before sink_after status
  -- Memory ran out, and nothing was written.
  NoMemory : status ≡ exit_memory → PutsNoMore asked before after → sink_after ≡ sink_before
      → EndsWithoutReport asked held before after sink_before sink_after status

-- ---- lines of refusals

-- A line was written, or couldn't be.
abbrev pub IsWritten : List ℕ → Sunk → Sunk → Type 0
IsWritten line before after = Writes line before after ⊎ FailsToWrite line before after

-- The line that the first fault in the words gives was written.
pub record TellsUsage (asked : Reading Job) (before after : Sunk) : Type 0 where
  pub place : ℕ
  pub cause : ℕ
  pub faults : asked ≡ Faults place cause
  pub written : IsWritten (fault_line (Usage place cause)) before after

-- The line that tells why the bytes are refused was written: that they are too many; or the line and cause of their first fault
-- as a program, or its place and cause as a profile, by what the words ask for.
pub data TellsRefused (asked : Reading Job) (held : Option (List ℕ)) (before after : Sunk) : Type 0 where
  TellsLong : (job : Job) → asked ≡ Names job → IsTooLong (limit_of job) held → IsWritten (fault_line Long) before after
      → TellsRefused asked held before after
  TellsLine : (order : Order) (file : List ℕ) (settings : Settings) → asked ≡ Names (file_job order file settings)
      → (line : ℕ) (cause : Cause) → IsFaulty held line cause
      → IsWritten (fault_line (Line line (number_of cause))) before after → TellsRefused asked held before after
  TellsAt : (file : List ℕ) → asked ≡ Names (Dump file)
      → (at : ℕ) (cause : WireCause) → IsFaultyProfile held at cause
      → IsWritten (fault_line (At at (wire.number_of cause))) before after → TellsRefused asked held before after
