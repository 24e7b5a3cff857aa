-- The files and the summary of a run.
use Rattle.std.specs.Prelude.{◌≡◌, ℕ, suc, List, [], ◌∷◌, ◌++◌, min, codes}
use Rattle.std.specs.Fmt.{decimal}
use Rattle.gp_io.specs.Outside.{File}
use Rattle.gp_isa.specs.declared.parts.Parts.{Parts}
use Rattle.gp_stack.specs.declared.record.Record.{Record as Row}
use Rattle.gp_events.specs.declared.sum.Sum.{Sum}
use Rattle.gp_events.specs.Order.{sums_in_order}
use Rattle.gp_events.specs.Sums.{sums, total_count, total_delay}
use Rattle.gp_journal.specs.declared.settings.Settings.{Settings}
use Rattle.gp_journal.specs.State.{code_of}
use Rattle.gp_journal.specs.Run.{state_of}
use Rattle.gp_history.specs.Events.{block_events, mutex_events}
use Rattle.gp_wire.specs.Canonical.{canon}
use Rattle.gp_wire.specs.Reading.{value_of, Gives}
use Rattle.gp_wire.specs.declared.profile.Profile.{Profile}
use Rattle.gp_build.specs.Profile.{goroutine_profile_of}
use Rattle.gp_build.specs.Cpu.{cpu_profile_of}
use Rattle.gp_build.specs.Contention.{contention_profile_of}
use Rattle.gp_report.specs.Summary.{summary_text}
use Rattle.gp_report.specs.declared.report.Report.{Report}
use Rattle.gp_report.specs.declared.totals.Totals.{Totals}

-- What is put under a name: a text, or a profile as its canonical bytes.
pub data Output : Type 0 where
  TextFile : (name text : List ℕ) → Output
  ProfileFile : (name : List ℕ) (profile : Profile) → Output

abbrev pub file_of : Output → File
file_of (TextFile name text) = (name, text)
file_of (ProfileFile name profile) = (name, canon profile)

-- The bytes of a profile are read again as that profile.
abbrev pub IsReadAgain : Output → Type 0
IsReadAgain (TextFile name text) = Unit {0}
IsReadAgain (ProfileFile name profile) = value_of (canon profile) ≡ Gives profile

-- the name of the goroutine profile of an epoch
abbrev pub profile_name : ℕ → List ℕ
profile_name epoch = codes "goroutine." ++ decimal epoch ++ codes ".pb"

-- The goroutine profiles of lists of records, from an epoch on: each has its name, and the profile that its records make.
abbrev pub profiles_from : Parts → List ℕ → ℕ → List (List Row) → List Output
profiles_from program file epoch [] = []
profiles_from program file epoch (rows ∷ lists) =
    ProfileFile (profile_name epoch) (goroutine_profile_of program file rows) ∷ profiles_from program file (suc epoch) lists

-- The goroutine profiles of lists of records, by epoch.
abbrev pub goroutine_files : Parts → List ℕ → List (List Row) → List Output
goroutine_files program file lists = profiles_from program file 1 lists

-- the sums of the block events of a run's journal, and of its mutex events
abbrev pub block_sums : Parts → Settings → Report → List Sum
block_sums program settings report = sums (block_events (code_of program) settings report.journal)

abbrev pub mutex_sums : Parts → Settings → Report → List Sum
mutex_sums program settings report = sums (mutex_events (code_of program) settings report.journal)

-- The CPU profile of a run: that of what the reader took, by the rate of its ticks and the clock at its end.
abbrev pub cpu_file : Parts → Settings → List ℕ → Report → Output
cpu_file program settings file report =
    ProfileFile (codes "cpu.pb")
    (cpu_profile_of program file report.cpu_records settings.hz (state_of program settings report.journal).clock)

-- The profile of sums of waits under its name, the sums in a profile's order.
abbrev pub waits_file : Parts → List ℕ → List ℕ → List Sum → Output
waits_file program file name all = ProfileFile name (contention_profile_of program file (sums_in_order program all))

-- The files of a run of a program under its options, in the order in which they're put: the goroutine profiles, by epoch,
-- the CPU profile, the block profile and the mutex profile. Where there are no events a profile stands without a sample.
abbrev pub files_of : Parts → Settings → List ℕ → Report → List Output
files_of program settings file report =
    goroutine_files program file report.goroutine_records
    ++ cpu_file program settings file report
    ∷ waits_file program file (codes "block.pb") (block_sums program settings report)
    ∷ waits_file program file (codes "mutex.pb") (mutex_sums program settings report)
    ∷ []

-- a sum as it is told: the lesser of it and 2^63 - 1
abbrev pub capped : ℕ → ℕ
capped sum = min sum 9223372036854775807

-- The sums of all stacks together.
abbrev pub totals_of : List Sum → List Sum → Totals
totals_of block mutex = record {
  block_count = capped (total_count block);
  block_delay = capped (total_delay block);
  mutex_count = capped (total_count mutex);
  mutex_delay = capped (total_delay mutex);
}

-- The summary of a run, which is written after the last put.
abbrev pub summary_of : Parts → Settings → Report → List ℕ
summary_of program settings report =
    summary_text report (totals_of (block_sums program settings report) (mutex_sums program settings report))
