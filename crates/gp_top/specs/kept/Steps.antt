-- What the steps of the top call hand to one another.
use Rattle.std.specs.Prelude.{◌≡◌, ◌≢◌, ◌<◌, ◌^◌, ◌⊎◌, ℕ, List, Option}
use Rattle.gp_io.specs.Outside.{Rose}
use Rattle.gp_isa.specs.declared.parts.Parts.{Parts}
use Rattle.gp_io.specs.declared.whole.ReadError.{ReadError}
use Rattle.gp_io.specs.declared.whole.ReadError.TheVariants as read
use Rattle.gp_build.specs.Meant.{meaning_of}
use Rattle.gp_report.specs.Dump.{dump_text}
use Rattle.gp_report.specs.declared.refusal.Fault.{Fault}
use Rattle.gp_report.specs.declared.refusal.Fault.TheVariants.{Usage, Line, At, Long, Read}
use Rattle.gp_text.specs.Number.{number_of}
use Rattle.gp_text.specs.declared.cause.Cause.{Cause}
use Rattle.gp_text.specs.declared.error.TextError.{TextError}
use Rattle.gp_text.specs.declared.error.TextError.TheVariants as text
use Rattle.gp_wire.specs.Cause as wire
use Rattle.gp_wire.specs.declared.cause.Cause.{Cause as WireCause}
use Rattle.gp_wire.specs.declared.error.WireError.{WireError}
use Rattle.gp_wire.specs.declared.profile.Profile.{Profile}
use Rattle.gp_wire.specs.declared.error.WireError.TheVariants as profile
use Rattle.gp_journal.specs.declared.settings.Settings.{Settings}
use Rattle.gp_journal.specs.Run.{state_of}
use Rattle.gp_events.specs.Order.{sums_in_order}
use Rattle.gp_words.specs.Read.{Read as Reading, Names, Faults}
use Rattle.gp_words.specs.declared.jobs.Job.{Job}
use Rattle.gp_words.specs.declared.jobs.Job.TheVariants.{Dump}
use Rattle.gp_words.specs.declared.error.WordError.{WordError}
use Rattle.gp_words.specs.declared.error.WordError.TheVariants as words
use Rattle.gp_report.specs.declared.report.Report.{Report}
use Rattle.gp_top.specs.declared.stop.Stop.{Stop}
use Rattle.gp_top.specs.declared.stop.Stop.TheVariants as stop
use Rattle.gp_top.specs.declared.save.SaveError.{SaveError}
use Rattle.gp_top.specs.declared.save.SaveError.TheVariants as save
use Rattle.gp_top.specs.declared.report.Ran.{Ran}
use Rattle.gp_top.specs.Exit.{exit_done, exit_usage, exit_refused, exit_read_fault}
use Rattle.gp_isa.specs.Limits.{file_bytes}
use Rattle.gp_top.specs.Status.{status_of}
use Rattle.gp_top.specs.Report.{IsReport, Order, IsInOrder}
use Rattle.gp_top.specs.Files.{Output, block_sums, mutex_sums}
use Rattle.gp_top.specs.Putting.{Told, FirstArePut, OneFails, Sunk}
use Rattle.gp_top.specs.Task.{Task, task_files, task_summary}
use Rattle.gp_top.specs.Asked.{file_job, profile_bytes, IsTooLong, IsFaulty, IsFaultyProfile, IsProfile, IsReadTo}
use Rattle.gp_top.specs.Top.{ComesTo, IsTold}

-- what stops a job by each cause of words, of a failed read, of a refused text and of a refused profile
abbrev pub stop_of_words : WordError → Stop
stop_of_words (words.Usage place cause) = stop.Fault (Usage place cause)
stop_of_words words.Memory = stop.Memory

abbrev pub stop_of_read : ReadError → Stop
stop_of_read read.TooLong = stop.Fault Long
stop_of_read read.ReadFault = stop.Fault Read
stop_of_read read.Memory = stop.Memory

abbrev pub stop_of_text : TextError → Stop
stop_of_text (text.Refused line cause) = stop.Fault (Line line (number_of cause))
stop_of_text text.Memory = stop.Memory

abbrev pub stop_of_profile : WireError → Stop
stop_of_profile (profile.Refused at cause) = stop.Fault (At at (wire.number_of cause))
stop_of_profile profile.Memory = stop.Memory

-- What stops a job at its words.
abbrev pub WordsStop : Reading Job → Stop → Type 0
WordsStop asked (stop.Fault (Usage place cause)) = asked ≡ Faults place cause
WordsStop asked (stop.Fault (Line line number)) = ⊥
WordsStop asked (stop.Fault (At at cause)) = ⊥
WordsStop asked (stop.Fault Long) = ⊥
WordsStop asked (stop.Fault Read) = ⊥
WordsStop asked stop.Memory = Unit {0}

-- The source was read to its end, or to one byte past a limit, and no read failed.
abbrev pub IsReadWell : {S : Type 0} → (S → Option (List ℕ)) → (S → ℕ) → ℕ → S → S → Type 0
IsReadWell left faults limit old new = IsReadTo limit (left old) (left new) × (faults new ≡ faults old)

-- The source held more bytes than a limit, and was read to one byte past it.
abbrev pub HeldMore : {S : Type 0} → (S → Option (List ℕ)) → (S → ℕ) → ℕ → S → S → Type 0
HeldMore left faults limit old new = IsTooLong limit (left old) × IsReadWell left faults limit old new

-- What a fault tells of the source, before and after, where a program was to be read.
abbrev pub SourceTells : {S : Type 0} → (S → Option (List ℕ)) → (S → ℕ) → S → S → Fault → Type 0
SourceTells left faults old new (Usage place cause) = ⊥
SourceTells left faults old new (Line line number) =
    ((cause : Cause) × (number ≡ number_of cause) × IsFaulty (left old) line cause) × IsReadWell left faults file_bytes old new
SourceTells left faults old new (At at number) = ⊥
SourceTells left faults old new Long = HeldMore left faults file_bytes old new
SourceTells left faults old new Read = Rose (faults old) (faults new)

-- The same where a profile was to be read.
abbrev pub ProfileTells : {S : Type 0} → (S → Option (List ℕ)) → (S → ℕ) → S → S → Fault → Type 0
ProfileTells left faults old new (Usage place cause) = ⊥
ProfileTells left faults old new (Line line number) = ⊥
ProfileTells left faults old new (At at number) =
    ((cause : WireCause) × (number ≡ wire.number_of cause) × IsFaultyProfile (left old) at cause)
    × IsReadWell left faults profile_bytes old new
ProfileTells left faults old new Long = HeldMore left faults profile_bytes old new
ProfileTells left faults old new Read = Rose (faults old) (faults new)

-- And what stops the reading of either.
abbrev pub LoadStops : {S : Type 0} → (S → Option (List ℕ)) → (S → ℕ) → S → S → Stop → Type 0
LoadStops left faults old new (stop.Fault what) = SourceTells left faults old new what
LoadStops left faults old new stop.Memory = Unit {0}

abbrev pub ProfileStops : {S : Type 0} → (S → Option (List ℕ)) → (S → ℕ) → S → S → Stop → Type 0
ProfileStops left faults old new (stop.Fault what) = ProfileTells left faults old new what
ProfileStops left faults old new stop.Memory = Unit {0}

-- The words ask for a run of a file's program, or for the text of a profile.
abbrev pub AskForRun : Reading Job → Type 0
AskForRun asked = (order : Order) × (file : List ℕ) × (settings : Settings) × (asked ≡ Names (file_job order file settings))

abbrev pub AskForText : Reading Job → Type 0
AskForText asked = (file : List ℕ) × (asked ≡ Names (Dump file))

-- The words ask for something that is read.
abbrev pub AskToRead : Reading Job → Type 0
AskToRead asked = AskForRun asked ⊎ AskForText asked

-- It held more bytes than what the words ask for may have.
abbrev pub HeldTooMuch : {S : Type 0} → (S → Option (List ℕ)) → (S → ℕ) → Reading Job → S → S → Type 0
HeldTooMuch left faults asked old new =
    (AskForRun asked × HeldMore left faults file_bytes old new) ⊎ (AskForText asked × HeldMore left faults profile_bytes old new)

-- What a fault tells of the words, and of the source before and after.
abbrev pub FaultTells : {S : Type 0} → (S → Option (List ℕ)) → (S → ℕ) → Reading Job → S → S → Fault → Type 0
FaultTells left faults asked old new (Usage place cause) = (asked ≡ Faults place cause) × (new ≡ old)
FaultTells left faults asked old new (Line line number) = AskForRun asked × SourceTells left faults old new (Line line number)
FaultTells left faults asked old new (At at number) = AskForText asked × ProfileTells left faults old new (At at number)
FaultTells left faults asked old new Long = HeldTooMuch left faults asked old new
FaultTells left faults asked old new Read = AskToRead asked × Rose (faults old) (faults new)

-- And what stops a job.
abbrev pub RunStops : {S : Type 0} → (S → Option (List ℕ)) → (S → ℕ) → Reading Job → S → S → Stop → Type 0
RunStops left faults asked old new (stop.Fault what) = FaultTells left faults asked old new what
RunStops left faults asked old new stop.Memory = Unit {0}

-- A status behind a run or a text: none of those of a refusal.
abbrev pub IsAfterRun : ℕ → Type 0
IsAfterRun status = (status ≢ exit_usage) × ((status ≢ exit_refused) × (status ≢ exit_read_fault))

-- What stops the puts of files.
abbrev pub SaveStops : List Output → Told → Told → SaveError → Type 0
SaveStops outputs before after save.PutFault = OneFails outputs before after
SaveStops outputs before after save.Memory = FirstArePut outputs before after

-- What is left of a run, whoever made it: its report, its clock, and the sums of its events in a profile's order.
pub record IsRan (program : Parts) (settings : Settings) (ran : Ran) : Type 0 where
  pub reported : IsReport program settings ran.report
  pub clock_is : ran.clock ≡ (state_of program settings ran.report.journal).clock
  pub clock_fits : ran.clock < 2 ^ 53
  pub block_are : ran.block ≡ sums_in_order program (block_sums program settings ran.report)
  pub mutex_are : ran.mutex ≡ sums_in_order program (mutex_sums program settings ran.report)

-- The bytes read are all that the source held and give a profile, and the text of what it means was written.
pub record IsDump (held : Option (List ℕ)) (before after : Sunk) (status : ℕ) : Type 0 where
  pub profile : Profile
  pub accepted : IsProfile held profile
  pub told : IsTold (dump_text (meaning_of profile)) exit_done before after status

-- What a task that was run comes to.
pub record CameTo (task : Task) (before after : Told) (sink_before sink_after : Sunk) (status : ℕ) (report : Report) : Type 0 where
  pub reported : IsReport task.program task.settings report
  pub in_order : IsInOrder task.order task.program task.settings report
  pub comes_to :
      ComesTo (task_files task report) (task_summary task report) (status_of report) before after sink_before sink_after status
