-- What the report of a run tells of its journal.
use Rattle.std.specs.Prelude.{◌≡◌, ℕ, List, [], ◌∷◌, map}
use Rattle.gp_isa.specs.declared.parts.Parts.{Parts}
use Rattle.gp_stack.specs.declared.record.Record.{Record as Row}
use Rattle.gp_journal.specs.declared.entry.Entry.{Entry}
use Rattle.gp_journal.specs.declared.entry.Entry.TheVariants.{Open, Refuse, Record, Close}
use Rattle.gp_journal.specs.declared.settings.Settings.{Settings}
use Rattle.gp_journal.specs.State.{code_of, births, live}
use Rattle.gp_journal.specs.Due.{ended}
use Rattle.gp_journal.specs.Told.{done_of, made_of}
use Rattle.gp_journal.specs.Run.{state_of, IsFinished}
use Rattle.gp_journal.specs.Profiles.{AreFrozen}
use Rattle.gp_ring.specs.Records.{RingRecord, Covers}
use Rattle.gp_cpu.specs.Records.{ring_record_of}
use Rattle.gp_cpu.specs.Samples.{samples_of_journal}
use Rattle.gp_cpu.specs.declared.record.CpuRecord.{CpuRecord}
use Rattle.gp_sim.specs.Choice.{sim_journal, sim_records}
use Rattle.gp_samples.specs.RunRing.{BeginWithHead}
use Rattle.gp_report.specs.declared.report.Report.{Report}

-- the goroutines that the Record entries up to the first Close name, in their order
abbrev pub ids_taken : List Entry → List ℕ
ids_taken [] = []
ids_taken (Record actor g ∷ entries) = g ∷ ids_taken entries
ids_taken (Close epoch ∷ entries) = []
ids_taken (entry ∷ entries) = ids_taken entries

-- For each Open of a journal, the goroutines that the Record entries from there up to the next Close name.
abbrev pub recorded_ids : List Entry → List (List ℕ)
recorded_ids [] = []
recorded_ids (Open epoch room ∷ entries) = ids_taken entries ∷ recorded_ids entries
recorded_ids (entry ∷ entries) = recorded_ids entries

-- the goroutines of records
abbrev pub ids : List Row → List ℕ
ids rows = map (λ (row : Row). row.g) rows

-- what the reader took, as records of the ring
abbrev pub ring_records : List CpuRecord → List RingRecord
ring_records records = map ring_record_of records

-- the room and the number of live goroutines of each Refuse entry
abbrev pub refusals : List Entry → List (ℕ × ℕ)
refusals [] = []
refusals (Refuse room n ∷ entries) = (room, n) ∷ refusals entries
refusals (entry ∷ entries) = refusals entries

-- The report of a run of a program under its options, in whatever order its entries came.
pub record IsReport (program : Parts) (settings : Settings) (report : Report) : Type 0 where
  -- The journal is legal, and the run complete.
  pub finished : IsFinished (code_of program) settings report.journal
  -- Each Open has its list of records, which names those that the Record entries name, and which sorted is that of all
  -- goroutines live at that Open.
  pub recorded : map ids report.goroutine_records ≡ recorded_ids report.journal
  pub frozen : AreFrozen (code_of program) settings report.journal report.goroutine_records
  -- Each sample of the journal was delivered, or counted lost once, in order; those of the head for the run's ring were delivered.
  pub covered : Covers (ring_records report.cpu_records) (samples_of_journal (code_of program) settings report.journal)
  pub begun : BeginWithHead program settings report.journal (ring_records report.cpu_records)
  -- What else is told is told by the journal, and by the state after all entries.
  pub refused_are : report.refused ≡ refusals report.journal
  pub done_are : report.done ≡ done_of (state_of program settings report.journal)
  pub made_are : report.made ≡ made_of settings report.journal
  pub ended_is : report.ended ≡ ended (state_of program settings report.journal)
  pub born_are : report.born ≡ births (state_of program settings report.journal)
  pub live_are : report.live ≡ live (state_of program settings report.journal)

-- The journal and the CPU records that a report tells are those of the choice by numbers.
pub record IsChosen (program : Parts) (settings : Settings) (report : Report) : Type 0 where
  pub journal_is : report.journal ≡ sim_journal program settings
  pub records_are : ring_records report.cpu_records ≡ sim_records program settings

-- How the order of a run's entries comes about: by the numbers of its options, or by its threads, in whatever order they come.
pub data Order : Type 0 where
  ByNumbers : Order
  ByThreads : Order

-- Where numbers choose, what a report tells is what they choose. Of threads nothing is said.
abbrev pub IsInOrder : Order → Parts → Settings → Report → Type 0
IsInOrder ByNumbers program settings report = IsChosen program settings report
IsInOrder ByThreads program settings report = Unit {0}
