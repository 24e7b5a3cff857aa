-- The summary of a run.
use Rattle.std.specs.Prelude.{ℕ, Bool, true, false, List, ◌++◌, length, codes, count_by, sum, sum_by}
use Rattle.std.specs.Fmt.{decimal}
use Rattle.gp_journal.specs.declared.entry.Ended.{Ended}
use Rattle.gp_journal.specs.declared.entry.Ended.TheVariants.{Main, Fault, Full, Deadlock}
use Rattle.gp_journal.specs.declared.entry.Entry.{Entry}
use Rattle.gp_journal.specs.declared.entry.Entry.TheVariants.{Tick}
use Rattle.gp_cpu.specs.declared.record.CpuRecord.{CpuRecord}
use Rattle.gp_cpu.specs.declared.record.CpuRecord.TheVariants.{Sample, Lost}
use Rattle.gp_cpu.specs.Sums.{counted}
use Rattle.gp_report.specs.declared.report.Report.{Report}
use Rattle.gp_report.specs.declared.totals.Totals.{Totals}

-- how the run ended
abbrev pub end_text : Ended → List ℕ
end_text Main = codes "main"
end_text (Fault cause) = codes "fault " ++ decimal cause
end_text Full = codes "full"
end_text Deadlock = codes "deadlock"

abbrev pub is_tick : Entry → Bool
is_tick (Tick w g) = true
is_tick entry = false

-- the Tick entries
abbrev pub ticks : List Entry → ℕ
ticks journal = count_by is_tick journal

-- how many samples a record says were delivered, and how many were lost
abbrev pub delivered_by : CpuRecord → ℕ
delivered_by (Sample time tag header stack) = 1
delivered_by (Lost count time) = 0

abbrev pub lost_by : CpuRecord → ℕ
lost_by (Sample time tag header stack) = 0
lost_by (Lost count time) = count

-- The samples that were delivered, of which the rate record is none,
abbrev pub delivered : List CpuRecord → ℕ
delivered records = sum_by delivered_by (counted records)

-- and those that were lost.
abbrev pub lost : List CpuRecord → ℕ
lost records = sum_by lost_by (counted records)

-- ---- the lines

abbrev pub end_line : Ended → List ℕ
end_line ended = codes "end " ++ end_text ended ++ codes "\n"

abbrev pub entries_line : ℕ → List ℕ
entries_line entries = codes "entries " ++ decimal entries ++ codes "\n"

abbrev pub instructions_line : ℕ → List ℕ
instructions_line instructions = codes "instructions " ++ decimal instructions ++ codes "\n"

abbrev pub born_line : ℕ → ℕ → List ℕ
born_line born live = codes "born " ++ decimal born ++ codes " live " ++ decimal live ++ codes "\n"

abbrev pub ticks_line : ℕ → ℕ → ℕ → List ℕ
ticks_line ticks samples lost =
    codes "ticks " ++ decimal ticks ++ codes " samples " ++ decimal samples ++ codes " lost " ++ decimal lost ++ codes "\n"

abbrev pub profiles_line : ℕ → ℕ → List ℕ
profiles_line opened refused = codes "profiles " ++ decimal opened ++ codes " refused " ++ decimal refused ++ codes "\n"

-- of the events of a kind: what they count, and their delay in nanoseconds
abbrev pub waits_line : List ℕ → ℕ → ℕ → List ℕ
waits_line kind count delay = kind ++ codes " " ++ decimal count ++ codes " " ++ decimal delay ++ codes "\n"

-- How a run ended, and what it ran. The clock at its end is the sum of what the workers have run.
unfoldable pub run_lines : Report → List ℕ
run_lines report =
    end_line report.ended
    ++ entries_line (length report.journal)
    ++ instructions_line (sum report.done)
    ++ born_line report.born report.live

-- its samples and its goroutine profiles
unfoldable pub profiles_lines : Report → List ℕ
profiles_lines report =
    ticks_line (ticks report.journal) (delivered report.cpu_records) (lost report.cpu_records)
    ++ profiles_line (length report.goroutine_records) (length report.refused)

-- The summary of a run, with the sums of its block and of its mutex events.
unfoldable pub summary_text : Report → Totals → List ℕ
summary_text report sums =
    run_lines report
    ++ profiles_lines report
    ++ waits_line (codes "block") sums.block_count sums.block_delay
    ++ waits_line (codes "mutex") sums.mutex_count sums.mutex_delay
