-- What the records of goroutine profiles name is there.
use Rattle.std.specs.Prelude.{◌≤◌, ◌<◌, List, length, All}
use Rattle.gp_isa.specs.declared.frame.Frame.{Frame}
use Rattle.gp_isa.specs.declared.parts.Parts.{Parts}
use Rattle.gp_isa.specs.InLimits.{AreInLimits}
use Rattle.gp_stack.specs.declared.record.Record.{Record as Row}
use Rattle.gp_journal.specs.declared.entry.Entry.{Entry}
use Rattle.gp_journal.specs.declared.settings.Settings.{Settings}
use Rattle.gp_journal.specs.State.{code_of}
use Rattle.gp_journal.specs.Run.{IsLegal}
use Rattle.gp_journal.specs.Profiles.{records_of}

-- A record is one of a program: the functions of its frames are there, and so is its label set, of which 0 is the
-- empty one.
abbrev pub IsRecordOf : Parts → Row → Type 0
IsRecordOf parts row = All (λ (frame : Frame). frame.function < length parts.functions) row.stack × (row.set ≤ length parts.labels)

-- The records of a legal journal are records of its program, where that lies in the limits.
abbrev pub RecordsAreThere : Type 0
RecordsAreThere = (parts : Parts) (settings : Settings) (journal : List Entry) →
    AreInLimits parts → IsLegal (code_of parts) settings journal →
    All (All (IsRecordOf parts)) (records_of (code_of parts) settings journal)
