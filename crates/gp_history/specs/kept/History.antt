-- What a history keeps.
use Rattle.std.specs.Prelude.{◌≡◌, ◌+◌, ◌<◌, ◌≤◌, List, length, nat_lt}
use Rattle.gp_isa.specs.declared.parts.Parts.{Parts}
use Rattle.gp_journal.specs.declared.entry.Entry.{Entry}
use Rattle.gp_journal.specs.declared.settings.Settings.{Settings}
use Rattle.gp_journal.specs.Settings.{AreInRange}
use Rattle.gp_journal.specs.State.{code_of, unrecorded}
use Rattle.gp_journal.specs.Run.{IsLegal, state_of}
use Rattle.gp_journal.specs.Profiles.{records_of, last_rows}
use Rattle.gp_history.specs.Recorder.{Recording}
use Rattle.gp_history.specs.History.{most_rows}
use Rattle.gp_history.specs.kept.Waits.{KeptWaits, AreWaits}

-- The profiles recorded are those of the journal, the last of them is open while a profile is active, and there is room
-- for the profiles that may still be opened and, in the open one, for all goroutines that have still to be recorded.
pub record IsHistory (program : Parts) (settings : Settings) (journal : List Entry) (recording : Recording) : Type 0 where
  pub in_range : AreInRange settings
  pub legal : IsLegal (code_of program) settings journal
  pub its_profiles : recording.profiles ≡ records_of (code_of program) settings journal
  pub open_while : recording.is_open ≡ nat_lt 0 (state_of program settings journal).active
  pub places : (state_of program settings journal).last_epoch + recording.left ≡ length settings.at
  pub room_each : recording.each ≡ most_rows settings
  pub room_left : 0 < (state_of program settings journal).active →
      length (last_rows recording.profiles) + unrecorded (state_of program settings journal) ≤ most_rows settings

-- The records are those of the journal, and the sums those of its events.
pub record KeepsRun (program : Parts) (settings : Settings) (journal : List Entry)
    (recording : Recording) (waits : KeptWaits) : Type 0 where
  pub recorded : IsHistory program settings journal recording
  pub waited : AreWaits program settings journal waits
