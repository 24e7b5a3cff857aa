-- How many workers a state has, and that one of them is idle.
use Rattle.std.proofs.Common.{◌≡◌, Bool, true, false, not, List, length, refl, sym, ap}
use Rattle.gp_isa.specs.declared.parts.Parts.{Parts}
use Rattle.gp_journal.specs.declared.entry.Entry.{Entry}
use Rattle.gp_journal.specs.declared.settings.Settings.{Settings}
use Rattle.gp_journal.specs.Run.{IsLegal, state_of}
use Rattle.gp_journal.specs.Settings.{AreInRange}
use Rattle.gp_journal.specs.State.{code_of}
use Rattle.gp_journal.proofs.Lemmas.{is_kept}

pub workers_there : (program : Parts) (settings : Settings) (journal : List Entry) → AreInRange settings → IsLegal (code_of program) settings journal →
    length (state_of program settings journal).workers ≡ settings.workers
workers_there program settings journal range legal =
    (is_kept (code_of program) settings (state_of program settings journal) (record { journal = journal; legal = legal; its_last = refl }) range).numbered.number

-- what tells that there is something tells whether there is nothing
pub none_told : (none some : Bool) → some ≡ not none → none ≡ not some
none_told true some e = sym (ap not e)
none_told false some e = sym (ap not e)
