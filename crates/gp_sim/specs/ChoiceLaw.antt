-- Laws of the choice by numbers.
use Rattle.std.specs.Prelude.{◌≡◌, ℕ, Bool, List, [], All, Some}
use Rattle.gp_isa.specs.declared.parts.Parts.{Parts}
use Rattle.gp_journal.specs.declared.entry.Entry.{Entry}
use Rattle.gp_journal.specs.declared.settings.Settings.{Settings}
use Rattle.gp_journal.specs.Settings.{AreInRange}
use Rattle.gp_journal.specs.State.{Code, State, code_of}
use Rattle.gp_journal.specs.Due.{IsComplete}
use Rattle.gp_journal.specs.May.{May}
use Rattle.gp_journal.specs.Run.{IsLegal, last, IsFinished}
use Rattle.gp_ring.specs.Records.{Covers}
use Rattle.gp_cpu.specs.Samples.{samples_of_journal}
pub use Rattle.gp_samples.specs.RunRing.{BeginWithHead}
use Rattle.gp_sim.specs.Choice.{actions, acts_of, chosen, sim_journal, sim_records}
use Rattle.gp_sim.specs.declared.numbers.Act.{Act}
use Rattle.gp_sim.specs.declared.numbers.Act.TheVariants.{Make, Read}
use Rattle.gp_sim.specs.declared.numbers.Turn.{Turn}

-- After a legal journal, whatever the workers and the profiler, if they can act, would do is legal.
abbrev pub ChoiceIsLegal : Type 0
ChoiceIsLegal = (code : Code) (settings : Settings) (journal : List Entry) → AreInRange settings → IsLegal code settings journal →
    let state = last code settings journal in All (May code settings state) (actions code settings state)

-- an act is a read, or makes an entry that may come
abbrev pub MayAct : Code → Settings → State → Act → Type 0
MayAct code settings state (Make entry) = May code settings state entry
MayAct code settings state Read = Unit {0}

-- So the entry that a turn makes is legal, whether the reader can act or not, however many numbers were taken, and
-- whatever they are.
abbrev pub TurnsAreLegal : Type 0
TurnsAreLegal = (code : Code) (settings : Settings) (journal : List Entry) (reads : Bool) (taken : ℕ) (turn : Turn) →
    AreInRange settings → IsLegal code settings journal →
    let state = last code settings journal in
    chosen settings taken (acts_of (actions code settings state) reads) ≡ Some turn → MayAct code settings state turn.act

-- Where no worker and no profiler can act the run is complete.
abbrev pub EndIsComplete : Type 0
EndIsComplete = (code : Code) (settings : Settings) (journal : List Entry) → AreInRange settings → IsLegal code settings journal →
    let state = last code settings journal in actions code settings state ≡ [] → IsComplete settings state

-- So the journal that the choice gives is finished.
abbrev pub SimIsFinished : Type 0
SimIsFinished = (program : Parts) (settings : Settings) → AreInRange settings →
    IsFinished (code_of program) settings (sim_journal program settings)

-- The records that the reader took cover the samples of that journal,
abbrev pub SimIsCovered : Type 0
SimIsCovered = (program : Parts) (settings : Settings) → AreInRange settings →
    Covers (sim_records program settings) (samples_of_journal (code_of program) settings (sim_journal program settings))

-- and begin with their head.
abbrev pub SimBeginsWithHead : Type 0
SimBeginsWithHead = (program : Parts) (settings : Settings) → AreInRange settings →
    BeginWithHead program settings (sim_journal program settings) (sim_records program settings)
