-- How the samples of a journal grow, and those of a small one, worked out by hand.
use Rattle.std.specs.Prelude.{◌≡◌, ℕ, List, [], ◌∷◌, ◌++◌}
use Rattle.gp_isa.specs.Trace.{Local, Labels, point_at}
use Rattle.gp_journal.specs.declared.entry.Entry.{Entry}
use Rattle.gp_journal.specs.declared.entry.Entry.TheVariants.{Start, Run, Tick}
use Rattle.gp_journal.specs.declared.settings.Settings.{Settings}
use Rattle.gp_journal.specs.State.{Code}
use Rattle.gp_journal.specs.Run.{last}
use Rattle.gp_journal.specs.Worked.{plain}
use Rattle.gp_ring.specs.Records.{Offer}
use Rattle.gp_cpu.specs.Samples.{rate_record, sampled_at, samples_of_journal}

-- An empty journal has the rate record,
abbrev pub SamplesBegin : Type 0
SamplesBegin = (code : Code) (settings : Settings) → samples_of_journal code settings [] ≡ rate_record settings ∷ []

-- and with one entry more comes what it samples, behind the others.
abbrev pub SamplesGrow : Type 0
SamplesGrow = (code : Code) (settings : Settings) (journal : List Entry) (entry : Entry) →
    samples_of_journal code settings (journal ++ entry ∷ [])
    ≡ samples_of_journal code settings journal ++ sampled_at code (last code settings journal) entry

-- An example: main sets labels 2 on line 2 and works twice on line 3, and each instruction is followed by a tick.
abbrev pub example_code : Code
example_code = record {
  points = λ f. point_at 0 2 (Labels 2) ∷ point_at 0 3 Local ∷ point_at 0 3 Local ∷ [];
  capacity = λ c. 0;
  channels = 0;
  mutexes = 0;
  main = 0;
}

abbrev pub example_settings : Settings
example_settings = record (plain []) { hz = 1000000 }

abbrev pub example_journal : List Entry
example_journal = Start 0 0 ∷ Run 0 0 1 ∷ Tick 0 0 ∷ Run 0 0 1 ∷ Tick 0 0 ∷ []

abbrev pub sampled_on_line_3 : ℕ → Offer
sampled_on_line_3 time = record { time = time; tag = 2; header = 1 ∷ []; stack = 3 ∷ [] }

abbrev pub SamplesWorkedOut : Type 0
SamplesWorkedOut =
    samples_of_journal example_code example_settings example_journal
    ≡ record { time = 0; tag = 0; header = 1000000 ∷ []; stack = [] } ∷ sampled_on_line_3 1000 ∷ sampled_on_line_3 2000 ∷ []
