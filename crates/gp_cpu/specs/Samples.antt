-- The samples of a journal: what a run offers to the ring.
use Rattle.std.specs.Prelude.{◌*◌, List, [], ◌∷◌, ◌++◌, map}
use Rattle.gp_isa.specs.Limits.{cpu_frames}
use Rattle.gp_stack.specs.Word.{word_of}
use Rattle.gp_stack.specs.Goroutine.{labels_of}
use Rattle.gp_journal.specs.declared.entry.Entry.{Entry}
use Rattle.gp_journal.specs.declared.entry.Entry.TheVariants.{Tick}
use Rattle.gp_journal.specs.declared.goroutine.Goroutine.{Goroutine}
use Rattle.gp_journal.specs.declared.settings.Settings.{Settings}
use Rattle.gp_journal.specs.State.{Code, State, goroutine, trace_of, first}
use Rattle.gp_journal.specs.Effect.{after}
use Rattle.gp_journal.specs.Answer.{instruction_time}
use Rattle.gp_journal.specs.Waits.{cut_stack}
use Rattle.gp_ring.specs.Records.{Offer}

-- The rate record: at time 0, the ticks of a second as header, and no stack.
abbrev pub rate_record : Settings → Offer
rate_record settings = record { time = 0; tag = 0; header = settings.hz ∷ []; stack = [] }

-- The sample of a goroutine: the time, header 1, its stack, cut, and the number of its label set as tag.
abbrev pub sample_of : Code → State → Goroutine → Offer
sample_of code state it = record {
  time = instruction_time * state.clock;
  tag = labels_of (trace_of code it) it.set it.count;
  header = 1 ∷ [];
  stack = map word_of (cut_stack cpu_frames code it);
}

-- A Tick samples its goroutine in the state before it; no other entry samples.
abbrev pub sampled_at : Code → State → Entry → List Offer
sampled_at code state (Tick w g) = sample_of code state (goroutine state g) ∷ []
sampled_at code state _ = []

-- the samples of entries, from a state on
abbrev pub samples_from : Code → Settings → State → List Entry → List Offer
samples_from code settings state [] = []
samples_from code settings state (entry ∷ entries) =
    sampled_at code state entry ++ samples_from code settings (after code settings state entry) entries

-- The samples of a journal: the rate record, and then one for each Tick, in their order.
unfoldable pub samples_of_journal : Code → Settings → List Entry → List Offer
samples_of_journal code settings journal = rate_record settings ∷ samples_from code settings (first code settings) journal
