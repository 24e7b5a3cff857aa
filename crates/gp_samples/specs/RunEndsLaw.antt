-- Laws of the two ends of the ring of a run: what an entry samples may be offered, and once the reader has taken in the writer, all was
-- read.
use Rattle.std.specs.Prelude.{◌<◌, ◌++◌, ◌∷◌, ℕ, List, [], length}
use Rattle.gp_isa.specs.declared.parts.Parts.{Parts}
use Rattle.gp_journal.specs.declared.entry.Entry.{Entry}
use Rattle.gp_journal.specs.declared.settings.Settings.{Settings}
use Rattle.gp_journal.specs.Settings.{AreInRange}
use Rattle.gp_journal.specs.State.{code_of, goroutine}
use Rattle.gp_journal.specs.Run.{last}
use Rattle.gp_journal.specs.NumberLaws.{most_entries}
use Rattle.gp_ring.specs.Records.{Offer}
use Rattle.gp_ring.specs.TwoEnds.{RingOf, WriterEnd, ClosedEnd, ReaderEnd, MayWrite, Settles}
use Rattle.gp_cpu.specs.Samples.{sample_of, sampled_at}
use Rattle.gp_samples.specs.RunEnds.{AreOffers}
use Rattle.gp_samples.specs.RunRingLaw.{AllRead}

-- The offers grow with each entry by what that samples.
abbrev pub OffersGrow : Type 0
OffersGrow =
    (program : Parts) (settings : Settings) (journal : List Entry) (ring : RingOf) (offers : List Offer) (entry : Entry) →
    AreOffers program settings journal ring offers →
    AreOffers program settings (journal ++ entry ∷ []) ring
    (offers ++ sampled_at (code_of program) (last (code_of program) settings journal) entry)

-- The sample of a goroutine may be offered while the journal has room for an entry.
abbrev pub SamplesMayBeWritten : Type 0
SamplesMayBeWritten =
    (program : Parts) (settings : Settings) (journal : List Entry) (writer : WriterEnd) → AreInRange settings →
    AreOffers program settings journal writer.ring writer.offers → (g : ℕ) → length journal < most_entries settings →
    let now = last (code_of program) settings journal in MayWrite writer (sample_of (code_of program) now (goroutine now g))

-- Once the reader has taken in the writer, which was closed, its records cover the samples of the journal and begin with their head.
abbrev pub SettledIsAllRead : Type 0
SettledIsAllRead =
    (program : Parts) (settings : Settings) (journal : List Entry) (old new : ReaderEnd) (closed : ClosedEnd) →
    AreOffers program settings journal closed.ring closed.offers → Settles old new closed → AllRead program settings journal new.taken
