-- Laws of the ring of a run: it is kept with each entry and each read, and closed and read to its end it has given all.
use Rattle.std.specs.Prelude.{◌≡◌, ◌<◌, ◌≤◌, ◌++◌, ◌∷◌, ◌^◌, ℕ, List, [], length}
use Rattle.std.specs.Int.{IsNextPowerOfTwo}
use Rattle.gp_isa.specs.declared.parts.Parts.{Parts}
use Rattle.gp_journal.specs.declared.entry.Entry.{Entry}
use Rattle.gp_journal.specs.declared.goroutine.Goroutine.{Goroutine}
use Rattle.gp_journal.specs.declared.settings.Settings.{Settings}
use Rattle.gp_journal.specs.Settings.{AreInRange}
use Rattle.gp_journal.specs.State.{State, code_of, goroutine}
use Rattle.gp_journal.specs.Run.{last}
use Rattle.gp_journal.specs.Bodies.{standing}
use Rattle.gp_journal.specs.NumberLaws.{most_entries}
use Rattle.gp_ring.specs.Records.{RingRecord, Covers}
use Rattle.gp_ring.specs.PlainRing.{PlainRing, closed, looked, acted, records_taken}
use Rattle.gp_ring.specs.Follows.{IsOfferable}
use Rattle.gp_cpu.specs.Samples.{sample_of, sampled_at, samples_of_journal}
use Rattle.gp_samples.specs.RunRing.{rounded, begun_ring, sample_at, with_offers, taken_to_end, BeginWithHead, KeepsRing}

-- As it begins it is kept for the empty journal,
abbrev pub BegunIsKept : Type 0
BegunIsKept = (program : Parts) (settings : Settings) → AreInRange settings → KeepsRing program settings [] [] (begun_ring program settings)

-- for every ring that is kept
abbrev pub ForEachKept : ((program : Parts) → Settings → List Entry → List RingRecord → PlainRing → Type 0) → Type 0
ForEachKept P =
    (program : Parts) (settings : Settings) (journal : List Entry) (records : List RingRecord) (ring : PlainRing) →
    AreInRange settings → KeepsRing program settings journal records ring → P program settings journal records ring

-- with each entry, where what that samples is offered to it,
abbrev pub EntriesKeep : Type 0
EntriesKeep = ForEachKept (λ program settings journal records ring.
    (entry : Entry) →
    KeepsRing program settings (journal ++ entry ∷ []) records
    (with_offers ring (sampled_at (code_of program) (last (code_of program) settings journal) entry)))

-- and with each read.
abbrev pub ReadsKeep : Type 0
ReadsKeep = ForEachKept (λ program settings journal records ring.
    KeepsRing program settings journal (records ++ records_taken (looked ring)) (acted (looked ring)))

-- The sample of a goroutine may be offered to it while the journal has room for an entry.
abbrev pub SamplesAreOfferable : Type 0
SamplesAreOfferable = ForEachKept (λ program settings journal records ring.
    (g : ℕ) → length journal < most_entries settings →
    let now = last (code_of program) settings journal in IsOfferable ring (sample_of (code_of program) now (goroutine now g)))

-- The sample of a body that stands where its goroutine does is that one's.
abbrev pub BodiesAreSampled : Type 0
BodiesAreSampled = (program : Parts) (state : State) (it : Goroutine) →
    sample_at program state.clock (standing it) ≡ sample_of (code_of program) state it

-- What was taken from a ring that is kept, once it is closed and read to its end: the records cover the samples of the
-- journal, and begin with their head.
pub record AllRead (program : Parts) (settings : Settings) (journal : List Entry) (records : List RingRecord) : Type 0 where
  pub covered : Covers records (samples_of_journal (code_of program) settings journal)
  pub begins : BeginWithHead program settings journal records

abbrev pub EndIsAllRead : Type 0
EndIsAllRead = ForEachKept (λ program settings journal records ring.
    AllRead program settings journal (records ++ taken_to_end 3 (closed ring)))

-- What is rounded up is the next power of two.
abbrev pub RoundedIsNext : Type 0
RoundedIsNext = (n : ℕ) → n ≤ 2 ^ 32 → IsNextPowerOfTwo n (rounded n)
