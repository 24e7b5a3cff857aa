-- The two ends of the ring of a run that two threads share: what is offered at the one, and what is taken at the other.
use Rattle.std.specs.Prelude.{◌≡◌, List, [], ◌++◌, map}
use Rattle.gp_isa.specs.declared.parts.Parts.{Parts}
use Rattle.gp_journal.specs.declared.entry.Entry.{Entry}
use Rattle.gp_journal.specs.declared.settings.Settings.{Settings}
use Rattle.gp_journal.specs.State.{code_of}
use Rattle.gp_ring.specs.Records.{Offer, RingRecord}
use Rattle.gp_ring.specs.PlainRing.{Found, Batch, Taken, Raced, Nothing, End}
use Rattle.gp_ring.specs.TwoEnds.{RingOf, ReaderEnd}
use Rattle.gp_cpu.specs.Records.{ring_record_of}
use Rattle.gp_cpu.specs.Samples.{samples_of_journal}
use Rattle.gp_cpu.specs.declared.record.CpuRecord.{CpuRecord}
use Rattle.gp_samples.specs.RunRing.{ring_len, ring_tags}
use Rattle.gp_samples.specs.declared.took.Took.{Took}
use Rattle.gp_samples.specs.declared.took.Took.TheVariants as took

-- a ring of the size of a run's
pub record IsSized (program : Parts) (settings : Settings) (ring : RingOf) : Type 0 where
  pub header : ring.hdrsize ≡ 1
  pub words : ring.len ≡ ring_len program settings
  pub tags : ring.tags ≡ ring_tags settings

-- The offers that were made to a ring of that size are the samples of a journal.
pub record AreOffers (program : Parts) (settings : Settings) (journal : List Entry) (ring : RingOf) (offers : List Offer)
    : Type 0 where
  pub sized : IsSized program settings ring
  pub samples : offers ≡ samples_of_journal (code_of program) settings journal

-- The reader of such a ring as the run begins: it has taken nothing, and found nothing.
pub record IsBegunReader (program : Parts) (settings : Settings) (reader : ReaderEnd) : Type 0 where
  pub sized : IsSized program settings reader.ring
  pub none : reader.taken ≡ []
  pub nothing : reader.hand ≡ Nothing

-- what a read took, by what it found
abbrev pub took_of : Found → Took
took_of (Batch words tags) = took.Records
took_of (Taken count time) = took.Records
took_of (Raced was found) = took.Nothing
took_of Nothing = took.Nothing
took_of End = took.End

-- What a reader takes goes behind some records.
pub record AddsTaken (old new : ReaderEnd) (before after : List CpuRecord) : Type 0 where
  pub more : List RingRecord
  pub taken : new.taken ≡ old.taken ++ more
  pub collected : map ring_record_of after ≡ map ring_record_of before ++ more
