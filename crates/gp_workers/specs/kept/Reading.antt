-- What the reader keeps beside its end of the ring, and what a read comes to.
use Rattle.std.specs.Prelude.{◌≡◌, Bool, false, List, map}
use Rattle.gp_cpu.specs.Records.{ring_record_of}
use Rattle.gp_cpu.specs.declared.record.CpuRecord.{CpuRecord}
use Rattle.gp_ring.specs.TwoEnds.{ReaderEnd}
use Rattle.gp_samples.specs.declared.took.Took.{Took}
use Rattle.gp_samples.specs.declared.took.Took.TheVariants as took
use Rattle.gp_workers.specs.declared.turn.Turn.{Turn}
use Rattle.gp_workers.specs.declared.turn.Turn.TheVariants as turn

-- Headers have one word; and the records are exactly those that it took, unless a turn of it met want of memory.
pub record Collects (reader : ReaderEnd) (records : List CpuRecord) (failed : Bool) : Type 0 where
  pub header : reader.ring.hdrsize ≡ 1
  pub its_records : failed ≡ false → map ring_record_of records ≡ reader.taken

-- what a turn comes to, by what its read took
abbrev pub turn_of : Took → Turn
turn_of took.Records = turn.Went
turn_of took.Nothing = turn.Idle
turn_of took.End = turn.Done
