-- What is left to be taken stands behind what was taken, and each read that takes something leaves fewer to come.
use Rattle.std.proofs.Common.{◌≡◌, ◌≤◌, ◌+◌, ◌-◌, ◌++◌, length, map, true}
use Rattle.gp_ring.specs.PlainRing.{closed}
use Rattle.gp_cpu.specs.Records.{ring_record_of}
use Rattle.gp_samples.specs.RunRing.{IsReadable, taken_to_end}
use Rattle.gp_samples.proofs.ReadOut.{needed}
use Rattle.gp_samples.proofs.reading.read_to_end.Given as goal

abbrev pub invariant-loop-reads : goal.invariant-loop-reads
invariant-loop-reads l = record {
  readable : IsReadable l.ring;
  ended : l.ring.ended ≡ true;
  enough : needed l.ring + l.reads ≤ 4;
  taken : map ring_record_of l.cpu ++ taken_to_end (4 - l.reads) l.ring ≡ map ring_record_of l.fn.cpu ++ taken_to_end 3 (closed l.fn.ring);
  least : 1 ≤ l.reads;
  each : length l.fn.cpu + l.reads ≤ length l.cpu + 1;
}

abbrev pub decreases-loop-reads : goal.decreases-loop-reads
decreases-loop-reads l = needed l.ring
