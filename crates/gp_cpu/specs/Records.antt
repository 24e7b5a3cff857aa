-- Records of the CPU profile, and the records of the ring that they are.
use Rattle.std.specs.Prelude.{ℕ, ◌/◌, ◌%◌, [], ◌∷◌, map, slice_index}
use Rattle.gp_isa.specs.declared.frame.Frame.{Frame}
use Rattle.gp_stack.specs.Word.{word_of}
use Rattle.gp_ring.specs.Records.{RingRecord, Sample, Loss}
use Rattle.gp_cpu.specs.declared.record.CpuRecord.{CpuRecord}
use Rattle.gp_cpu.specs.declared.record.CpuRecord.TheVariants.{Sample as Delivered, Lost}

-- the frame that a word of a stack spells: the function above the lower 32 bits, the line in them
abbrev pub frame_of : ℕ → Frame
frame_of word = record { function = word / 4294967296; line = word % 4294967296 }

-- What a record of the ring says, where headers have one word.
abbrev pub cpu_record_of : RingRecord → CpuRecord
cpu_record_of (Sample offer) = Delivered offer.time offer.tag (slice_index offer.header 0) (map frame_of offer.stack)
cpu_record_of (Loss count time) = Lost count time

-- The record of the ring that a record is.
abbrev pub ring_record_of : CpuRecord → RingRecord
ring_record_of (Delivered time tag header stack) =
    Sample (record { time = time; tag = tag; header = header ∷ []; stack = map word_of stack })
ring_record_of (Lost count time) = Loss count time
