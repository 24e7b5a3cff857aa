-- What the words and tags of a batch spell: records one behind the other, each with a header of one word, and a tag for each.
use Rattle.std.specs.Prelude.{◌≡◌, ℕ, List, [], ◌∷◌, map, take, drop, slice_index}
use Rattle.gp_layout.specs.Spelling.{StandsAt, loss_size}
use Rattle.gp_ring.specs.Records.{RingRecord}
use Rattle.gp_ring.specs.PlainRing.{record_in}
use Rattle.gp_cpu.specs.Records.{cpu_record_of}
use Rattle.gp_cpu.specs.declared.record.CpuRecord.{CpuRecord}

-- how many words the first record has, the words of that record, and those behind it
abbrev pub first_size : List ℕ → ℕ
first_size words = slice_index words 0

abbrev pub first_words : List ℕ → List ℕ
first_words words = take (first_size words) words

abbrev pub words_behind : List ℕ → List ℕ
words_behind words = drop (first_size words) words

-- A whole record stands first. One whose header is 0 tells of a loss, and its stack is one word.
pub record BeginsWithRecord (words : List ℕ) : Type 0 where
  pub whole : StandsAt words 0 1
  pub loss : slice_index words 2 ≡ 0 → first_size words ≡ loss_size 1

-- Whole records and nothing else, as many as there are tags.
abbrev pub AreRecords : List ℕ → List ℕ → Type 0
AreRecords words [] = words ≡ []
AreRecords words (tag ∷ tags) = BeginsWithRecord words × AreRecords (words_behind words) tags

-- those records
abbrev pub ring_records_in : List ℕ → List ℕ → List RingRecord
ring_records_in words [] = []
ring_records_in words (tag ∷ tags) = record_in 1 tag (first_words words) ∷ ring_records_in (words_behind words) tags

-- The records that a batch spells.
abbrev pub records_in : List ℕ → List ℕ → List CpuRecord
records_in words tags = map cpu_record_of (ring_records_in words tags)
