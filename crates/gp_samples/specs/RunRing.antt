-- The ring of a run's samples: its size, what is offered to it, what reads take from it, and what it keeps of the run.
use Rattle.std.specs.Prelude.{◌≡◌, ◌+◌, ◌*◌, ℕ, zero, suc, Bool, true, false, List, [], ◌∷◌, ◌++◌, length, map, max, min, take, if◌then◌else◌, nat_le}
use Rattle.std.specs.List.{AllByRecursion}
use Rattle.gp_isa.specs.declared.parts.Parts.{Parts}
use Rattle.gp_isa.specs.Limits.{cpu_frames}
use Rattle.gp_isa.specs.Size.{depth_of}
use Rattle.gp_stack.specs.Body.{Progress, stack_at, labels_at}
use Rattle.gp_stack.specs.Word.{word_of}
use Rattle.gp_journal.specs.declared.entry.Entry.{Entry}
use Rattle.gp_journal.specs.declared.settings.Settings.{Settings}
use Rattle.gp_journal.specs.State.{code_of}
use Rattle.gp_journal.specs.Answer.{instruction_time}
use Rattle.gp_layout.specs.Spelling.{size_of}
use Rattle.gp_ring.specs.Records.{Offer, RingRecord, head}
use Rattle.gp_ring.specs.PlainRing.{PlainRing, Found, End, empty_ring, written, looked, acted, records_taken}
use Rattle.gp_ring.specs.Follows.{Follows, samples}
use Rattle.gp_cpu.specs.Samples.{rate_record, samples_of_journal}
use Rattle.gp_cpu.specs.BatchLaw.{IsWhole}

-- ---- its size

-- the least power of two that is n or more: of a power of two and so many doublings of it
abbrev pub rounded_from : ℕ → ℕ → ℕ → ℕ
rounded_from zero power n = power
rounded_from (suc doublings) power n = if nat_le n power then power else rounded_from doublings (2 * power) n

-- of all up to 2^32
abbrev pub rounded : ℕ → ℕ
rounded n = rounded_from 32 1 n

-- The words that a run's ring is to have: those of the option, and no fewer than twice those of its longest sample.
abbrev pub ring_words : Parts → Settings → ℕ
ring_words program settings = max settings.ring (2 * size_of 1 (min cpu_frames (depth_of program)))

-- Its words and its tags are powers of two.
abbrev pub ring_len : Parts → Settings → ℕ
ring_len program settings = rounded (ring_words program settings)

abbrev pub ring_tags : Settings → ℕ
ring_tags settings = rounded settings.tags

-- ---- what is offered to it

-- As a run begins the rate record is offered to its empty ring.
unfoldable pub begun_ring : Parts → Settings → PlainRing
begun_ring program settings = written (empty_ring 1 (ring_len program settings) (ring_tags settings)) (rate_record settings)

-- The sample of a body that stands at a place in a program, at a clock: the time, header 1, its stack, cut, and the number
-- of its label set as tag. Of a body that stands where its goroutine does it is that one's sample.
abbrev pub sample_at : Parts → ℕ → Progress → Offer
sample_at program clock place = record {
  time = instruction_time * clock;
  tag = labels_at program place;
  header = 1 ∷ [];
  stack = map word_of (take cpu_frames (stack_at program place));
}

-- offers that are made to a ring one after another
abbrev pub with_offers : PlainRing → List Offer → PlainRing
with_offers ring [] = ring
with_offers ring (offer ∷ offers) = with_offers (written ring offer) offers

-- ---- what reads take from it

abbrev pub is_end : Found → Bool
is_end End = true
is_end _ = false

-- What reads take until one finds the end, so many reads at most.
unfoldable pub taken_to_end : ℕ → PlainRing → List RingRecord
taken_to_end zero ring = []
taken_to_end (suc reads) ring =
    let next = acted (looked ring) in records_taken (looked ring) ++ (if is_end next.hand then [] else taken_to_end reads next)

-- Records begin with the head of the samples of a journal, each delivered.
abbrev pub BeginWithHead : Parts → Settings → List Entry → List RingRecord → Type 0
BeginWithHead program settings journal records =
    (rest : List RingRecord)
    × (samples (head 1 (ring_len program settings) (ring_tags settings) (samples_of_journal (code_of program) settings journal)) ++ rest
    ≡ records)

-- ---- what it keeps

-- A ring whose records have one header word: what is unread are whole records, which the tags count.
pub record IsReadable (ring : PlainRing) : Type 0 where
  pub header : ring.hdrsize ≡ 1
  pub counted : ring.read_tags + length ring.unread ≡ ring.written_tags
  pub whole : AllByRecursion IsWhole ring.unread

-- The ring of a run is open, of the run's size, and follows the samples of the journal and the records taken; what is unread
-- are whole records.
pub record KeepsRing (program : Parts) (settings : Settings) (journal : List Entry) (records : List RingRecord) (ring : PlainRing)
    : Type 0 where
  pub header : ring.hdrsize ≡ 1
  pub words : ring.len ≡ ring_len program settings
  pub tags : ring.tags ≡ ring_tags settings
  pub is_open : ring.ended ≡ false
  pub follows : Follows (samples_of_journal (code_of program) settings journal) records ring
  pub whole : AllByRecursion IsWhole ring.unread
