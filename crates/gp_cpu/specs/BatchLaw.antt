-- The unread records of a ring are a batch to whoever takes them.
use Rattle.std.specs.Prelude.{◌≡◌, ℕ, List, map, length}
use Rattle.std.specs.List.{flat_map, AllByRecursion}
use Rattle.gp_ring.specs.PlainRing.{Piece, record_of}
use Rattle.gp_ring.specs.Calls.{History, Call, MayCall, after_call}
use Rattle.gp_cpu.specs.Records.{ring_record_of}
use Rattle.gp_cpu.specs.Batch.{BeginsWithRecord, AreRecords, first_size, records_in}

-- A piece is one whole record.
pub record IsWhole (piece : Piece) : Type 0 where
  pub begins : BeginsWithRecord piece.words
  pub ends : first_size piece.words ≡ length piece.words

-- their words one behind the other, and their tags, as an act on a ring shows them
abbrev pub words_of_pieces : List Piece → List ℕ
words_of_pieces pieces = flat_map (λ (piece : Piece). piece.words) pieces

abbrev pub tags_of_pieces : List Piece → List ℕ
tags_of_pieces pieces = map (λ (piece : Piece). piece.tag) pieces

-- They may be added, and what is added are the ring's records.
pub record IsBatch (pieces : List Piece) : Type 0 where
  pub may_add : AreRecords (words_of_pieces pieces) (tags_of_pieces pieces)
  pub adds : map ring_record_of (records_in (words_of_pieces pieces) (tags_of_pieces pieces)) ≡ map (record_of 1) pieces

abbrev pub PiecesAreBatches : Type 0
PiecesAreBatches = (pieces : List Piece) → AllByRecursion IsWhole pieces → IsBatch pieces

-- Every call leaves the unread records whole, where headers have one word.
abbrev pub PiecesStayWhole : Type 0
PiecesStayWhole = (history : History) (call : Call) → history.ring.hdrsize ≡ 1 → MayCall history call →
    AllByRecursion IsWhole history.ring.unread → AllByRecursion IsWhole (after_call history call).ring.unread
