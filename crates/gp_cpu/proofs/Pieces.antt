-- The words of whole records, one behind the other.
use Rattle.std.proofs.Common.{◌≡◌, ℕ, Bool, true, false, ◌&&◌, List, [], ◌∷◌, ◌++◌, length, map, refl, sym, ap, ◌∙◌, subst, length-append, nat_eq, get_or, if◌then◌else◌, arith}
use Rattle.std.proofs.lemmas.List.{take_at, drop_at}
use Rattle.gp_stack.specs.Word.{word_of}
use Rattle.gp_ring.specs.Records.{Sample, Loss}
use Rattle.gp_ring.specs.PlainRing.{record_in}
use Rattle.gp_cpu.specs.Records.{frame_of, cpu_record_of, ring_record_of}
use Rattle.gp_cpu.specs.Batch.{BeginsWithRecord, AreRecords, first_size, first_words, words_behind, ring_records_in}
use Rattle.gp_cpu.specs.BatchLaw.{words_of_pieces, tags_of_pieces, PiecesAreBatches}

-- Words in front of others: a record, and what is behind it.
record StandsFirst (words more : List ℕ) : Type 0 where
  begins : BeginsWithRecord (words ++ more)
  itself : first_words (words ++ more) ≡ words
  behind : words_behind (words ++ more) ≡ more

stands_first : (words more : List ℕ) → BeginsWithRecord words → first_size words ≡ length words → StandsFirst words more
stands_first [] more begins ends = let least = begins.whole.begins in absurd (omega arith)
stands_first (a ∷ []) more begins ends = let least = begins.whole.begins in absurd (omega arith)
stands_first (a ∷ b ∷ []) more begins ends = let least = begins.whole.begins in absurd (omega arith)
stands_first (a ∷ b ∷ c ∷ rest) more begins ends = record {
  begins = record {
    whole = record { begins = begins.whole.begins; ends = omega (arith, ends, length-append rest more) };
    loss = begins.loss;
  };
  itself = take_at (a ∷ b ∷ c ∷ rest) more a (sym ends);
  behind = drop_at (a ∷ b ∷ c ∷ rest) more a (sym ends);
}

-- a word is that of its frame
same_word : (word : ℕ) → word_of (frame_of word) ≡ word
same_word word = omega arith

same_words : (words : List ℕ) → map word_of (map frame_of words) ≡ words
same_words [] = refl
same_words (word ∷ words) = λ i. same_word word i ∷ same_words words i

-- A record of the ring is that of its record.
same_record : (tag : ℕ) (words : List ℕ) → BeginsWithRecord words → first_size words ≡ length words
    → ring_record_of (cpu_record_of (record_in 1 tag words)) ≡ record_in 1 tag words
same_record tag [] begins ends = let least = begins.whole.begins in absurd (omega arith)
same_record tag (a ∷ []) begins ends = let least = begins.whole.begins in absurd (omega arith)
same_record tag (a ∷ b ∷ []) begins ends = let least = begins.whole.begins in absurd (omega arith)
same_record tag (a ∷ b ∷ c ∷ rest) begins ends = by (nat_eq c 0 && true)
  where
    by : (zero : Bool) → ring_record_of (cpu_record_of (if zero then Loss (get_or rest 0 0) b else Sample (record { time = b; tag = tag; header = c ∷ []; stack = rest })))
        ≡ (if zero then Loss (get_or rest 0 0) b else Sample (record { time = b; tag = tag; header = c ∷ []; stack = rest }))
    by true = refl
    by false = λ i. Sample (record { time = b; tag = tag; header = c ∷ []; stack = same_words rest i })

pub pieces_are_batches : PiecesAreBatches
pieces_are_batches [] whole = record { may_add = refl; adds = refl }
pieces_are_batches (piece ∷ pieces) whole =
    let later = pieces_are_batches pieces whole.1 in
    let first = stands_first piece.words (words_of_pieces pieces) whole.0.begins whole.0.ends in
    record {
      may_add = (first.begins, subst (λ (ws : List ℕ). AreRecords ws (tags_of_pieces pieces)) (sym first.behind) later.may_add);
      adds = λ i.
          (ap (λ (ws : List ℕ). ring_record_of (cpu_record_of (record_in 1 piece.tag ws))) first.itself
          ∙ same_record piece.tag piece.words whole.0.begins whole.0.ends) i
          ∷ (ap (λ (ws : List ℕ). map ring_record_of (map cpu_record_of (ring_records_in ws (tags_of_pieces pieces)))) first.behind ∙ later.adds) i;
    }
