-- The ring as it is kept: what the fields stand for, and what holds of them.
use Rattle.std.specs.Prelude.{◌≡◌, ℕ, ◌+◌, ◌-◌, ◌≤◌, ◌<◌, ◌^◌, Bool, if◌then◌else◌, Option, None, Some, IfSome}
use Rattle.std.specs.Prelude.{List, length, take, drop, replicate}
use Rattle.gp_layout.specs.Words.{words_of, tags_of, counts_word, count_of, change_of}
use Rattle.gp_layout.specs.Spelling.{loss_size}
use Rattle.gp_ring.specs.PlainRing as plain
use Rattle.gp_ring.specs.PlainRing.{Piece, Seen, Found, PlainRing}
use Rattle.gp_ring.specs.kept.Slots.{records_at, tags_at, pieces_of, Lie}
use Rattle.gp_ring.specs.declared.hand.Look.{Look}
use Rattle.gp_ring.specs.declared.hand.Part.{Part}
use Rattle.gp_ring.specs.declared.hand.Hand.{Hand}
use Rattle.gp_ring.specs.declared.hand.Hand.TheVariants.{Batch, Lost, Raced, Nothing, End}

abbrev pub seen_of : Option Look → Option Seen
seen_of None = None
seen_of (Some look) =
    Some (record {
      ended = look.ended;
      pending = count_of look.overflow;
      change = change_of look.overflow;
      words = words_of look.w;
      tags = tags_of look.w;
    })

-- the words of a part of the ring, or of the copy
abbrev pub words_in : Part → List ℕ → List ℕ → List ℕ
words_in part ring copy = take (part.to - part.from) (drop part.from (if part.copied then copy else ring))

abbrev pub found_of : List ℕ → List ℕ → List ℕ → List ℕ → Hand → Found
found_of slots batch tags batch_tags (Batch words tag_words) = plain.Batch (words_in words slots batch) (words_in tag_words tags batch_tags)
found_of slots batch tags batch_tags (Lost count time) = plain.Taken count time
found_of slots batch tags batch_tags (Raced was found) = plain.Raced was found
found_of slots batch tags batch_tags Nothing = plain.Nothing
found_of slots batch tags batch_tags End = plain.End

-- the unread records
abbrev pub unread_in : List ℕ → List ℕ → ℕ → ℕ → List Piece
unread_in slots tags r w =
    pieces_of (records_at slots (length slots) (tags_of w - tags_of r) (words_of r))
    (tags_at tags (length tags) (tags_of w - tags_of r) (tags_of r))

abbrev pub ring_of : (hdrsize : ℕ) (slots tags : List ℕ) (r w overflow since : ℕ) (ended : Bool) (seen : Option Look) (found : Found)
    → PlainRing
ring_of hdrsize slots tags r w overflow since ended seen found =
    record {
      hdrsize = hdrsize;
      len = length slots;
      tags = length tags;
      unread = unread_in slots tags r w;
      pending = count_of overflow;
      since = since;
      change = change_of overflow;
      read_words = words_of r;
      read_tags = tags_of r;
      written_words = words_of w;
      written_tags = tags_of w;
      ended = ended;
      seen = seen_of seen;
      hand = found;
    }

abbrev pub IsWithin : Part → List ℕ → List ℕ → Type 0
IsWithin part ring copy = part.to ≤ length (if part.copied then copy else ring)

abbrev pub IsInHand : List ℕ → List ℕ → List ℕ → List ℕ → Hand → Type 0
IsInHand slots batch tags batch_tags (Batch words tag_words) =
    (words.from ≤ words.to) × IsWithin words slots batch × (tag_words.from ≤ tag_words.to) × IsWithin tag_words tags batch_tags
IsInHand slots batch tags batch_tags (Lost count time) = Unit {0}
IsInHand slots batch tags batch_tags (Raced was found) = Unit {0}
IsInHand slots batch tags batch_tags Nothing = Unit {0}
IsInHand slots batch tags batch_tags End = Unit {0}

-- between `r` and `w` lie whole records
pub record IsSpelled (hdrsize : ℕ) (slots tags : List ℕ) (r w : ℕ) : Type 0 where
  pub word : w ≡ counts_word (words_of w) (tags_of w)
  pub tags_before : tags_of r ≤ tags_of w
  pub tags_within : tags_of w ≤ tags_of r + length tags
  pub words_within : words_of w ≤ words_of r + length slots
  pub lie : Lie slots (length slots) hdrsize (tags_of w - tags_of r) (words_of r) (words_of w)

pub record IsSized (hdrsize : ℕ) (slots tags batch batch_tags zeros : List ℕ) : Type 0 where
  pub header_least : 1 ≤ hdrsize
  pub header_most : hdrsize ≤ 64
  pub words_least : loss_size hdrsize ≤ length slots
  pub words_most : length slots ≤ 2 ^ 29
  pub tags_least : 1 ≤ length tags
  pub tags_most : length tags ≤ 2 ^ 29
  pub header_zeros : zeros ≡ replicate hdrsize 0
  pub batch_size : length batch ≡ length slots
  pub batch_tags_size : length batch_tags ≡ length tags

pub record IsKept (hdrsize : ℕ) (slots tags batch batch_tags zeros : List ℕ) (r w overflow : ℕ) (seen : Option Look) (hand : Hand)
    : Type 0 where
  pub sized : IsSized hdrsize slots tags batch batch_tags zeros
  pub r_word : r ≡ counts_word (words_of r) (tags_of r)
  pub spelled : IsSpelled hdrsize slots tags r w
  -- what was seen is a front of that
  pub seen_front : IfSome seen (λ look.
      IsSpelled hdrsize slots tags r look.w × (tags_of look.w ≤ tags_of w) × (words_of look.w ≤ words_of w))
  -- the change number may rise as a pending loss is taken
  pub change_fits : 0 < count_of overflow → change_of overflow + 1 < 2 ^ 32
  pub in_hand : IsInHand slots batch tags batch_tags hand
