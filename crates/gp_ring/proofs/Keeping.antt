-- The fields after an emission.
use Rattle.std.proofs.Common.{◌≡◌, ℕ, ◌+◌, ◌%◌, ◌<◌, ◌≤◌, Bool, List, [], ◌∷◌, ◌++◌, length, take, drop, Option, Some, None, ap, sym, subst, ◌∙◌, arith, length-append, length-set}
use Rattle.std.specs.Prelude.{slice_set, IfSome}
use Rattle.std.proofs.Math.Seq.{take-append_seam}
use Rattle.gp_layout.specs.Words.{words_of, tags_of, count_of, change_of}
use Rattle.gp_layout.specs.Place.{raise_of}
use Rattle.gp_layout.specs.Spelling.{size_of, loss_size, spelled}
use Rattle.gp_ring.specs.PlainRing.{Piece, PlainRing, Seen, Found, Nothing, emitted, with_nothing}
use Rattle.gp_ring.specs.declared.hand.Look.{Look}
use Rattle.gp_ring.specs.declared.hand.Hand.{Hand}
use Rattle.gp_ring.specs.declared.hand.Hand.TheVariants as hand
use Rattle.gp_ring.specs.kept.Slots.{put_at, IsRaised}
use Rattle.gp_ring.specs.kept.Fields.{ring_of, unread_in, seen_of, IsKept, IsSized, IsSpelled}
use Rattle.gp_ring.proofs.Emitted.{length-slots, seen-spelled, next-spelled, unread-next}

-- a `Vec` written through a slice
pub whole : (n : ℕ) (xs ys zs : List ℕ) → length xs ≡ n → length ys ≡ length xs → ys ≡ zs → take n (ys ++ drop (length ys) xs) ≡ zs
whole n xs ys zs a b e = ap (λ (k : ℕ). take k (ys ++ drop (length ys) xs)) (sym (b ∙ a)) ∙ take-append_seam ys (drop (length ys) xs) ∙ e

-- what an emission asks of the ring
pub record CanEmit (ring : PlainRing) (header stack : List ℕ) : Type 0 where
  pub header_size : length header ≡ ring.hdrsize
  pub free : ring.written_tags < ring.read_tags + ring.tags
  pub room : ring.written_words + raise_of (ring.written_words % ring.len) ring.len (size_of (length header) (length stack)) ≤ ring.read_words + ring.len

pub flush-can : (ring : PlainRing) (header : List ℕ) (count : ℕ) → length header ≡ ring.hdrsize → ring.written_tags < ring.read_tags + ring.tags
    → ring.written_words + raise_of (ring.written_words % ring.len) ring.len (loss_size ring.hdrsize) ≤ ring.read_words + ring.len → CanEmit ring header (count ∷ [])
flush-can ring header count e a b =
    let s : loss_size ring.hdrsize ≡ size_of (length header) 1 = omega arith in
    record {
      header_size = e;
      free = a;
      room = subst (λ (n : ℕ). ring.written_words + raise_of (ring.written_words % ring.len) ring.len n ≤ ring.read_words + ring.len) s b;
    }

sized-on : (h : ℕ) (slots tags slots2 tags2 batch batch_tags zeros : List ℕ) → IsSized h slots tags batch batch_tags zeros → length slots2 ≡ length slots → length tags2 ≡ length tags → IsSized h slots2 tags2 batch batch_tags zeros
sized-on h slots tags slots2 tags2 batch batch_tags zeros k a b =
    let p = k.words_least in let q = k.words_most in let r = k.tags_least in let s = k.tags_most in
    record {
      header_least = k.header_least;
      header_most = k.header_most;
      words_least = omega arith;
      words_most = omega arith;
      tags_least = omega arith;
      tags_most = omega arith;
      header_zeros = k.header_zeros;
      batch_size = k.batch_size ∙ sym a;
      batch_tags_size = k.batch_tags_size ∙ sym b;
    }

pub kept-taken : (h : ℕ) (slots tags batch batch_tags zeros : List ℕ) (r w overflow o2 : ℕ) (seen : Option Look) (old : Hand) → IsKept h slots tags batch batch_tags zeros r w overflow seen old → count_of o2 ≡ 0
    → IsKept h slots tags batch batch_tags zeros r w o2 seen old
kept-taken h slots tags batch batch_tags zeros r w overflow o2 seen old k z =
    record { sized = k.sized; r_word = k.r_word; spelled = k.spelled; seen_front = k.seen_front; change_fits = λ p. absurd (omega arith); in_hand = k.in_hand }

made : (hdrsize : ℕ) (r overflow since : ℕ) (ended : Bool) (seen : Option Seen) (len tags : ℕ) (unread : List Piece) (words tag_count : ℕ) → PlainRing
made hdrsize r overflow since ended seen len tags unread words tag_count =
    record {
      hdrsize = hdrsize;
      len = len;
      tags = tags;
      unread = unread;
      pending = count_of overflow;
      since = since;
      change = change_of overflow;
      read_words = words_of r;
      read_tags = tags_of r;
      written_words = words;
      written_tags = tag_count;
      ended = ended;
      seen = seen;
      hand = Nothing;
    }

module _ (h : ℕ) (slots tags batch batch_tags zeros : List ℕ) (r w overflow since : ℕ) (ended : Bool) (seen : Option Look) (old : Hand) (found : Found) (k : IsKept h slots tags batch batch_tags zeros r w overflow seen old)
    (next tag time : ℕ) (header stack slots2 tags2 : List ℕ) (can : CanEmit (ring_of h slots tags r w overflow since ended seen found) header stack)
    (up : IsRaised w next (length slots) (size_of (length header) (length stack)))
    (e : slots2 ≡ put_at (length slots) (words_of w % length slots) (spelled time header stack) slots) (f : tags2 ≡ slice_set tags (tags_of w % length tags) tag) where
  some : 0 < length slots
  some = (let a = k.sized.words_least in omega arith)

  tags_some : 0 < length tags
  tags_some = (let a = k.sized.tags_least in omega arith)

  lengths : length slots2 ≡ length slots
  lengths = ap length e ∙ length-slots h slots tags r w next tag time header stack some tags_some can.header_size k.spelled up can.free can.room

  tag_lengths : length tags2 ≡ length tags
  tag_lengths = ap length f ∙ length-set tags (tags_of w % length tags) tag

  move : (x : ℕ) → IsSpelled h (put_at (length slots) (words_of w % length slots) (spelled time header stack) slots) (slice_set tags (tags_of w % length tags) tag) r x → IsSpelled h slots2 tags2 r x
  move x s =
      subst (λ (xs : List ℕ). IsSpelled h xs tags2 r x) (sym e) (subst (λ (ts : List ℕ). IsSpelled h (put_at (length slots) (words_of w % length slots) (spelled time header stack) slots) ts r x) (sym f) s)

  seen-on : (x : Option Look) → IfSome x (λ look. IsSpelled h slots tags r look.w × (tags_of look.w ≤ tags_of w) × (words_of look.w ≤ words_of w))
      → IfSome x (λ look. IsSpelled h slots2 tags2 r look.w × (tags_of look.w ≤ tags_of next) × (words_of look.w ≤ words_of next))
  seen-on None s = s
  seen-on (Some look) s =
      let a : tags_of look.w ≤ tags_of w = s.1 in
      let b : words_of look.w ≤ words_of w = s.2 in
      let t = up.tags in let u = up.words in
      (move look.w (seen-spelled h slots tags r w next tag time header stack some tags_some can.header_size k.spelled up can.free can.room look.w s.2 s.0), omega arith, omega arith)

  pub emit-kept : IsKept h slots2 tags2 batch batch_tags zeros r next overflow seen hand.Nothing
  emit-kept = record {
    sized = sized-on h slots tags slots2 tags2 batch batch_tags zeros k.sized lengths tag_lengths;
    r_word = k.r_word;
    spelled = move next (next-spelled h slots tags r w next tag time header stack some tags_some can.header_size k.spelled up can.free can.room);
    seen_front = seen-on seen k.seen_front;
    change_fits = k.change_fits;
    in_hand = tt;
  }

  unread : unread_in slots2 tags2 r next ≡ unread_in slots tags r w ++ record { tag = tag; words = spelled time header stack } ∷ []
  unread =
      ap (λ (xs : List ℕ). unread_in xs tags2 r next) e ∙ ap (λ (ts : List ℕ). unread_in (put_at (length slots) (words_of w % length slots) (spelled time header stack) slots) ts r next) f
      ∙ unread-next h slots tags r w next tag time header stack some tags_some can.header_size k.spelled up can.free can.room

  raised_words : words_of next ≡ words_of w + raise_of (words_of w % length slots) (length slots) (length (spelled time header stack))
  raised_words =
      let s : length (spelled time header stack) ≡ size_of (length header) (length stack) = (let a = length-append header stack in omega arith) in
      up.words ∙ ap (λ (n : ℕ). words_of w + raise_of (words_of w % length slots) (length slots) n) (sym s)

  pub emit-ring : ring_of h slots2 tags2 r next overflow since ended seen Nothing
      ≡ with_nothing (emitted (ring_of h slots tags r w overflow since ended seen found) (record { tag = tag; words = spelled time header stack }))
  unfolding made
  emit-ring =
      let make = made h r overflow since ended (seen_of seen) in
      ap (λ (n : ℕ). make n (length tags2) (unread_in slots2 tags2 r next) (words_of next) (tags_of next)) lengths
      ∙ ap (λ (n : ℕ). make (length slots) n (unread_in slots2 tags2 r next) (words_of next) (tags_of next)) tag_lengths
      ∙ ap (λ (ps : List Piece). make (length slots) (length tags) ps (words_of next) (tags_of next)) unread
      ∙ ap (λ (n : ℕ). make (length slots) (length tags) (unread_in slots tags r w ++ record { tag = tag; words = spelled time header stack } ∷ []) n (tags_of next)) raised_words
      ∙ ap (λ (n : ℕ). make (length slots) (length tags) (unread_in slots tags r w ++ record { tag = tag; words = spelled time header stack } ∷ [])
      (words_of w + raise_of (words_of w % length slots) (length slots) (length (spelled time header stack))) n) up.tags
