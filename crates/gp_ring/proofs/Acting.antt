-- The fields after a batch was taken.
use Rattle.std.proofs.Common.{◌≡◌, ℕ, ◌+◌, ◌-◌, ◌<◌, ◌≤◌, Bool, true, List, [], ◌∷◌, ◌++◌, map, length, take, drop, Option, Some, None, refl, ap, sym, subst, ◌∙◌, arith}
use Rattle.std.specs.Prelude.{nat_lt, if◌then◌else◌, ◌&&◌, IfSome}
use Rattle.std.specs.List.{flat_map}
use Rattle.std.proofs.lemmas.List.{append-nil}
use Rattle.gp_ring.specs.Records.{Offer, RingRecord}
use Rattle.gp_ring.specs.Follows.{Follows, IsSeen}
use Rattle.gp_ring.specs.Offered.{GoesOn}
use Rattle.gp_ring.proofs.Reading.{act-follows, look-follows}
use Rattle.std.proofs.Math.Seq.{take-append_seam, drop-append_seam}
use Rattle.std.proofs.lemmas.Bool.Decides.{nat_tests}
use Rattle.gp_layout.specs.Words.{words_of, tags_of, count_of, change_of}
use Rattle.gp_ring.specs.PlainRing as plain
use Rattle.gp_ring.specs.PlainRing.{PlainRing, Piece, Seen, Found, acted, acted_on, without_batch, without_loss, is_unchanged, found, batch}
use Rattle.gp_ring.specs.declared.hand.Look.{Look}
use Rattle.gp_ring.specs.declared.hand.Part.{Part}
use Rattle.gp_ring.specs.declared.hand.Hand.{Hand}
use Rattle.gp_ring.specs.declared.hand.Hand.TheVariants.{Batch}
use Rattle.gp_ring.specs.kept.Slots.{records_at, tags_at, pieces_of, Lie}
use Rattle.gp_ring.specs.kept.Fields.{ring_of, unread_in, IsKept, IsSpelled, IsWithin}
use Rattle.gp_ring.specs.kept.Batch.{in_order}
use Rattle.gp_ring.proofs.Lying.{lie-order, lie-rest, records-append, tags-append, length-records, length-tags, pieces-append, length-pieces}

words-of-pieces : (us : List (List ℕ)) (ss : List ℕ) → length us ≡ length ss → flat_map (λ (p : Piece). p.words) (pieces_of us ss) ≡ flat_map (λ ws. ws) us
words-of-pieces [] ss e = refl
words-of-pieces (u ∷ us) [] e = absurd (omega arith)
words-of-pieces (u ∷ us) (s ∷ ss) e = ap (λ (ws : List ℕ). u ++ ws) (words-of-pieces us ss (omega arith))

tags-of-pieces : (us : List (List ℕ)) (ss : List ℕ) → length us ≡ length ss → map (λ (p : Piece). p.tag) (pieces_of us ss) ≡ ss
tags-of-pieces [] [] e = refl
tags-of-pieces [] (s ∷ ss) e = absurd (omega arith)
tags-of-pieces (u ∷ us) [] e = absurd (omega arith)
tags-of-pieces (u ∷ us) (s ∷ ss) e = ap (λ (ts : List ℕ). s ∷ ts) (tags-of-pieces us ss (omega arith))

is_less : (a b : ℕ) → a < b → nat_lt a b ≡ true
is_less a b h = grind (arith, nat_tests)

take_seam : (n : ℕ) (ps qs : List Piece) → length ps ≡ n → take n (ps ++ qs) ≡ ps
take_seam n ps qs e = ap (λ (k : ℕ). take k (ps ++ qs)) (sym e) ∙ take-append_seam ps qs

drop_seam : (n : ℕ) (ps qs : List Piece) → length ps ≡ n → drop n (ps ++ qs) ≡ qs
drop_seam n ps qs e = ap (λ (k : ℕ). drop k (ps ++ qs)) (sym e) ∙ drop-append_seam ps qs

made : (h len tags pending since change rw rt ww wt : ℕ) (ended : Bool) (unread : List Piece) (hand : Found) → PlainRing
made h len tags pending since change rw rt ww wt ended unread hand =
    record { hdrsize = h; len = len; tags = tags; unread = unread; pending = pending; since = since; change = change; read_words = rw; read_tags = rt; written_words = ww; written_tags = wt; ended = ended; seen = None; hand = hand }

module _ (h : ℕ) (slots tags batch batch_tags zeros : List ℕ) (r w overflow since : ℕ) (ended : Bool) (seen : Option Look) (old : Hand) (was : Found) (k : IsKept h slots tags batch batch_tags zeros r w overflow seen old)
    (look : Look) (is : seen ≡ Some look) where
  front : IsSpelled h slots tags r look.w × (tags_of look.w ≤ tags_of w) × (words_of look.w ≤ words_of w)
  front = subst (λ (o : Option Look). IfSome o (λ l. IsSpelled h slots tags r l.w × (tags_of l.w ≤ tags_of w) × (words_of l.w ≤ words_of w))) is k.seen_front

  pub look-order : words_of r ≤ words_of look.w
  look-order = lie-order slots (length slots) h (tags_of look.w - tags_of r) (words_of r) (words_of look.w) front.0.lie

  parts : tags_of w - tags_of r ≡ (tags_of look.w - tags_of r) + (tags_of w - tags_of look.w)
  parts = (let a : tags_of r ≤ tags_of look.w = front.0.tags_before in let b : tags_of look.w ≤ tags_of w = front.1 in omega arith)

  rest : IsSpelled h slots tags look.w w
  rest =
      let a : tags_of r ≤ tags_of look.w = front.0.tags_before in
      let b : tags_of w ≤ tags_of r + length tags = k.spelled.tags_within in
      let c : words_of w ≤ words_of r + length slots = k.spelled.words_within in
      let o = look-order in
      record {
        word = k.spelled.word;
        tags_before = front.1;
        tags_within = omega arith;
        words_within = omega arith;
        lie = lie-rest slots (length slots) h (tags_of look.w - tags_of r) (tags_of w - tags_of look.w) (words_of r) (words_of look.w) (words_of w) front.0.lie
            (subst (λ (n : ℕ). Lie slots (length slots) h n (words_of r) (words_of w)) parts k.spelled.lie);
      }

  pub batch-kept : (batch2 tags2 copy tag_copy : List ℕ) (p q : Part) → batch2 ≡ copy → tags2 ≡ tag_copy → length copy ≡ length slots → length tag_copy ≡ length tags
      → p.from ≤ p.to → IsWithin p slots copy → q.from ≤ q.to → IsWithin q tags tag_copy → IsKept h slots tags batch2 tags2 zeros look.w w overflow None (Batch p q)
  batch-kept batch2 tags2 copy tag_copy p q e f a b c d g i =
      let z = k.sized in
      record {
        sized = record {
          header_least = z.header_least;
          header_most = z.header_most;
          words_least = z.words_least;
          words_most = z.words_most;
          tags_least = z.tags_least;
          tags_most = z.tags_most;
          header_zeros = z.header_zeros;
          batch_size = ap length e ∙ a;
          batch_tags_size = ap length f ∙ b;
        };
        r_word = front.0.word;
        spelled = rest;
        seen_front = tt;
        change_fits = k.change_fits;
        in_hand = (c, subst (IsWithin p slots) (sym e) d, g, subst (IsWithin q tags) (sym f) i);
      }

  taken_pieces : List Piece
  taken_pieces = pieces_of (records_at slots (length slots) (tags_of look.w - tags_of r) (words_of r)) (tags_at tags (length tags) (tags_of look.w - tags_of r) (tags_of r))

  same_lengths : length (records_at slots (length slots) (tags_of look.w - tags_of r) (words_of r)) ≡ length (tags_at tags (length tags) (tags_of look.w - tags_of r) (tags_of r))
  same_lengths = length-records slots (length slots) (tags_of look.w - tags_of r) (words_of r) ∙ sym (length-tags tags (length tags) (tags_of look.w - tags_of r) (tags_of r))

  split : unread_in slots tags r w ≡ pieces_of (records_at slots (length slots) (tags_of look.w - tags_of r) (words_of r)) (tags_at tags (length tags) (tags_of look.w - tags_of r) (tags_of r)) ++ unread_in slots tags look.w w
  split =
      let n = tags_of look.w - tags_of r in
      let m = tags_of w - tags_of look.w in
      let a : tags_of r ≤ tags_of look.w = front.0.tags_before in
      let t : tags_of r + (tags_of look.w - tags_of r) ≡ tags_of look.w = omega arith in
      ap (λ (j : ℕ). pieces_of (records_at slots (length slots) j (words_of r)) (tags_at tags (length tags) j (tags_of r))) parts
      ∙ ap (λ (us : List (List ℕ)). pieces_of us (tags_at tags (length tags) (n + m) (tags_of r))) (records-append slots (length slots) h n m (words_of r) (words_of look.w) front.0.lie)
      ∙ ap (pieces_of (records_at slots (length slots) n (words_of r) ++ records_at slots (length slots) m (words_of look.w)))
      (tags-append tags (length tags) n m (tags_of r) ∙ ap (λ (j : ℕ). tags_at tags (length tags) n (tags_of r) ++ tags_at tags (length tags) m j) t)
      ∙ pieces-append (records_at slots (length slots) n (words_of r)) (records_at slots (length slots) m (words_of look.w)) (tags_at tags (length tags) n (tags_of r)) (tags_at tags (length tags) m (tags_of look.w)) same_lengths

  count : length (pieces_of (records_at slots (length slots) (tags_of look.w - tags_of r) (words_of r)) (tags_at tags (length tags) (tags_of look.w - tags_of r) (tags_of r))) ≡ tags_of look.w - tags_of r
  count = length-pieces (records_at slots (length slots) (tags_of look.w - tags_of r) (words_of r)) (tags_at tags (length tags) (tags_of look.w - tags_of r) (tags_of r)) same_lengths
      ∙ length-records slots (length slots) (tags_of look.w - tags_of r) (words_of r)

  pub batch-ring : (n fw ft : ℕ) (ws ts : List ℕ) → n ≡ tags_of look.w - tags_of r → fw ≡ words_of r → ft ≡ tags_of r → 0 < n → ws ≡ in_order slots n fw → ts ≡ tags_at tags (length tags) n ft
      → ring_of h slots tags look.w w overflow since ended None (plain.Batch ws ts) ≡ acted (ring_of h slots tags r w overflow since ended seen was)
  unfolding made
  batch-ring n fw ft ws ts en ew et pos e f =
      let m = tags_of look.w - tags_of r in
      let us = records_at slots (length slots) (tags_of look.w - tags_of r) (words_of r) in
      let ss = tags_at tags (length tags) (tags_of look.w - tags_of r) (tags_of r) in
      let old_unread = unread_in slots tags r w in
      let ring = ring_of h slots tags r w overflow since ended (Some look) was in
      let s : Seen = record { ended = look.ended; pending = count_of look.overflow; change = change_of look.overflow; words = words_of look.w; tags = tags_of look.w } in
      let front_is : take m old_unread ≡ pieces_of us ss = ap (take m) split ∙ take_seam m (pieces_of us ss) (unread_in slots tags look.w w) count in
      let rest_is : drop m old_unread ≡ unread_in slots tags look.w w = ap (drop m) split ∙ drop_seam m (pieces_of us ss) (unread_in slots tags look.w w) count in
      let words_are : ws ≡ flat_map (λ (p : Piece). p.words) (take m old_unread) =
      e ∙ ap (λ (j : ℕ). in_order slots j fw) en ∙ ap (in_order slots m) ew ∙ sym (words-of-pieces us ss same_lengths) ∙ ap (λ (ps : List Piece). flat_map (λ (p : Piece). p.words) ps) (sym front_is) in
      let tags_are : ts ≡ map (λ (p : Piece). p.tag) (take m old_unread) =
      f ∙ ap (λ (j : ℕ). tags_at tags (length tags) j ft) en ∙ ap (tags_at tags (length tags) m) et ∙ sym (tags-of-pieces us ss same_lengths) ∙ ap (λ (ps : List Piece). map (λ (p : Piece). p.tag) ps) (sym front_is) in
      let ahead : nat_lt (tags_of r) (tags_of look.w) ≡ true = is_less (tags_of r) (tags_of look.w) (omega arith) in
      let make = made h (length slots) (length tags) (count_of overflow) since (change_of overflow) (words_of look.w) (tags_of look.w) (words_of w) (tags_of w) ended in
      let g = λ (b : Bool). plain.with_found (if b then without_batch ring s else if nat_lt 0 s.pending && is_unchanged ring s then without_loss ring else ring)
      (if b then plain.Batch (flat_map (λ (p : Piece). p.words) (plain.batch ring s)) (map (λ (p : Piece). p.tag) (plain.batch ring s)) else plain.found_behind ring s) in
      ap (λ (us2 : List Piece). make us2 (plain.Batch ws ts)) (sym rest_is)
      ∙ ap (λ (xs : List ℕ). make (drop m old_unread) (plain.Batch xs ts)) words_are
      ∙ ap (λ (xs : List ℕ). make (drop m old_unread) (plain.Batch (flat_map (λ (p : Piece). p.words) (take m old_unread)) xs)) tags_are
      ∙ ap g (sym ahead)
      ∙ ap (λ (o : Option Look). acted (ring_of h slots tags r w overflow since ended o was)) (sym is)

act_goes_on : (os : List Offer) (rs : List RingRecord) (ring : PlainRing) (x : Option Seen) → Follows os rs ring → IfSome x (IsSeen ring) → Follows os (rs ++ plain.taken_after ring x) (plain.act_after ring x)
act_goes_on os rs ring None f k = subst (λ (xs : List RingRecord). Follows os xs ring) (sym (append-nil rs)) f
act_goes_on os rs ring (Some s) f k = act-follows os rs ring s f k

pub act-goes : (old : PlainRing) → GoesOn old (acted old) [] (plain.records_taken old)
act-goes old os rs f = subst (λ (xs : List Offer). Follows xs (rs ++ plain.records_taken old) (acted old)) (sym (append-nil os)) (act_goes_on os rs old old.seen f f.seen)

pub read-goes : (old : PlainRing) → GoesOn old (acted (plain.looked old)) [] (plain.records_taken (plain.looked old))
read-goes old os rs f = act-goes (plain.looked old) os rs (look-follows os rs old f)
