-- Each branch of a write keeps what follows offers and records taken.
use Rattle.std.proofs.Common.{◌≡◌, ℕ, ◌+◌, ◌-◌, ◌*◌, ◌%◌, ◌<◌, ◌≤◌, Bool, true, false, List, [], ◌∷◌, ◌++◌, map, length, Option, Some, None, refl, ap, sym, subst, ◌∙◌, append_assoc, append-nil, arith, length-append}
use Rattle.std.specs.Prelude.{◌==◌, if◌then◌else◌, nat_le, IfSome}
use Rattle.std.proofs.lemmas.List.{map-append}
use Rattle.std.proofs.lemmas.Bool.{and_from}
use Rattle.std.proofs.lemmas.Bool.Decides.{nat_tests}
use Rattle.gp_layout.specs.Place.{raise_of}
use Rattle.gp_layout.specs.Spelling.{loss_size}
use Rattle.gp_ring.specs.Records.{Offer, RingRecord, Sample, Loss, Covers, head, fit_twice, words_for, words_for_all, words_for_most, IsOffer}
use Rattle.gp_ring.specs.PlainRing.{PlainRing, Piece, Seen, record_of, unread_records, pending_records, piece_for, loss_piece, emitted, with_nothing, without_loss, with_first_loss, with_one_more, has_room, has_room_behind_loss, written}
use Rattle.gp_ring.specs.Follows.{Follows, IsSeen, IsLossless, samples}
use Rattle.gp_ring.proofs.Covering.{covers-delivered, covers-begun, covers-counted}
use Rattle.gp_ring.proofs.Heads.{head-all, head-same, fit-parts, words-append, most-append, fit-from}
use Rattle.gp_ring.proofs.Spelled.{record-offer, record-loss, length-offer, length-loss, raise-le}
use Rattle.gp_ring.proofs.Steps.{written-kept, written-lost, written-flushed, written-counted}

-- the pending loss as a record
pub nothing_pends : (n t : ℕ) → n ≡ 0 → (if n == 0 then [] else Loss n t ∷ []) ≡ []
nothing_pends n t e = ap (λ (k : ℕ). if k == 0 then [] else Loss k t ∷ []) e

pub one_pends : (n t : ℕ) → (n == 0) ≡ false → (if n == 0 then [] else Loss n t ∷ []) ≡ Loss n t ∷ []
one_pends n t e = ap (λ (b : Bool). if b then [] else Loss n t ∷ []) e

pub not_zero : (n : ℕ) → 0 < n → (n == 0) ≡ false
not_zero n h = grind (arith, nat_tests)

pub above_zero : (n : ℕ) → (n == 0) ≡ false → 0 < n
above_zero n h = grind (arith, nat_tests)

pub is_zero : (n : ℕ) → (n == 0) ≡ true → n ≡ 0
is_zero n h = grind (arith, nat_tests)

pub zero_above : (n : ℕ) → n ≡ 0 → 0 < n → ⊥
zero_above n e h = omega arith

pub differ : false ≡ true → ⊥
differ e = cc

pub le_is : (a b : ℕ) → a ≤ b → nat_le a b ≡ true
le_is a b h = grind (arith, nat_tests)

-- one more offer, and records that go on
pub begins-next : (h len tags : ℕ) (os : List Offer) (o : Offer) (rs more next : List RingRecord)
    → (rest : List RingRecord) × (samples (head h len tags os) ++ rest ≡ rs) → rs ++ more ≡ next
    → (fit_twice h len tags (os ++ o ∷ []) ≡ true → next ≡ samples (os ++ o ∷ []))
    → (rest : List RingRecord) × (samples (head h len tags (os ++ o ∷ [])) ++ rest ≡ next)
begins-next h len tags os o rs more next b e f =
    elim (fit_twice h len tags (os ++ o ∷ [])) as (λ (v : Bool). fit_twice h len tags (os ++ o ∷ []) ≡ v → (rest : List RingRecord) × (samples (head h len tags (os ++ o ∷ [])) ++ rest ≡ next)) [
      | true ↦ λ k. ([], append-nil (samples (head h len tags (os ++ o ∷ []))) ∙ ap samples (head-all h len tags (os ++ o ∷ []) k) ∙ sym (f k))
      | false ↦ λ k. (b.0 ++ more, ap (λ (xs : List Offer). samples xs ++ (b.0 ++ more)) (head-same h len tags os o k) ∙ sym (append_assoc (samples (head h len tags os)) b.0 more) ∙ ap (λ (xs : List RingRecord). xs ++ more) b.1 ∙ e)
    ] refl

pub samples-more : (os : List Offer) (o : Offer) → samples (os ++ o ∷ []) ≡ samples os ++ Sample o ∷ []
samples-more os o = map-append Sample os (o ∷ [])

pub fits_less : (h len tags : ℕ) (os : List Offer) (o : Offer) → fit_twice h len tags (os ++ o ∷ []) ≡ true → fit_twice h len tags os ≡ true
fits_less h len tags os o k =
    let p = fit-parts h len tags (os ++ o ∷ []) k in
    let n = length-append os (o ∷ []) in
    let w = words-append h os o in
    fit-from h len tags os (omega arith) (omega arith)

-- the records after one more unread record
unread-more : (h : ℕ) (rs : List RingRecord) (ps : List Piece) (p : Piece) (r : RingRecord) → record_of h p ≡ r
    → rs ++ map (record_of h) (ps ++ p ∷ []) ≡ (rs ++ map (record_of h) ps) ++ r ∷ []
unread-more h rs ps p r e =
    ap (λ (xs : List RingRecord). rs ++ xs) (map-append (record_of h) ps (p ∷ []) ∙ ap (λ (x : RingRecord). map (record_of h) ps ++ x ∷ []) e)
    ∙ sym (append_assoc rs (map (record_of h) ps) (r ∷ []))

-- where all offers fit there is room
room_where_all_fit : (ring : PlainRing) (os : List Offer) (o : Offer) → length os + 1 ≤ ring.tags → 2 * words_for_all ring.hdrsize os + 2 * words_for ring.hdrsize o ≤ ring.len
    → ring.written_words ≤ 2 * words_for_all ring.hdrsize os → ring.written_tags ≤ length os → has_room ring o ≡ true
room_where_all_fit ring os o a b c d =
    let need = words_for ring.hdrsize o in
    let r : raise_of (ring.written_words % ring.len) ring.len need ≤ 2 * need = raise-le (ring.written_words % ring.len) ring.len need in
    and_from (nat_le ((ring.written_tags - ring.read_tags) + 1) ring.tags) (nat_le ((ring.written_words - ring.read_words) + raise_of (ring.written_words % ring.len) ring.len need) ring.len)
    (le_is ((ring.written_tags - ring.read_tags) + 1) ring.tags (omega arith)) (le_is ((ring.written_words - ring.read_words) + raise_of (ring.written_words % ring.len) ring.len need) ring.len (omega arith))

-- what was seen, after a write on an open ring
seen-on : (ring next : PlainRing) (x : Option Seen) → ring.ended ≡ false → next.read_tags ≡ ring.read_tags → ring.written_tags ≤ next.written_tags → ring.change ≤ next.change
    → ((s : Seen) → IsSeen ring s → (next.change ≡ s.change → s.pending ≤ next.pending) × (next.change ≡ s.change → next.pending ≡ s.pending → 0 < next.pending → next.written_tags ≡ s.tags))
    → IfSome x (IsSeen ring) → IfSome x (IsSeen next)
seen-on ring next None is_open r w c h k = k
seen-on ring next (Some s) is_open r w c h k =
    let p = h s k in
    let from : ring.read_tags ≤ s.tags = k.from in
    let to : s.tags ≤ ring.written_tags = k.to in
    let change : s.change ≤ ring.change = k.change in
    record {
      from = omega arith;
      to = omega arith;
      change = omega arith;
      pending = p.0;
      last = p.1;
      ended = λ e. absurd (differ (sym is_open ∙ k.ended e));
      end_tags = λ e. absurd (differ (sym is_open ∙ k.ended e));
      end_pending = λ e. absurd (differ (sym is_open ∙ k.ended e));
    }

-- a record is written where no loss is pending
kept-follows : (os : List Offer) (rs : List RingRecord) (ring : PlainRing) (o : Offer) → Follows os rs ring → ring.ended ≡ false → IsOffer ring.hdrsize ring.len o → ring.pending ≡ 0
    → Follows (os ++ o ∷ []) rs (with_nothing (emitted ring (piece_for o)))
kept-follows os rs ring o f is_open i z =
    let n : length (os ++ o ∷ []) ≡ length os + 1 = length-append os (o ∷ []) in
    let m = most-append ring.hdrsize os o in
    let w = words-append ring.hdrsize os o in
    let s : length (piece_for o).words ≡ words_for ring.hdrsize o = length-offer ring.hdrsize ring.len o i in
    let up : raise_of (ring.written_words % ring.len) ring.len (length (piece_for o).words) ≤ 2 * length (piece_for o).words = raise-le (ring.written_words % ring.len) ring.len (length (piece_for o).words) in
    let more : rs ++ map (record_of ring.hdrsize) (ring.unread ++ piece_for o ∷ []) ≡ (rs ++ unread_records ring) ++ Sample o ∷ [] =
    unread-more ring.hdrsize rs ring.unread (piece_for o) (Sample o) (record-offer ring.hdrsize ring.len o i) in
    let none : pending_records ring ≡ [] = nothing_pends ring.pending ring.since z in
    let before : Covers (rs ++ unread_records ring) os = subst (λ (xs : List RingRecord). Covers xs os) (ap (λ (xs : List RingRecord). (rs ++ unread_records ring) ++ xs) none ∙ append-nil (rs ++ unread_records ring)) f.covered in
    let all : (rs ++ map (record_of ring.hdrsize) (ring.unread ++ piece_for o ∷ [])) ++ pending_records ring ≡ (rs ++ unread_records ring) ++ Sample o ∷ [] =
    ap (λ (xs : List RingRecord). (rs ++ map (record_of ring.hdrsize) (ring.unread ++ piece_for o ∷ [])) ++ xs) none ∙ append-nil (rs ++ map (record_of ring.hdrsize) (ring.unread ++ piece_for o ∷ [])) ∙ more in
    let a : ring.read_tags + length ring.unread ≡ ring.written_tags = f.unread in
    let b : ring.written_words ≤ 2 * words_for_most ring.hdrsize os = f.words in
    let c : ring.written_tags + ring.pending ≤ length os = f.tags in
    let d : ring.change ≤ 2 * length os = f.change in
    let lossless : fit_twice ring.hdrsize ring.len ring.tags (os ++ o ∷ []) ≡ true → IsLossless (with_nothing (emitted ring (piece_for o))) (os ++ o ∷ []) (rs ++ map (record_of ring.hdrsize) (ring.unread ++ piece_for o ∷ [])) = λ k.
    let l = f.lossless (fits_less ring.hdrsize ring.len ring.tags os o k) in
    let lw : ring.written_words ≤ 2 * words_for_all ring.hdrsize os = l.words in
    record {
      none_pending = z;
      delivered = more ∙ ap (λ (xs : List RingRecord). xs ++ Sample o ∷ []) l.delivered ∙ sym (samples-more os o);
      words = omega arith;
    } in
    record {
      covered = subst (λ (xs : List RingRecord). Covers xs (os ++ o ∷ [])) (sym all) (covers-delivered (rs ++ unread_records ring) os o before);
      begins = begins-next ring.hdrsize ring.len ring.tags os o (rs ++ unread_records ring) (Sample o ∷ []) (rs ++ map (record_of ring.hdrsize) (ring.unread ++ piece_for o ∷ [])) f.begins (sym more) (λ k. (lossless k).delivered);
      lossless = lossless;
      unread = (let x = length-append ring.unread (piece_for o ∷ []) in omega arith);
      seen = seen-on ring (with_nothing (emitted ring (piece_for o))) ring.seen is_open refl (omega arith) (omega arith) (λ s k. (k.pending, λ e g h. absurd (zero_above ring.pending z h))) f.seen;
      words = omega arith;
      words_pending = λ h. absurd (zero_above ring.pending z h);
      tags = omega arith;
      change = omega arith;
      change_pending = λ h. absurd (zero_above ring.pending z h);
    }

-- the pending loss is written, and the record behind it
flushed-follows : (os : List Offer) (rs : List RingRecord) (ring : PlainRing) (o : Offer) → Follows os rs ring → ring.ended ≡ false → IsOffer ring.hdrsize ring.len o → (ring.pending == 0) ≡ false
    → Follows (os ++ o ∷ []) rs (with_nothing (emitted (emitted (without_loss ring) (loss_piece ring)) (piece_for o)))
flushed-follows os rs ring o f is_open i z =
    let pos : 0 < ring.pending = above_zero ring.pending z in
    let n : length (os ++ o ∷ []) ≡ length os + 1 = length-append os (o ∷ []) in
    let m = most-append ring.hdrsize os o in
    let s : length (piece_for o).words ≡ words_for ring.hdrsize o = length-offer ring.hdrsize ring.len o i in
    let t : length (loss_piece ring).words ≡ loss_size ring.hdrsize = length-loss ring in
    let mid = emitted (without_loss ring) (loss_piece ring) in
    let up : raise_of (ring.written_words % ring.len) ring.len (length (loss_piece ring).words) ≤ 2 * length (loss_piece ring).words = raise-le (ring.written_words % ring.len) ring.len (length (loss_piece ring).words) in
    let up2 : raise_of (mid.written_words % ring.len) ring.len (length (piece_for o).words) ≤ 2 * length (piece_for o).words = raise-le (mid.written_words % ring.len) ring.len (length (piece_for o).words) in
    let first : rs ++ map (record_of ring.hdrsize) (ring.unread ++ loss_piece ring ∷ []) ≡ (rs ++ unread_records ring) ++ Loss ring.pending ring.since ∷ [] =
    unread-more ring.hdrsize rs ring.unread (loss_piece ring) (Loss ring.pending ring.since) (record-loss ring) in
    let unread = (ring.unread ++ loss_piece ring ∷ []) ++ piece_for o ∷ [] in
    let more : rs ++ map (record_of ring.hdrsize) unread ≡ ((rs ++ unread_records ring) ++ Loss ring.pending ring.since ∷ []) ++ Sample o ∷ [] =
    unread-more ring.hdrsize rs (ring.unread ++ loss_piece ring ∷ []) (piece_for o) (Sample o) (record-offer ring.hdrsize ring.len o i) ∙ ap (λ (xs : List RingRecord). xs ++ Sample o ∷ []) first in
    let one : pending_records ring ≡ Loss ring.pending ring.since ∷ [] = one_pends ring.pending ring.since z in
    let before : Covers ((rs ++ unread_records ring) ++ Loss ring.pending ring.since ∷ []) os = subst (λ (xs : List RingRecord). Covers xs os) (ap (λ (xs : List RingRecord). (rs ++ unread_records ring) ++ xs) one) f.covered in
    let all : (rs ++ map (record_of ring.hdrsize) unread) ++ [] ≡ ((rs ++ unread_records ring) ++ Loss ring.pending ring.since ∷ []) ++ Sample o ∷ [] = append-nil (rs ++ map (record_of ring.hdrsize) unread) ∙ more in
    let a : ring.read_tags + length ring.unread ≡ ring.written_tags = f.unread in
    let b : ring.written_words + 2 * loss_size ring.hdrsize ≤ 2 * words_for_most ring.hdrsize os = f.words_pending pos in
    let c : ring.written_tags + ring.pending ≤ length os = f.tags in
    let d : ring.change + 1 ≤ 2 * length os = f.change_pending pos in
    let lossy : fit_twice ring.hdrsize ring.len ring.tags (os ++ o ∷ []) ≡ true → ⊥ = λ k. zero_above ring.pending (f.lossless (fits_less ring.hdrsize ring.len ring.tags os o k)).none_pending pos in
    record {
      covered = subst (λ (xs : List RingRecord). Covers xs (os ++ o ∷ [])) (sym all) (covers-delivered ((rs ++ unread_records ring) ++ Loss ring.pending ring.since ∷ []) os o before);
      begins = begins-next ring.hdrsize ring.len ring.tags os o (rs ++ unread_records ring) (Loss ring.pending ring.since ∷ [] ++ Sample o ∷ []) (rs ++ map (record_of ring.hdrsize) unread) f.begins
          (sym (append_assoc (rs ++ unread_records ring) (Loss ring.pending ring.since ∷ []) (Sample o ∷ [])) ∙ sym more) (λ k. absurd (lossy k));
      lossless = λ k. absurd (lossy k);
      unread = (let x = length-append (ring.unread ++ loss_piece ring ∷ []) (piece_for o ∷ []) in let y = length-append ring.unread (loss_piece ring ∷ []) in omega arith);
      seen = seen-on ring (with_nothing (emitted mid (piece_for o))) ring.seen is_open refl (omega arith) (omega arith)
          (λ s k. (let q : s.change ≤ ring.change = k.change in (λ e. absurd (omega arith), λ e g h. absurd (omega arith)))) f.seen;
      words = omega arith;
      words_pending = λ h. absurd (omega arith);
      tags = omega arith;
      change = omega arith;
      change_pending = λ h. absurd (omega arith);
    }

-- a first offer is lost
lost-follows : (os : List Offer) (rs : List RingRecord) (ring : PlainRing) (o : Offer) → Follows os rs ring → ring.ended ≡ false → IsOffer ring.hdrsize ring.len o → ring.pending ≡ 0 → has_room ring o ≡ false
    → Follows (os ++ o ∷ []) rs (with_nothing (with_first_loss ring o.time))
lost-follows os rs ring o f is_open i z room =
    let n : length (os ++ o ∷ []) ≡ length os + 1 = length-append os (o ∷ []) in
    let m = most-append ring.hdrsize os o in
    let w = words-append ring.hdrsize os o in
    let none : pending_records ring ≡ [] = nothing_pends ring.pending ring.since z in
    let before : Covers (rs ++ unread_records ring) os = subst (λ (xs : List RingRecord). Covers xs os) (ap (λ (xs : List RingRecord). (rs ++ unread_records ring) ++ xs) none ∙ append-nil (rs ++ unread_records ring)) f.covered in
    let b : ring.written_words ≤ 2 * words_for_most ring.hdrsize os = f.words in
    let c : ring.written_tags + ring.pending ≤ length os = f.tags in
    let d : ring.change ≤ 2 * length os = f.change in
    let lossy : fit_twice ring.hdrsize ring.len ring.tags (os ++ o ∷ []) ≡ true → ⊥ = λ k.
    let l = f.lossless (fits_less ring.hdrsize ring.len ring.tags os o k) in
    let lw : ring.written_words ≤ 2 * words_for_all ring.hdrsize os = l.words in
    let p = fit-parts ring.hdrsize ring.len ring.tags (os ++ o ∷ []) k in
    differ (sym room ∙ room_where_all_fit ring os o (omega arith) (omega arith) lw (omega arith)) in
    record {
      covered = covers-begun (rs ++ unread_records ring) os o before;
      begins = begins-next ring.hdrsize ring.len ring.tags os o (rs ++ unread_records ring) [] (rs ++ unread_records ring) f.begins (append-nil (rs ++ unread_records ring)) (λ k. absurd (lossy k));
      lossless = λ k. absurd (lossy k);
      unread = f.unread;
      seen = seen-on ring (with_nothing (with_first_loss ring o.time)) ring.seen is_open refl (omega arith) (omega arith)
          (λ s k. (let q : s.change ≤ ring.change = k.change in (λ e. absurd (omega arith), λ e g h. absurd (omega arith)))) f.seen;
      words = omega arith;
      words_pending = λ _. omega arith;
      tags = omega arith;
      change = omega arith;
      change_pending = λ _. omega arith;
    }

-- one more offer is lost
counted-follows : (os : List Offer) (rs : List RingRecord) (ring : PlainRing) (o : Offer) → Follows os rs ring → ring.ended ≡ false → (ring.pending == 0) ≡ false
    → Follows (os ++ o ∷ []) rs (with_nothing (with_one_more ring))
counted-follows os rs ring o f is_open z =
    let pos : 0 < ring.pending = above_zero ring.pending z in
    let n : length (os ++ o ∷ []) ≡ length os + 1 = length-append os (o ∷ []) in
    let m = most-append ring.hdrsize os o in
    let one : pending_records ring ≡ Loss ring.pending ring.since ∷ [] = one_pends ring.pending ring.since z in
    let counted : pending_records (with_one_more ring) ≡ Loss (ring.pending + 1) ring.since ∷ [] = one_pends (ring.pending + 1) ring.since (not_zero (ring.pending + 1) (omega arith)) in
    let before : Covers ((rs ++ unread_records ring) ++ Loss ring.pending ring.since ∷ []) os = subst (λ (xs : List RingRecord). Covers xs os) (ap (λ (xs : List RingRecord). (rs ++ unread_records ring) ++ xs) one) f.covered in
    let b : ring.written_words + 2 * loss_size ring.hdrsize ≤ 2 * words_for_most ring.hdrsize os = f.words_pending pos in
    let c : ring.written_tags + ring.pending ≤ length os = f.tags in
    let d : ring.change + 1 ≤ 2 * length os = f.change_pending pos in
    let lossy : fit_twice ring.hdrsize ring.len ring.tags (os ++ o ∷ []) ≡ true → ⊥ = λ k. zero_above ring.pending (f.lossless (fits_less ring.hdrsize ring.len ring.tags os o k)).none_pending pos in
    record {
      covered = subst (λ (xs : List RingRecord). Covers ((rs ++ unread_records ring) ++ xs) (os ++ o ∷ [])) (sym counted) (covers-counted (rs ++ unread_records ring) ring.pending ring.since os o before);
      begins = begins-next ring.hdrsize ring.len ring.tags os o (rs ++ unread_records ring) [] (rs ++ unread_records ring) f.begins (append-nil (rs ++ unread_records ring)) (λ k. absurd (lossy k));
      lossless = λ k. absurd (lossy k);
      unread = f.unread;
      seen = seen-on ring (with_nothing (with_one_more ring)) ring.seen is_open refl (omega arith) (omega arith)
          (λ s k. (let q : ring.change ≡ s.change → s.pending ≤ ring.pending = k.pending in ((λ e. let r = q e in omega arith), λ e g h. absurd (let r = q e in omega arith)))) f.seen;
      words = omega arith;
      words_pending = λ _. omega arith;
      tags = omega arith;
      change = omega arith;
      change_pending = λ _. omega arith;
    }

-- a write keeps what follows offers and records taken
pub write-follows : (os : List Offer) (rs : List RingRecord) (ring : PlainRing) (o : Offer) → Follows os rs ring → ring.ended ≡ false → IsOffer ring.hdrsize ring.len o
    → Follows (os ++ o ∷ []) rs (written ring o)
write-follows os rs ring o f is_open i =
    elim (ring.pending == 0) as (λ (v : Bool). (ring.pending == 0) ≡ v → Follows (os ++ o ∷ []) rs (written ring o)) [
      | true ↦ λ z. elim (has_room ring o) as (λ (v : Bool). has_room ring o ≡ v → Follows (os ++ o ∷ []) rs (written ring o)) [
        | true ↦ λ r. subst (Follows (os ++ o ∷ []) rs) (sym (written-kept ring o z r)) (kept-follows os rs ring o f is_open i (is_zero ring.pending z))
        | false ↦ λ r. subst (Follows (os ++ o ∷ []) rs) (sym (written-lost ring o z r)) (lost-follows os rs ring o f is_open i (is_zero ring.pending z) r)
      ] refl
      | false ↦ λ z. elim (has_room_behind_loss ring o) as (λ (v : Bool). has_room_behind_loss ring o ≡ v → Follows (os ++ o ∷ []) rs (written ring o)) [
        | true ↦ λ r. subst (Follows (os ++ o ∷ []) rs) (sym (written-flushed ring o z r)) (flushed-follows os rs ring o f is_open i z)
        | false ↦ λ r. subst (Follows (os ++ o ∷ []) rs) (sym (written-counted ring o z r)) (counted-follows os rs ring o f is_open z)
      ] refl
    ] refl
