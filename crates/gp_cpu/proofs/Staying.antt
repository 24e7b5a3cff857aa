-- The unread records of a ring stay whole.
use Rattle.std.proofs.Common.{◌≡◌, ◌-◌, ℕ, zero, suc, Bool, true, false, ◌&&◌, ◌==◌, nat_lt, List, [], ◌∷◌, ◌++◌, length, drop, replicate, Option, Some, None, refl, sym, ap, ◌∙◌, subst, if◌then◌else◌, true≢false, eq-eqb, arith}
use Rattle.std.specs.List.{AllByRecursion}
use Rattle.gp_layout.specs.Spelling.{spelled}
use Rattle.gp_ring.specs.Records.{Offer, all_zero}
use Rattle.gp_ring.specs.PlainRing.{PlainRing, Piece, Seen, piece_for, loss_piece, emitted, without_loss, with_first_loss, with_one_more, with_nothing, is_kept, is_ahead, is_unchanged, found, with_found, without_batch}
use Rattle.gp_ring.specs.Calls.{History, Write, Close, Look, Act, act_on}
use Rattle.gp_cpu.specs.BatchLaw.{IsWhole, PiecesStayWhole}

abbrev AreWhole : List Piece → Type 0
AreWhole pieces = AllByRecursion IsWhole pieces

whole_append : (xs ys : List Piece) → AreWhole xs → AreWhole ys → AreWhole (xs ++ ys)
whole_append [] ys p q = q
whole_append (x ∷ xs) ys p q = (p.0, whole_append xs ys p.1 q)

whole_drop : (n : ℕ) (xs : List Piece) → AreWhole xs → AreWhole (drop n xs)
whole_drop zero xs p = p
whole_drop (suc n) [] p = tt
whole_drop (suc n) (x ∷ xs) p = whole_drop n xs p.1

-- what is spelled with one header word is whole, if a header of 0 has one word of stack
whole_spelled : (tag time : ℕ) (header stack : List ℕ) → length header ≡ 1 → (all_zero header ≡ true → length stack ≡ 1)
    → IsWhole (record { tag = tag; words = spelled time header stack })
whole_spelled tag time [] stack one loss = absurd (omega arith)
whole_spelled tag time (h ∷ []) stack one loss = record {
  begins = record {
    whole = record { begins = omega arith; ends = omega arith };
    loss = λ is_zero. let one_word = loss (ap (λ (b : Bool). b && true) (eq-eqb h 0 is_zero)) in omega (arith, one_word);
  };
  ends = omega arith;
}
whole_spelled tag time (h ∷ g ∷ header) stack one loss = absurd (omega arith)

module _ (ring : PlainRing) (offer : Offer) (whole : AreWhole ring.unread) (new : IsWhole (piece_for offer)) (loss : IsWhole (loss_piece ring)) where
  written_whole : (kept none : Bool) →
      AreWhole
      (with_nothing
      (if kept then (if none then emitted ring (piece_for offer) else emitted (emitted (without_loss ring) (loss_piece ring)) (piece_for offer))
      else (if none then with_first_loss ring offer.time else with_one_more ring))).unread
  written_whole true true = whole_append ring.unread (piece_for offer ∷ []) whole (new, tt)
  written_whole true false =
      whole_append (ring.unread ++ loss_piece ring ∷ []) (piece_for offer ∷ []) (whole_append ring.unread (loss_piece ring ∷ []) whole (loss, tt)) (new, tt)
  written_whole false true = whole
  written_whole false false = whole

acted_whole : (ring : PlainRing) (seen : Seen) (ahead lost : Bool) → AreWhole ring.unread →
    AreWhole (with_found (if ahead then without_batch ring seen else if lost then without_loss ring else ring) (found ring seen)).unread
acted_whole ring seen true lost whole = whole_drop (seen.tags - ring.read_tags) ring.unread whole
acted_whole ring seen false true whole = whole
acted_whole ring seen false false whole = whole

act_whole : (history : History) (seen : Option Seen) → AreWhole history.ring.unread → AreWhole (act_on history seen).ring.unread
act_whole history None whole = whole
act_whole history (Some seen) whole =
    acted_whole history.ring seen (is_ahead history.ring seen) (nat_lt 0 seen.pending && is_unchanged history.ring seen) whole

pub pieces_stay_whole : PiecesStayWhole
pieces_stay_whole history (Write offer) one may whole =
    let header : length offer.header ≡ 1 = may.1.header_size ∙ one in
    let new = whole_spelled offer.tag offer.time offer.header offer.stack header (λ all. absurd (true≢false (sym all ∙ may.1.header_tells))) in
    let loss : IsWhole (loss_piece history.ring) =
    subst (λ (n : ℕ). IsWhole (record { tag = 0; words = spelled history.ring.since (replicate n 0) (history.ring.pending ∷ []) })) (sym one)
    (whole_spelled 0 history.ring.since (0 ∷ []) (history.ring.pending ∷ []) refl (λ all. refl)) in
    written_whole history.ring offer whole new loss (is_kept history.ring offer) (history.ring.pending == 0)
pieces_stay_whole history Close one may whole = whole
pieces_stay_whole history Look one may whole = whole
pieces_stay_whole history Act one may whole = act_whole history history.ring.seen whole
