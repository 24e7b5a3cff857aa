-- What a write leaves, branch by branch.
use Rattle.std.proofs.Common.{◌≡◌, Bool, true, false, ap, ◌∙◌}
use Rattle.std.specs.Prelude.{◌==◌, if◌then◌else◌}
use Rattle.gp_layout.specs.Words.{counts_word, overflow_word}
use Rattle.gp_ring.specs.Records.{Offer}
use Rattle.gp_ring.specs.PlainRing.{PlainRing, written, wrote, emitted, piece_for, loss_piece, with_nothing, without_loss, with_first_loss, with_one_more, has_room, has_room_behind_loss}
use Rattle.gp_ring.specs.declared.wrote.Wrote.TheVariants.{Kept, Lost}

choose : {A : Type 0} → Bool → Bool → Bool → A → A → A → A → A
choose z a b x y u v = if (if z then a else b) then (if z then x else y) else (if z then u else v)

both : {A : Type 0} (z a b : Bool) (x y u v : A) (p q : Bool) → z ≡ p → (if p then a else b) ≡ q → choose z a b x y u v ≡ (if q then (if p then x else y) else (if p then u else v))
unfolding choose
both z a b x y u v p q e f =
    ap (λ (k : Bool). if (if k then a else b) then (if k then x else y) else (if k then u else v)) e
    ∙ ap (λ (k : Bool). if k then (if p then x else y) else (if p then u else v)) f

module _ (ring : PlainRing) (offer : Offer) where
  after : (p q : Bool) → (ring.pending == 0) ≡ p → (if p then has_room ring offer else has_room_behind_loss ring offer) ≡ q
      → written ring offer ≡ with_nothing (if q then (if p then emitted ring (piece_for offer) else emitted (emitted (without_loss ring) (loss_piece ring)) (piece_for offer)) else (if p then with_first_loss ring offer.time else with_one_more ring))
  unfolding choose
  after p q e f = ap with_nothing (both (ring.pending == 0) (has_room ring offer) (has_room_behind_loss ring offer)
      (emitted ring (piece_for offer)) (emitted (emitted (without_loss ring) (loss_piece ring)) (piece_for offer)) (with_first_loss ring offer.time) (with_one_more ring) p q e f)

  answer : (p q : Bool) → (ring.pending == 0) ≡ p → (if p then has_room ring offer else has_room_behind_loss ring offer) ≡ q
      → wrote ring offer ≡ (if q then Kept ring.pending else Lost (counts_word ring.read_words ring.read_tags) (overflow_word ring.change ring.pending))
  answer p q e f =
      ap (λ (k : Bool). if (if k then has_room ring offer else has_room_behind_loss ring offer) then Kept ring.pending else Lost (counts_word ring.read_words ring.read_tags) (overflow_word ring.change ring.pending)) e
      ∙ ap (λ (k : Bool). if k then Kept ring.pending else Lost (counts_word ring.read_words ring.read_tags) (overflow_word ring.change ring.pending)) f

  pub written-kept : (ring.pending == 0) ≡ true → has_room ring offer ≡ true → written ring offer ≡ with_nothing (emitted ring (piece_for offer))
  written-kept e f = after true true e f

  pub written-lost : (ring.pending == 0) ≡ true → has_room ring offer ≡ false → written ring offer ≡ with_nothing (with_first_loss ring offer.time)
  written-lost e f = after true false e f

  pub written-flushed : (ring.pending == 0) ≡ false → has_room_behind_loss ring offer ≡ true → written ring offer ≡ with_nothing (emitted (emitted (without_loss ring) (loss_piece ring)) (piece_for offer))
  written-flushed e f = after false true e f

  pub written-counted : (ring.pending == 0) ≡ false → has_room_behind_loss ring offer ≡ false → written ring offer ≡ with_nothing (with_one_more ring)
  written-counted e f = after false false e f

  pub wrote-kept : (ring.pending == 0) ≡ true → has_room ring offer ≡ true → wrote ring offer ≡ Kept ring.pending
  wrote-kept e f = answer true true e f

  pub wrote-lost : (ring.pending == 0) ≡ true → has_room ring offer ≡ false → wrote ring offer ≡ Lost (counts_word ring.read_words ring.read_tags) (overflow_word ring.change ring.pending)
  wrote-lost e f = answer true false e f

  pub wrote-flushed : (ring.pending == 0) ≡ false → has_room_behind_loss ring offer ≡ true → wrote ring offer ≡ Kept ring.pending
  wrote-flushed e f = answer false true e f

  pub wrote-counted : (ring.pending == 0) ≡ false → has_room_behind_loss ring offer ≡ false → wrote ring offer ≡ Lost (counts_word ring.read_words ring.read_tags) (overflow_word ring.change ring.pending)
  wrote-counted e f = answer false false e f
