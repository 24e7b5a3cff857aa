use Rattle.std.proofs.Common.{◌≡◌, ℕ, ◌+◌, ◌%◌, ◌≤◌, true, ap, sym, subst, length, rules}
use Rattle.gp_layout.specs.Place.{raise_of}
use Rattle.gp_layout.specs.Spelling.{size_of}
use Rattle.gp_ring.specs.Records.{words_for}
use Rattle.gp_ring.specs.PlainRing.{PlainRing, emitted, without_loss, loss_piece, with_nothing, has_room_behind_loss}
use Rattle.gp_ring.specs.Offered.{offer_of}
use Rattle.gp_ring.proofs.Writing.{spelled-order, room-behind}
use Rattle.gp_ring.proofs.ring.Ring.write_behind.Goals as goal

pub room_two-requires-clause-words_before : goal.room_two-requires-clause-words_before
room_two-requires-clause-words_before c = spelled-order _ _ _ _ _ c.self.invariant.spelled

pub emit-requires-clause-room : goal.emit-requires-clause-room
emit-requires-clause-room c =
    let now = c.args.self.now in
    let o = offer_of c.args.tag c.args.now c.args.header.now c.args.stack.now in
    let order : now.read_words ≤ now.written_words = subst (λ (v : PlainRing). v.read_words ≤ v.written_words) c.self.view_is (spelled-order _ _ _ _ _ c.self.invariant.spelled) in
    let t : has_room_behind_loss now o ≡ true = search rules in
    let mid = with_nothing (emitted (without_loss now) (loss_piece now)) in
    let r = subst (λ (n : ℕ). mid.written_words + raise_of (mid.written_words % mid.len) mid.len n ≤ mid.read_words + mid.len)
    (ap (λ (h : ℕ). size_of h (length c.args.stack.now)) (sym c.requires.fit.offer_fits.header_size)) (room-behind now (words_for now.hdrsize o) order t) in
    subst (λ (v : PlainRing). v.written_words + raise_of (v.written_words % v.len) v.len (size_of (length c.args.header.now) (length c.args.stack.now)) ≤ v.read_words + v.len) (sym c.flush.ensures) r
