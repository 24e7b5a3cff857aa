-- What the branches of a write need.
use Rattle.std.proofs.Common.{◌≡◌, ℕ, ◌+◌, ◌-◌, ◌%◌, ◌≤◌, Bool, true, List, [], ◌∷◌, ◌++◌, length, Option, ap, sym, subst, ◌∙◌, arith, append-nil}
use Rattle.std.specs.Prelude.{nat_le}
use Rattle.std.proofs.Math.Nat.{mod-add-mod}
use Rattle.std.proofs.lemmas.Bool.{and_parts}
use Rattle.std.proofs.lemmas.Bool.Decides.{nat_tests}
use Rattle.gp_layout.specs.Words.{words_of, tags_of, count_of, change_of}
use Rattle.gp_layout.specs.Place.{raise_of, after_of}
use Rattle.gp_layout.specs.Room.{room_for_two}
use Rattle.gp_layout.specs.Spelling.{loss_size}
use Rattle.gp_ring.specs.Records.{Offer, RingRecord}
use Rattle.gp_ring.specs.PlainRing.{PlainRing, Found, emitted, without_loss, loss_piece, with_nothing, written}
use Rattle.gp_ring.specs.Follows.{Follows, IsOfferable}
use Rattle.gp_ring.specs.Offered.{GoesOn}
use Rattle.gp_ring.specs.declared.hand.Look.{Look}
use Rattle.gp_ring.specs.kept.Fields.{ring_of, IsSpelled}
use Rattle.gp_ring.proofs.Lying.{lie-order}
use Rattle.gp_ring.proofs.Spelled.{length-loss}
use Rattle.gp_ring.proofs.Following.{write-follows}

pub spelled-order : (h : ℕ) (slots tags : List ℕ) (r w : ℕ) → IsSpelled h slots tags r w → words_of r ≤ words_of w
spelled-order h slots tags r w k = lie-order slots (length slots) h (tags_of w - tags_of r) (words_of r) (words_of w) k.lie

pub write-goes : (old new : PlainRing) (o : Offer) → IsOfferable old o → new ≡ written old o → GoesOn old new (o ∷ []) []
write-goes old new o i e os rs f =
    subst (λ (x : PlainRing). Follows (os ++ o ∷ []) (rs ++ []) x) (sym e)
    (subst (λ (xs : List RingRecord). Follows (os ++ o ∷ []) xs (written old o)) (sym (append-nil rs)) (write-follows os rs old o f i.3.open_ring i.3.offer_fits))

pub taken-ring : (h : ℕ) (slots tags : List ℕ) (r w overflow since : ℕ) (ended : Bool) (seen : Option Look) (found : Found) (o2 : ℕ) → count_of o2 ≡ 0 → change_of o2 ≡ change_of overflow + 1
    → ring_of h slots tags r w o2 since ended seen found ≡ without_loss (ring_of h slots tags r w overflow since ended seen found)
taken-ring h slots tags r w overflow since ended seen found o2 a b =
    let base = ring_of h slots tags r w overflow since ended seen found in
    ap (λ (p : ℕ). record base { pending = p; change = change_of o2 }) a ∙ ap (λ (p : ℕ). record base { pending = 0; change = p }) b

le_true : (a b : ℕ) → nat_le a b ≡ true → a ≤ b
le_true a b h = grind (arith, nat_tests)

-- where there is room for both there is room for the second behind the first
pub room-behind : (ring : PlainRing) (need : ℕ) → ring.read_words ≤ ring.written_words
    → room_for_two ring.len ring.tags (ring.written_words - ring.read_words) (ring.written_tags - ring.read_tags) (ring.written_words % ring.len) (loss_size ring.hdrsize) need ≡ true
    → let mid = with_nothing (emitted (without_loss ring) (loss_piece ring)) in mid.written_words + raise_of (mid.written_words % mid.len) mid.len need ≤ mid.read_words + mid.len
room-behind ring need o t =
    let at = ring.written_words % ring.len in
    let p = and_parts (nat_le ((ring.written_tags - ring.read_tags) + 2) ring.tags)
    (nat_le ((ring.written_words - ring.read_words) + raise_of at ring.len (loss_size ring.hdrsize) + raise_of (after_of at ring.len (loss_size ring.hdrsize)) ring.len need) ring.len) t in
    let q : (ring.written_words - ring.read_words) + raise_of (ring.written_words % ring.len) ring.len (loss_size ring.hdrsize) + raise_of (after_of (ring.written_words % ring.len) ring.len (loss_size ring.hdrsize)) ring.len need ≤ ring.len =
    le_true _ _ p.1 in
    let same : after_of (ring.written_words % ring.len) ring.len (loss_size ring.hdrsize) ≡ (ring.written_words + raise_of (ring.written_words % ring.len) ring.len (loss_size ring.hdrsize)) % ring.len =
    mod-add-mod ring.written_words ring.len (raise_of (ring.written_words % ring.len) ring.len (loss_size ring.hdrsize)) in
    let r = ap (λ (a : ℕ). raise_of a ring.len need) same in
    let goal : (ring.written_words + raise_of (ring.written_words % ring.len) ring.len (loss_size ring.hdrsize))
    + raise_of ((ring.written_words + raise_of (ring.written_words % ring.len) ring.len (loss_size ring.hdrsize)) % ring.len) ring.len need ≤ ring.read_words + ring.len =
    omega arith in
    subst (λ (n : ℕ). (ring.written_words + raise_of (ring.written_words % ring.len) ring.len n) + raise_of ((ring.written_words + raise_of (ring.written_words % ring.len) ring.len n) % ring.len) ring.len need ≤ ring.read_words + ring.len)
    (sym (length-loss ring)) goal
