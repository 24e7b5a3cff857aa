-- What the words of an offer and of a loss spell, and by how much a record raises the data count.
use Rattle.std.proofs.Common.{◌≡◌, ℕ, ◌+◌, ◌-◌, ◌*◌, ◌<◌, ◌≤◌, Bool, true, false, List, [], ◌∷◌, ◌++◌, length, take, drop, replicate, refl, ap, sym, ◌∙◌, arith, length-append, zero, suc}
use Rattle.std.specs.Prelude.{nat_lt, slice_index, if◌then◌else◌}
use Rattle.std.proofs.Math.Seq.{take-append_seam, drop-append_seam}
use Rattle.std.proofs.lemmas.Bool.Decides.{nat_tests}
use Rattle.gp_layout.specs.Place.{raise_of}
use Rattle.gp_layout.specs.Spelling.{size_of, loss_size}
use Rattle.gp_ring.specs.Records.{Offer, RingRecord, Sample, Loss, all_zero, words_for, IsOffer}
use Rattle.gp_ring.specs.PlainRing.{PlainRing, record_in, record_of, piece_for, loss_piece}

take_front : (h : ℕ) (xs ys : List ℕ) → length xs ≡ h → take h (xs ++ ys) ≡ xs
take_front h xs ys e = ap (λ (k : ℕ). take k (xs ++ ys)) (sym e) ∙ take-append_seam xs ys

drop_front : (h : ℕ) (xs ys : List ℕ) → length xs ≡ h → drop h (xs ++ ys) ≡ ys
drop_front h xs ys e = ap (λ (k : ℕ). drop k (xs ++ ys)) (sym e) ∙ drop-append_seam xs ys

-- by the header and the stack that it has
spelled_record : (tag time : ℕ) (header stack : List ℕ) → RingRecord
spelled_record tag time header stack = if all_zero header then Loss (slice_index stack 0) time else Sample (record { time = time; tag = tag; header = header; stack = stack })

in_parts : (h tag size time : ℕ) (header stack : List ℕ) → length header ≡ h → record_in h tag (size ∷ time ∷ header ++ stack) ≡ spelled_record tag time header stack
unfolding spelled_record
in_parts h tag size time header stack e =
    ap (λ (xs : List ℕ). spelled_record tag time xs (drop h (header ++ stack))) (take_front h header stack e)
    ∙ ap (λ (xs : List ℕ). spelled_record tag time header xs) (drop_front h header stack e)

pub record-offer : (h len : ℕ) (o : Offer) → IsOffer h len o → record_of h (piece_for o) ≡ Sample o
unfolding spelled_record
record-offer h len o i =
    in_parts h o.tag (size_of (length o.header) (length o.stack)) o.time o.header o.stack i.header_size
    ∙ ap (λ (b : Bool). if b then Loss (slice_index o.stack 0) o.time else Sample o) i.header_tells

zeros : (h : ℕ) → all_zero (replicate h 0) ≡ true
zeros zero = refl
zeros (suc h) = zeros h

pub length-zeros : (h : ℕ) → length (replicate {A = ℕ} h 0) ≡ h
length-zeros zero = refl
length-zeros (suc h) = ap suc (length-zeros h)

pub record-loss : (ring : PlainRing) → record_of ring.hdrsize (loss_piece ring) ≡ Loss ring.pending ring.since
unfolding spelled_record
record-loss ring =
    in_parts ring.hdrsize 0 (size_of (length (replicate {A = ℕ} ring.hdrsize 0)) 1) ring.since (replicate ring.hdrsize 0) (ring.pending ∷ []) (length-zeros ring.hdrsize)
    ∙ ap (λ (b : Bool). if b then Loss ring.pending ring.since else Sample (record { time = ring.since; tag = 0; header = replicate ring.hdrsize 0; stack = ring.pending ∷ [] })) (zeros ring.hdrsize)

pub length-offer : (h len : ℕ) (o : Offer) → IsOffer h len o → length (piece_for o).words ≡ words_for h o
length-offer h len o i = let e : length o.header ≡ h = i.header_size in let a = length-append o.header o.stack in omega arith

pub length-loss : (ring : PlainRing) → length (loss_piece ring).words ≡ loss_size ring.hdrsize
length-loss ring = let e = length-zeros ring.hdrsize in let a = length-append (replicate ring.hdrsize 0) (ring.pending ∷ []) in omega arith

lt_true : (a b : ℕ) → nat_lt a b ≡ true → a < b
lt_true a b h = grind (arith, nat_tests)

pub raise-le : (at len need : ℕ) → raise_of at len need ≤ 2 * need
raise-le at len need = elim (nat_lt len (at + need)) as (λ (b : Bool). nat_lt len (at + need) ≡ b → (if b then len - at else 0) + need ≤ 2 * need) [
  | true ↦ λ e. (let h : len < at + need = lt_true len (at + need) e in omega arith)
  | false ↦ λ e. omega arith
] refl
