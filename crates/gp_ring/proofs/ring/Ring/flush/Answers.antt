use Rattle.std.proofs.Common.{◌≡◌, ℕ, ◌+◌, ◌%◌, ◌≤◌, ◌<◌, List, [], ◌∷◌, ap, sym, subst, ◌∙◌, length, replicate, take, drop, ◌++◌}
use Rattle.std.specs.Prelude.{slice_set}
use Rattle.gp_layout.specs.Words.{words_of, tags_of}
use Rattle.gp_layout.specs.Place.{raise_of}
use Rattle.gp_layout.specs.Spelling.{spelled, size_of, loss_size}
use Rattle.gp_ring.specs.PlainRing.{PlainRing, Nothing, emitted, with_nothing, without_loss, loss_piece}
use Rattle.gp_ring.specs.kept.Slots.{put_at, IsRaised}
use Rattle.gp_ring.specs.kept.Fields.{ring_of, found_of}
use Rattle.gp_ring.proofs.Keeping.{CanEmit, flush-can, whole, emit-kept, emit-ring, kept-taken}
use Rattle.gp_ring.proofs.Spelled.{length-zeros}
use Rattle.gp_ring.proofs.Writing.{taken-ring}
use Rattle.gp_ring.proofs.ring.Ring.flush.Goals as goal

pub invariant_of-self : goal.invariant_of-self
invariant_of-self c =
    let x = c.self.inside in
    let s = c.emit_record-self-inside in
    let header = c.deref.result.now in
    let stack : List ℕ = c.count_of.result ∷ [] in
    let words = spelled x.overflow_time header stack in
    let zeros : header ≡ replicate x.hdrsize 0 = c.deref.ensures.value ∙ c.self.invariant.sized.header_zeros in
    let hlen : length header ≡ x.hdrsize = ap length zeros ∙ length-zeros x.hdrsize in
    let old = ring_of x.hdrsize x.slots.items x.tags.items x.r x.w x.overflow x.overflow_time x.ended x.seen (found_of x.slots.items x.batch.items x.tags.items x.batch_tags.items x.hand) in
    let can : CanEmit old header stack = flush-can old header c.count_of.result hlen
    (subst (λ (v : PlainRing). v.written_tags < v.read_tags + v.tags) (sym c.self.view_is) c.requires.free)
    (subst (λ (v : PlainRing). v.written_words + raise_of (v.written_words % v.len) v.len (loss_size v.hdrsize) ≤ v.read_words + v.len) (sym c.self.view_is) c.requires.room) in
    let up = subst (λ (xs : List ℕ). IsRaised x.w s.result (length xs) (size_of (length header) (length stack))) c.deref_mut.ensures.value s.ensures.w in
    let e = subst (λ (xs : List ℕ). s.new.slots ≡ put_at (length xs) (words_of x.w % length xs) words xs) c.deref_mut.ensures.value s.ensures.slots in
    let f = subst (λ (xs : List ℕ). s.new.tags ≡ slice_set xs (tags_of x.w % length xs) 0) c.deref_mut-2.ensures.value s.ensures.tags in
    kept-taken _ _ _ _ _ _ _ _ x.overflow _ _ _ (emit-kept x.hdrsize x.slots.items x.tags.items x.batch.items x.batch_tags.items x.zeros.items x.r x.w x.overflow x.overflow_time x.ended x.seen x.hand
    (found_of x.slots.items x.batch.items x.tags.items x.batch_tags.items x.hand) c.self.invariant
    s.result 0 x.overflow_time header stack _ _ can up
    (whole x.slots.len x.slots.items s.new.slots _ (ap length (sym c.deref_mut.ensures.value) ∙ c.deref_mut.ensures.len) (s.auto.slots ∙ ap length c.deref_mut.ensures.value) e)
    (whole x.tags.len x.tags.items s.new.tags _ (ap length (sym c.deref_mut-2.ensures.value) ∙ c.deref_mut-2.ensures.len) (s.auto.tags ∙ ap length c.deref_mut-2.ensures.value) f)) c.taken-self-inside.ensures.count

pub returns : goal.returns
returns c =
    let x = c.self.inside in
    let s = c.emit_record-self-inside in
    let header = c.deref.result.now in
    let stack : List ℕ = c.count_of.result ∷ [] in
    let words = spelled x.overflow_time header stack in
    let zeros : header ≡ replicate x.hdrsize 0 = c.deref.ensures.value ∙ c.self.invariant.sized.header_zeros in
    let hlen : length header ≡ x.hdrsize = ap length zeros ∙ length-zeros x.hdrsize in
    let old = ring_of x.hdrsize x.slots.items x.tags.items x.r x.w x.overflow x.overflow_time x.ended x.seen (found_of x.slots.items x.batch.items x.tags.items x.batch_tags.items x.hand) in
    let can : CanEmit old header stack = flush-can old header c.count_of.result hlen
    (subst (λ (v : PlainRing). v.written_tags < v.read_tags + v.tags) (sym c.self.view_is) c.requires.free)
    (subst (λ (v : PlainRing). v.written_words + raise_of (v.written_words % v.len) v.len (loss_size v.hdrsize) ≤ v.read_words + v.len) (sym c.self.view_is) c.requires.room) in
    let up = subst (λ (xs : List ℕ). IsRaised x.w s.result (length xs) (size_of (length header) (length stack))) c.deref_mut.ensures.value s.ensures.w in
    let e = subst (λ (xs : List ℕ). s.new.slots ≡ put_at (length xs) (words_of x.w % length xs) words xs) c.deref_mut.ensures.value s.ensures.slots in
    let f = subst (λ (xs : List ℕ). s.new.tags ≡ slice_set xs (tags_of x.w % length xs) 0) c.deref_mut-2.ensures.value s.ensures.tags in
    let emitting = emit-ring x.hdrsize x.slots.items x.tags.items x.batch.items x.batch_tags.items x.zeros.items x.r x.w x.overflow x.overflow_time x.ended x.seen x.hand
    (found_of x.slots.items x.batch.items x.tags.items x.batch_tags.items x.hand) c.self.invariant
    s.result 0 x.overflow_time header stack _ _ can up
    (whole x.slots.len x.slots.items s.new.slots _ (ap length (sym c.deref_mut.ensures.value) ∙ c.deref_mut.ensures.len) (s.auto.slots ∙ ap length c.deref_mut.ensures.value) e)
    (whole x.tags.len x.tags.items s.new.tags _ (ap length (sym c.deref_mut-2.ensures.value) ∙ c.deref_mut-2.ensures.len) (s.auto.tags ∙ ap length c.deref_mut-2.ensures.value) f)
    in
    let o2 = c.taken-self-inside.result in
    let fin = ring_of x.hdrsize (take x.slots.len (s.new.slots ++ drop (length s.new.slots) x.slots.items)) (take x.tags.len (s.new.tags ++ drop (length s.new.tags) x.tags.items)) x.r s.result x.overflow x.overflow_time x.ended x.seen Nothing in
    let piece : spelled x.overflow_time header stack ≡ spelled x.overflow_time (replicate x.hdrsize 0) (old.pending ∷ []) =
    ap (λ (h : List ℕ). spelled x.overflow_time h stack) zeros ∙ ap (λ (n : ℕ). spelled x.overflow_time (replicate x.hdrsize 0) (n ∷ [])) c.count_of.ensures in
    taken-ring x.hdrsize (take x.slots.len (s.new.slots ++ drop (length s.new.slots) x.slots.items))
    (take x.tags.len (s.new.tags ++ drop (length s.new.tags) x.tags.items)) x.r s.result x.overflow x.overflow_time x.ended x.seen Nothing o2 c.taken-self-inside.ensures.count c.taken-self-inside.ensures.change
    ∙ ap without_loss emitting
    ∙ ap (λ (ws : List ℕ). with_nothing (emitted (without_loss old) (record { tag = 0; words = ws }))) piece
    ∙ ap (λ (v : PlainRing). with_nothing (emitted (without_loss v) (loss_piece v))) c.self.view_is
