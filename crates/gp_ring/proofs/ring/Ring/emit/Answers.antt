use Rattle.std.proofs.Common.{◌≡◌, ℕ, ◌%◌, List, ap, sym, subst, ◌∙◌, length}
use Rattle.std.specs.Prelude.{slice_set}
use Rattle.gp_layout.specs.Words.{words_of, tags_of}
use Rattle.gp_layout.specs.Spelling.{spelled, size_of}
use Rattle.gp_ring.specs.PlainRing.{PlainRing, emitted, with_nothing}
use Rattle.gp_ring.specs.kept.Slots.{put_at, IsRaised}
use Rattle.gp_ring.proofs.Keeping.{CanEmit, whole, emit-kept, emit-ring}
use Rattle.gp_ring.proofs.ring.Ring.emit.Goals as goal

pub invariant_of-self : goal.invariant_of-self
invariant_of-self c =
    let x = c.self.inside in
    let s = c.emit_record-self-inside in
    let words = spelled c.args.time c.args.header.now c.args.stack.now in
    let can : CanEmit _ c.args.header.now c.args.stack.now = subst (λ (v : PlainRing). CanEmit v c.args.header.now c.args.stack.now) (sym c.self.view_is)
    (record { header_size = c.requires.header_size; free = c.requires.free; room = c.requires.room }) in
    let up = subst (λ (xs : List ℕ). IsRaised x.w s.result (length xs) (size_of (length c.args.header.now) (length c.args.stack.now))) c.deref_mut.ensures.value s.ensures.w in
    let e = subst (λ (xs : List ℕ). s.new.slots ≡ put_at (length xs) (words_of x.w % length xs) words xs) c.deref_mut.ensures.value s.ensures.slots in
    let f = subst (λ (xs : List ℕ). s.new.tags ≡ slice_set xs (tags_of x.w % length xs) c.args.tag) c.deref_mut-2.ensures.value s.ensures.tags in
    emit-kept x.hdrsize x.slots.items x.tags.items x.batch.items x.batch_tags.items x.zeros.items x.r x.w x.overflow x.overflow_time x.ended x.seen x.hand _ c.self.invariant
    s.result c.args.tag c.args.time c.args.header.now c.args.stack.now _ _ can up
    (whole x.slots.len x.slots.items s.new.slots _ (ap length (sym c.deref_mut.ensures.value) ∙ c.deref_mut.ensures.len) (s.auto.slots ∙ ap length c.deref_mut.ensures.value) e)
    (whole x.tags.len x.tags.items s.new.tags _ (ap length (sym c.deref_mut-2.ensures.value) ∙ c.deref_mut-2.ensures.len) (s.auto.tags ∙ ap length c.deref_mut-2.ensures.value) f)

pub returns : goal.returns
returns c =
    let x = c.self.inside in
    let s = c.emit_record-self-inside in
    let words = spelled c.args.time c.args.header.now c.args.stack.now in
    let can : CanEmit _ c.args.header.now c.args.stack.now = subst (λ (v : PlainRing). CanEmit v c.args.header.now c.args.stack.now) (sym c.self.view_is)
    (record { header_size = c.requires.header_size; free = c.requires.free; room = c.requires.room }) in
    let up = subst (λ (xs : List ℕ). IsRaised x.w s.result (length xs) (size_of (length c.args.header.now) (length c.args.stack.now))) c.deref_mut.ensures.value s.ensures.w in
    let e = subst (λ (xs : List ℕ). s.new.slots ≡ put_at (length xs) (words_of x.w % length xs) words xs) c.deref_mut.ensures.value s.ensures.slots in
    let f = subst (λ (xs : List ℕ). s.new.tags ≡ slice_set xs (tags_of x.w % length xs) c.args.tag) c.deref_mut-2.ensures.value s.ensures.tags in
    emit-ring x.hdrsize x.slots.items x.tags.items x.batch.items x.batch_tags.items x.zeros.items x.r x.w x.overflow x.overflow_time x.ended x.seen x.hand _ c.self.invariant
    s.result c.args.tag c.args.time c.args.header.now c.args.stack.now _ _ can up
    (whole x.slots.len x.slots.items s.new.slots _ (ap length (sym c.deref_mut.ensures.value) ∙ c.deref_mut.ensures.len) (s.auto.slots ∙ ap length c.deref_mut.ensures.value) e)
    (whole x.tags.len x.tags.items s.new.tags _ (ap length (sym c.deref_mut-2.ensures.value) ∙ c.deref_mut-2.ensures.len) (s.auto.tags ∙ ap length c.deref_mut-2.ensures.value) f)
    ∙ ap (λ (v : PlainRing). with_nothing (emitted v (record { tag = c.args.tag; words = words }))) c.self.view_is
