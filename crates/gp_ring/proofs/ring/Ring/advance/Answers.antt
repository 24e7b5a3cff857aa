use Rattle.std.proofs.Common.{◌≡◌, ℕ, ◌-◌, ◌≤◌, List, ap, sym, subst, refl, ◌∙◌, length, arith}
use Rattle.gp_layout.specs.Words.{words_of, tags_of}
use Rattle.gp_ring.specs.PlainRing.{acted}
use Rattle.gp_ring.specs.kept.Slots.{tags_at}
use Rattle.gp_ring.specs.kept.Fields.{words_in, IsWithin}
use Rattle.gp_ring.specs.kept.Batch.{in_order}
use Rattle.gp_ring.proofs.Keeping.{whole}
use Rattle.gp_ring.proofs.Acting.{look-order, batch-kept, batch-ring}
use Rattle.gp_ring.proofs.ring.Ring.advance.Goals as goal

pub gather-words-requires-clause-order : goal.gather-words-requires-clause-order
gather-words-requires-clause-order c =
    let x = c.self.inside in
    let o : words_of x.r ≤ words_of c.in-Some.look.w =
    look-order x.hdrsize x.slots.items x.tags.items x.batch.items x.batch_tags.items x.zeros.items x.r x.w x.overflow x.overflow_time x.ended x.seen x.hand c.args.self.now.hand c.self.invariant c.in-Some.look c.in-Some.is in
    omega (arith, c.words_of-from.ensures, c.words_of-to.ensures)

pub invariant_of-self : goal.invariant_of-self
invariant_of-self c =
    let x = c.self.inside in
    let g = c.gather-words in
    let t = c.gather_tags-tags in
    let ds = c.deref in
    let dt = c.deref-then-records-gt0 in
    let bs = c.deref_mut in
    let bt = c.deref_mut-then-records-gt0 in
    let a1 : length g.new.copy ≡ length x.batch.items = g.ensures.copy ∙ ap length bs.ensures.value in
    let a2 : length t.new.copy ≡ length x.batch_tags.items = t.ensures.copy ∙ ap length bt.ensures.value in
    batch-kept x.hdrsize x.slots.items x.tags.items x.batch.items x.batch_tags.items x.zeros.items x.r x.w x.overflow x.overflow_time x.ended x.seen x.hand c.args.self.now.hand c.self.invariant c.in-Some.look c.in-Some.is
    _ _ g.new.copy t.new.copy g.result t.result
    (whole x.batch.len x.batch.items g.new.copy g.new.copy (ap length (sym bs.ensures.value) ∙ bs.ensures.len) a1 refl)
    (whole x.batch_tags.len x.batch_tags.items t.new.copy t.new.copy (ap length (sym bt.ensures.value) ∙ bt.ensures.len) a2 refl)
    (a1 ∙ c.self.invariant.sized.batch_size) (a2 ∙ c.self.invariant.sized.batch_tags_size)
    g.ensures.order (subst (λ (xs : List ℕ). IsWithin g.result xs g.new.copy) ds.ensures.value g.ensures.within)
    t.ensures.order (subst (λ (xs : List ℕ). IsWithin t.result xs t.new.copy) dt.ensures.value t.ensures.within)

pub returns-then-records-gt0 : goal.returns-then-records-gt0
returns-then-records-gt0 c =
    let x = c.self.inside in
    let g = c.gather-words in
    let t = c.gather_tags-tags in
    let ds = c.deref in
    let dt = c.deref-then-records-gt0 in
    let bs = c.deref_mut in
    let bt = c.deref_mut-then-records-gt0 in
    let a1 : length g.new.copy ≡ length x.batch.items = g.ensures.copy ∙ ap length bs.ensures.value in
    let a2 : length t.new.copy ≡ length x.batch_tags.items = t.ensures.copy ∙ ap length bt.ensures.value in
    let w1 = whole x.batch.len x.batch.items g.new.copy g.new.copy (ap length (sym bs.ensures.value) ∙ bs.ensures.len) a1 refl in
    let w2 = whole x.batch_tags.len x.batch_tags.items t.new.copy t.new.copy (ap length (sym bt.ensures.value) ∙ bt.ensures.len) a2 refl in
    let n = c.tags_of.result - c.tags_of-2.result in
    let en : n ≡ tags_of c.in-Some.look.w - tags_of x.r = omega (arith, c.tags_of.ensures, c.tags_of-2.ensures) in
    let e1 = subst (λ (xs : List ℕ). words_in g.result xs g.new.copy ≡ in_order xs n c.words_of-from.result) ds.ensures.value g.ensures.words in
    let e2 = subst (λ (xs : List ℕ). words_in t.result xs t.new.copy ≡ tags_at xs (length xs) n c.tags_of-then-records-gt0.result) dt.ensures.value t.ensures.words in
    batch-ring x.hdrsize x.slots.items x.tags.items x.batch.items x.batch_tags.items x.zeros.items x.r x.w x.overflow x.overflow_time x.ended x.seen x.hand _ c.self.invariant c.in-Some.look c.in-Some.is
    n c.words_of-from.result c.tags_of-then-records-gt0.result _ _ en c.words_of-from.ensures c.tags_of-then-records-gt0.ensures c.if-records-gt0.true
    (ap (words_in g.result x.slots.items) w1 ∙ e1) (ap (words_in t.result x.tags.items) w2 ∙ e2)
    ∙ ap acted c.self.view_is
