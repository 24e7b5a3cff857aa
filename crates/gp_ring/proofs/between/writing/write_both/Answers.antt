use Rattle.std.proofs.Common.{◌≡◌, ◌∙◌, ℕ, ◌+◌, ◌%◌, ◌≤◌, length, refl, ap, sym, subst, arith}
use Rattle.atomic_table.specs.Table.{Me}
use Rattle.gp_layout.specs.Place.{raise_of}
use Rattle.gp_layout.specs.Spelling.{size_of, loss_size}
use Rattle.gp_layout.specs.Words.{words_of}
use Rattle.gp_ring.specs.Offered.{offer_of}
use Rattle.gp_ring.specs.Counts.{behind_all}
use Rattle.gp_ring.specs.kept.Views.{with_draft, with_delivered, with_raced, with_exchange, with_owed, with_paid, owed_of}
use Rattle.gp_ring.specs.declared.between.view.View.{View}
use Rattle.gp_ring.proofs.Spelled.{raise-le}
use Rattle.gp_ring.proofs.Deciding.{words-fit, tags-fit, both-fit, offer-size, has-both, goes-writing, raced-ready, paid-ready, delivered-ready}
use Rattle.gp_ring.proofs.between.writing.write_both.Goals as goal

-- ---- the reader took the loss

pub emit_offer-pen-requires-clause-few_words : goal.emit_offer-pen-requires-clause-few_words
emit_offer-pen-requires-clause-few_words c = words-fit _ _ _ _ _ _ _ c.args.tag c.args.now c.args.header.now c.args.stack.now c.requires.deciding

pub emit_offer-pen-requires-clause-free : goal.emit_offer-pen-requires-clause-free
emit_offer-pen-requires-clause-free c =
    let d = c.requires.deciding in
    let e = c.exchange_flush.ensures.raced c.if-exchange_flush-overflow.true in
    let both = has-both _ _ _ _ _ _ _ c.args.tag c.args.now c.args.header.now c.args.stack.now c.requires.deciding c.requires.pending c.requires.room in
    let next : words_of c.args.pen.now.w ≡ c.exchange_flush.new.seat.me.0.writer.next = d.writing.ready.written_words ∙ sym d.writing.ready.next ∙ (λ i. (sym e i).0.writer.next) in
    let read : c.args.loaded.r ≡ c.exchange_flush.new.seat.me.0.writer.read = sym d.words_loaded.read ∙ (λ i. (sym e i).0.writer.read) in
    subst (λ (x : ℕ × ℕ). x.0 + raise_of (x.0 % c.args.sizes.len) c.args.sizes.len (size_of (length c.args.header.now) (length c.args.stack.now)) ≤ words_of x.1 + c.args.sizes.len) (λ i. (next i, read i)) both.alone

pub returns-then-exchange_flush-overflow-clause-writing : goal.returns-then-exchange_flush-overflow-clause-writing
returns-then-exchange_flush-overflow-clause-writing c =
    let d = c.requires.deciding in
    let e = c.exchange_flush.ensures.raced c.if-exchange_flush-overflow.true in
    let call = c.emit_offer-pen in
    let found = c.exchange_flush.result in
    let e2 = call.ensures.view ∙ (λ i. (with_delivered (with_draft (e i).0 (offer_of c.args.tag c.args.now c.args.header.now c.args.stack.now)) (offer_of c.args.tag c.args.now c.args.header.now c.args.stack.now), (e i).1)) in
    goes-writing _ _ _ c.args.seat.now.me c.emit_offer-pen.new.seat.me
    (with_delivered (with_draft (with_raced c.args.seat.now.me.0 c.exchange_flush.result) (offer_of c.args.tag c.args.now c.args.header.now c.args.stack.now)) (offer_of c.args.tag c.args.now c.args.header.now c.args.stack.now))
    c.args.sizes c.args.pen.now.w c.args.pen.now.since c.emit_offer-pen.result c.args.pen.now.since c.args.zeros.now d.writing (call.ensures.table ∙ c.exchange_flush.ensures.table) e2 refl refl refl refl
    (delivered-ready (with_raced c.args.seat.now.me.0 c.exchange_flush.result) c.args.pen.now.w c.args.pen.now.since c.emit_offer-pen.result c.args.sizes.len (size_of (length c.args.header.now) (length c.args.stack.now)) (offer_of c.args.tag c.args.now c.args.header.now c.args.stack.now) d.writing.seated.len_is
    (offer-size _ _ _ _ _ _ _ c.args.tag c.args.now c.args.header.now c.args.stack.now c.requires.deciding) call.ensures.w (raced-ready c.args.seat.now.me.0 c.args.pen.now.w c.args.pen.now.since c.exchange_flush.result d.writing.ready))

-- ---- the loss is the writer's

pub emit_loss-behind-requires-clause-few_words : goal.emit_loss-behind-requires-clause-few_words
emit_loss-behind-requires-clause-few_words c =
    let d = c.requires.deciding in
    let e = c.exchange_flush.ensures.won c.if-exchange_flush-overflow.false in
    let h = ap (λ (m : Me Unit View). m.0.hdrsize) e in
    let k = both-fit _ _ _ _ _ _ _ c.args.tag c.args.now c.args.header.now c.args.stack.now c.requires.deciding c.requires.pending in
    omega arith

pub emit_offer-pen-requires-2-clause-next : goal.emit_offer-pen-requires-2-clause-next
emit_offer-pen-requires-2-clause-next c =
    let d = c.requires.deciding in
    let e = c.exchange_flush.ensures.won c.if-exchange_flush-overflow.false in
    let call = c.emit_loss-behind in
    let e2 = call.ensures.view ∙ (λ i. (with_paid (with_draft (e i).0 (owed_of (e i).0)), (e i).1)) in
    let size : loss_size c.args.seat.now.me.0.hdrsize ≡ loss_size c.exchange_flush.new.seat.me.0.hdrsize = (λ i. loss_size (sym e i).0.hdrsize) in
    let ready = paid-ready c.args.seat.now.me.0 c.args.pen.now.w c.args.pen.now.since c.emit_loss-behind.result c.args.sizes.len (loss_size c.exchange_flush.new.seat.me.0.hdrsize) c.taken.result c.exchange_flush.result
    d.writing.seated.len_is size call.ensures.w d.writing.ready in
    subst (λ (m : Me Unit View). m.0.writer.next ≡ behind_all m.0.len 0 m.0.writer.records) (sym e2) ready.next

pub emit_offer-pen-requires-2-clause-few_words : goal.emit_offer-pen-requires-2-clause-few_words
emit_offer-pen-requires-2-clause-few_words c =
    let d = c.requires.deciding in
    let e = c.exchange_flush.ensures.won c.if-exchange_flush-overflow.false in
    let h = ap (λ (m : Me Unit View). m.0.hdrsize) e in
    let k = both-fit _ _ _ _ _ _ _ c.args.tag c.args.now c.args.header.now c.args.stack.now c.requires.deciding c.requires.pending in
    let up = c.emit_loss-behind.ensures.w.words in
    let r = raise-le (words_of c.args.pen.now.w % c.args.sizes.len) c.args.sizes.len (loss_size c.exchange_flush.new.seat.me.0.hdrsize) in
    omega arith

pub emit_offer-pen-requires-2-clause-few_tags : goal.emit_offer-pen-requires-2-clause-few_tags
emit_offer-pen-requires-2-clause-few_tags c =
    let k = tags-fit _ _ _ _ _ _ _ c.args.tag c.args.now c.args.header.now c.args.stack.now c.requires.deciding in
    let up = c.emit_loss-behind.ensures.w.tags in
    omega arith

pub emit_offer-pen-requires-2-clause-free : goal.emit_offer-pen-requires-2-clause-free
emit_offer-pen-requires-2-clause-free c =
    let d = c.requires.deciding in
    let e = c.exchange_flush.ensures.won c.if-exchange_flush-overflow.false in
    let call = c.emit_loss-behind in
    let e2 = call.ensures.view ∙ (λ i. (with_paid (with_draft (e i).0 (owed_of (e i).0)), (e i).1)) in
    let size : loss_size c.args.seat.now.me.0.hdrsize ≡ loss_size c.exchange_flush.new.seat.me.0.hdrsize = (λ i. loss_size (sym e i).0.hdrsize) in
    let ready = paid-ready c.args.seat.now.me.0 c.args.pen.now.w c.args.pen.now.since c.emit_loss-behind.result c.args.sizes.len (loss_size c.exchange_flush.new.seat.me.0.hdrsize) c.taken.result c.exchange_flush.result
    d.writing.seated.len_is size call.ensures.w d.writing.ready in
    let both = has-both _ _ _ _ _ _ _ c.args.tag c.args.now c.args.header.now c.args.stack.now c.requires.deciding c.requires.pending c.requires.room in
    let up = call.ensures.w.words ∙ (λ i. words_of c.args.pen.now.w + raise_of (words_of c.args.pen.now.w % c.args.sizes.len) c.args.sizes.len (sym size i)) in
    let next : words_of c.emit_loss-behind.result ≡ c.emit_loss-behind.new.seat.me.0.writer.next = ready.written_words ∙ sym ready.next ∙ (λ i. (sym e2 i).0.writer.next) in
    let read : c.args.loaded.r ≡ c.emit_loss-behind.new.seat.me.0.writer.read = sym d.words_loaded.read ∙ (λ i. (sym e2 i).0.writer.read) in
    subst (λ (x : ℕ × ℕ). x.0 + raise_of (x.0 % c.args.sizes.len) c.args.sizes.len (size_of (length c.args.header.now) (length c.args.stack.now)) ≤ words_of x.1 + c.args.sizes.len) (λ i. (next i, read i)) (both.behind_loss c.emit_loss-behind.result up)

pub returns-clause-writing : goal.returns-clause-writing
returns-clause-writing c =
    let d = c.requires.deciding in
    let e = c.exchange_flush.ensures.won c.if-exchange_flush-overflow.false in
    let call = c.emit_loss-behind in
    let e2 = call.ensures.view ∙ (λ i. (with_paid (with_draft (e i).0 (owed_of (e i).0)), (e i).1)) in
    let size : loss_size c.args.seat.now.me.0.hdrsize ≡ loss_size c.exchange_flush.new.seat.me.0.hdrsize = (λ i. loss_size (sym e i).0.hdrsize) in
    let ready = paid-ready c.args.seat.now.me.0 c.args.pen.now.w c.args.pen.now.since c.emit_loss-behind.result c.args.sizes.len (loss_size c.exchange_flush.new.seat.me.0.hdrsize) c.taken.result c.exchange_flush.result
    d.writing.seated.len_is size call.ensures.w d.writing.ready in
    let last = c.emit_offer-pen-2 in
    let u = with_paid (with_draft (with_exchange (with_owed c.args.seat.now.me.0 c.taken.result) c.exchange_flush.result) (owed_of (with_exchange (with_owed c.args.seat.now.me.0 c.taken.result) c.exchange_flush.result))) in
    let e3 = last.ensures.view ∙ (λ i. (with_delivered (with_draft (e2 i).0 (offer_of c.args.tag c.args.now c.args.header.now c.args.stack.now)) (offer_of c.args.tag c.args.now c.args.header.now c.args.stack.now), (e2 i).1)) in
    goes-writing _ _ _ c.args.seat.now.me c.emit_offer-pen-2.new.seat.me
    (with_delivered (with_draft (with_paid (with_draft (with_exchange (with_owed c.args.seat.now.me.0 c.taken.result) c.exchange_flush.result) (owed_of (with_exchange (with_owed c.args.seat.now.me.0 c.taken.result) c.exchange_flush.result)))) (offer_of c.args.tag c.args.now c.args.header.now c.args.stack.now)) (offer_of c.args.tag c.args.now c.args.header.now c.args.stack.now))
    c.args.sizes c.args.pen.now.w c.args.pen.now.since c.emit_offer-pen-2.result c.args.pen.now.since c.args.zeros.now d.writing (last.ensures.table ∙ call.ensures.table ∙ c.exchange_flush.ensures.table) e3 refl refl refl refl
    (delivered-ready (with_paid (with_draft (with_exchange (with_owed c.args.seat.now.me.0 c.taken.result) c.exchange_flush.result) (owed_of (with_exchange (with_owed c.args.seat.now.me.0 c.taken.result) c.exchange_flush.result)))) c.emit_loss-behind.result c.args.pen.now.since c.emit_offer-pen-2.result c.args.sizes.len (size_of (length c.args.header.now) (length c.args.stack.now)) (offer_of c.args.tag c.args.now c.args.header.now c.args.stack.now) d.writing.seated.len_is
    (offer-size _ _ _ _ _ _ _ c.args.tag c.args.now c.args.header.now c.args.stack.now c.requires.deciding) last.ensures.w ready)
