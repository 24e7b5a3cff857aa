use Rattle.std.proofs.Common.{rules, ◌≡◌, ◌∙◌, false, length, refl, sym, arith}
use Rattle.gp_layout.specs.Spelling.{size_of}
use Rattle.gp_ring.specs.Offered.{offer_of}
use Rattle.gp_ring.specs.kept.Views.{with_draft, with_delivered}
use Rattle.gp_ring.proofs.Deciding.{words-fit, tags-fit, offer-size, room-one, full-one, goes-writing, delivered-ready}
use Rattle.gp_ring.proofs.between.writing.write_next.Goals as goal

pub begin_loss-requires-clause-full : goal.begin_loss-requires-clause-full
begin_loss-requires-clause-full c =
    let b : c.room_one.result ≡ false = search rules in
    full-one _ _ _ _ _ _ _ c.args.tag c.args.now c.args.header.now c.args.stack.now c.requires.deciding c.requires.none (room-one _ _ _ _ _ _ _ c.args.tag c.args.now c.args.header.now c.args.stack.now c.requires.deciding c.requires.none ∙ sym c.room_one.ensures ∙ b)

pub emit_offer-pen-requires-clause-few_words : goal.emit_offer-pen-requires-clause-few_words
emit_offer-pen-requires-clause-few_words c = words-fit _ _ _ _ _ _ _ c.args.tag c.args.now c.args.header.now c.args.stack.now c.requires.deciding

pub emit_offer-pen-requires-clause-few_tags : goal.emit_offer-pen-requires-clause-few_tags
emit_offer-pen-requires-clause-few_tags c = let k = tags-fit _ _ _ _ _ _ _ c.args.tag c.args.now c.args.header.now c.args.stack.now c.requires.deciding in omega arith

pub returns-clause-writing : goal.returns-clause-writing
returns-clause-writing c =
    let d = c.requires.deciding in
    let call = c.emit_offer-pen in
    goes-writing _ _ _ c.args.seat.now.me c.emit_offer-pen.new.seat.me (with_delivered (with_draft c.args.seat.now.me.0 (offer_of c.args.tag c.args.now c.args.header.now c.args.stack.now)) (offer_of c.args.tag c.args.now c.args.header.now c.args.stack.now))
    c.args.sizes c.args.pen.now.w c.args.pen.now.since c.emit_offer-pen.result c.args.pen.now.since c.args.zeros.now d.writing call.ensures.table call.ensures.view refl refl refl refl
    (delivered-ready c.args.seat.now.me.0 c.args.pen.now.w c.args.pen.now.since c.emit_offer-pen.result c.args.sizes.len (size_of (length c.args.header.now) (length c.args.stack.now)) (offer_of c.args.tag c.args.now c.args.header.now c.args.stack.now) d.writing.seated.len_is
    (offer-size _ _ _ _ _ _ _ c.args.tag c.args.now c.args.header.now c.args.stack.now c.requires.deciding) call.ensures.w d.writing.ready)
