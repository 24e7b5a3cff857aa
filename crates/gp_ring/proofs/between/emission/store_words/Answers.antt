use Rattle.std.proofs.Common.{rules, ◌<◌, length}
use Rattle.gp_ring.proofs.RingDrafts.{words-step, place-is}
use Rattle.gp_ring.proofs.between.emission.store_words.Goals as goal

pub store_word-requires-clause-place : goal.store_word-requires-clause-place
store_word-requires-clause-place c =
    let h : c.loop-i.i < length c.args.words.now = search rules in
    place-is c.args.seat.now.me.0 c.args.seat.now.me.1 c.loop-i.seat.me c.args.words.now c.loop-i.i c.args.start h c.loop-i.invariant.view c.requires.place c.requires.within

pub loop-i-preserved : goal.loop-i-preserved
loop-i-preserved c =
    let h : c.loop-i.i < length c.args.words.now = search rules in
    record {
      table = search rules;
      view = words-step c.args.seat.now.me.0 c.args.seat.now.me.1 c.loop-i.seat.me c.store_word.new.seat.me c.args.words.now c.loop-i.i _ h (search rules) c.loop-i.invariant.view c.store_word.ensures.view;
    }
