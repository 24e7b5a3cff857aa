use Rattle.std.proofs.Common.{◌+◌, ◌∷◌, [], length, arith}
use Rattle.gp_layout.specs.Spelling.{size_of}
use Rattle.gp_ring.proofs.RingDrafts.{words-then, behind-place}
use Rattle.gp_ring.proofs.between.emission.store_record.Goals as goal

pub store_words-requires-2-clause-place : goal.store_words-requires-2-clause-place
store_words-requires-2-clause-place c = λ h.
    behind-place c.args.seat.now.me.0 c.args.seat.now.me.1 c.store_words.new.seat.me (size_of (length c.args.header.now) (length c.args.stack.now) ∷ c.args.time ∷ []) c.args.start (c.args.start + 2)
    c.store_words.ensures.view c.requires.place (omega arith) (omega (arith, c.requires.within, h))

pub store_words-requires-3-clause-place : goal.store_words-requires-3-clause-place
store_words-requires-3-clause-place c = λ h.
    behind-place c.args.seat.now.me.0 c.args.seat.now.me.1 c.store_words-2.new.seat.me (size_of (length c.args.header.now) (length c.args.stack.now) ∷ c.args.time ∷ c.args.header.now) c.args.start
    (c.args.start + 2 + length c.args.header.now)
    (words-then c.args.seat.now.me.0 c.args.seat.now.me.1 c.store_words.new.seat.me c.store_words-2.new.seat.me (size_of (length c.args.header.now) (length c.args.stack.now) ∷ c.args.time ∷ []) c.args.header.now
    c.store_words.ensures.view c.store_words-2.ensures.view)
    c.requires.place (omega arith) (omega (arith, c.requires.within, h))

pub returns-clause-view : goal.returns-clause-view
returns-clause-view c =
    let two = words-then c.args.seat.now.me.0 c.args.seat.now.me.1 c.store_words.new.seat.me c.store_words-2.new.seat.me (size_of (length c.args.header.now) (length c.args.stack.now) ∷ c.args.time ∷ []) c.args.header.now
    c.store_words.ensures.view c.store_words-2.ensures.view in
    words-then c.args.seat.now.me.0 c.args.seat.now.me.1 c.store_words-2.new.seat.me c.store_words-3.new.seat.me (size_of (length c.args.header.now) (length c.args.stack.now) ∷ c.args.time ∷ c.args.header.now) c.args.stack.now
    two c.store_words-3.ensures.view
