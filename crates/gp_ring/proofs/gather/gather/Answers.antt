use Rattle.std.proofs.Common.{sym, refl, ◌∙◌}
use Rattle.gp_ring.proofs.Rounding.{in-one-round, join-whole}
use Rattle.gp_ring.proofs.gather.gather.Goals as goal

pub returns-then-at-total-clause-words : goal.returns-then-at-total-clause-words
returns-then-at-total-clause-words c =
    c.join.ensures.words ∙ join-whole c.args.slots.now _ _
    ∙ sym (in-one-round c.args.slots.now _ c.args.hdrsize c.args.records c.args.from c.args.to c.requires.some refl c.requires.lie c.if-at-total.true)
