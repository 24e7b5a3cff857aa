use Rattle.std.proofs.Common.{sym, ◌∙◌}
use Rattle.gp_ring.proofs.Rounding.{tags-one, tags-two, join-whole}
use Rattle.gp_ring.proofs.gather.gather_tags.Goals as goal

pub returns-then-at-total-clause-words : goal.returns-then-at-total-clause-words
returns-then-at-total-clause-words c =
    c.join.ensures.words ∙ join-whole c.args.tags.now _ _ ∙ sym (tags-one c.args.tags.now c.args.count c.args.from c.if-at-total.true)

pub returns-clause-words : goal.returns-clause-words
returns-clause-words c =
    c.join-2.ensures.words ∙ sym (tags-two c.args.tags.now c.args.count c.args.from c.requires.some c.requires.within c.if-at-total.false)
