use Rattle.gp_words.proofs.Lists.{number_given}
use Rattle.gp_words.proofs.words.number_at.Goals as goal

pub returns-clause-range : goal.returns-clause-range
returns-clause-range c = number_given c.args.least c.args.most c.args.word.now c.number.result _ c.ok_or.result c.number.ensures c.ok_or.ensures.value
