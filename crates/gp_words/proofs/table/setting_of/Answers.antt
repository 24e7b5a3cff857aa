use Rattle.gp_words.specs.Table.{setting_of}
use Rattle.gp_words.proofs.table.setting_of.Goals as goal

pub returns : goal.returns
unfolding setting_of
returns c = c.setting_among.ensures
