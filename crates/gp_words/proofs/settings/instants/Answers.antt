use Rattle.std.proofs.Common.{arith}
use Rattle.std.proofs.lemmas.Grind.{common_steps}
use Rattle.std.proofs.lemmas.List.Elements.{filter_map-append}
use Rattle.gp_words.proofs.settings.instants.Goals as goal

pub loop-choice-preserved : goal.loop-choice-preserved
loop-choice-preserved c = grind (arith, common_steps, filter_map-append)
