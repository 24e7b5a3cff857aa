use Rattle.std.proofs.Common.{◌≡◌, drop}
use Rattle.gp_words.specs.Settings.{number_of}
use Rattle.gp_words.proofs.settings.number.Given as goal

abbrev pub invariant-loop-choice : goal.invariant-loop-choice
invariant-loop-choice l = number_of l.setting (drop l.choice-index l.taken) ≡ number_of l.setting l.taken
