use Rattle.std.proofs.Common.{◌≡◌, take}
use Rattle.gp_words.specs.Settings.{instants_of}
use Rattle.gp_words.proofs.settings.instants.Given as goal

abbrev pub invariant-loop-choice : goal.invariant-loop-choice
invariant-loop-choice l = l.at ≡ instants_of (take l.choice-index l.taken)
