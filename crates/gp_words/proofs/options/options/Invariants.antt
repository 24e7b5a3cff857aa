use Rattle.std.proofs.Common.{◌≡◌, [], length}
use Rattle.std.specs.Slice.Iter.{iter_rest}
use Rattle.gp_words.specs.Words.{texts}
use Rattle.gp_words.specs.Options.{options_of}
use Rattle.gp_words.specs.kept.Sound.{IsSound}
use Rattle.gp_words.proofs.options.options.Given as goal

abbrev pub invariant-loop-word : goal.invariant-loop-word
invariant-loop-word l = IsSound l.taken × (options_of l.command l.taken (texts (iter_rest l.rest)) ≡ options_of l.command [] (texts l.words))

abbrev pub decreases-loop-word : goal.decreases-loop-word
decreases-loop-word l = length (iter_rest l.rest)
