-- So many words were made, each with no body.
use Rattle.std.proofs.Common.{◌≡◌, replicate}
use Rattle.gp_core.specs.declared.word.Word.TheVariants.{Dead}
use Rattle.gp_core.proofs.status_words.dead_words.Given as goal

abbrev pub invariant-loop : goal.invariant-loop
invariant-loop l = l.words.items ≡ replicate l.counter Dead
