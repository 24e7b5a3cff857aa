-- So many places were made, with nothing in them.
use Rattle.std.proofs.Common.{◌≡◌, None, replicate}
use Rattle.gp_core.proofs.status_words.vacant.Given as goal

abbrev pub invariant-loop : goal.invariant-loop
invariant-loop g l = l.places.items ≡ replicate l.counter None
