use Rattle.std.proofs.Common.{◌≡◌}
use Rattle.gp_tally_tests.specs.Counted.{counted}
use Rattle.gp_tally_tests.proofs.owners.take_turns.Given as goal

abbrev pub invariant-loop-turn : goal.invariant-loop-turn
invariant-loop-turn g l =
    (l.share.book ≡ l.initial.share.book) × (l.share.number ≡ l.initial.share.number) × (l.share.row ≡ counted l.turn)
