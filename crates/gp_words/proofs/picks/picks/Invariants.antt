use Rattle.std.proofs.Common.{◌≡◌, ◌≤◌, length, drop}
use Rattle.gp_words.specs.Numbers.{numbers_of, pieces_of}
use Rattle.gp_words.proofs.Lists.{after}
use Rattle.gp_words.proofs.picks.picks.Given as goal

abbrev pub invariant-loop-piece : goal.invariant-loop-piece
invariant-loop-piece l =
    (numbers_of (pieces_of l.word) ≡ after l.picks (numbers_of (drop (length l.yielded) (pieces_of l.word)))) × (length l.picks ≡ length l.yielded) × (length l.picks ≤ 100000)
