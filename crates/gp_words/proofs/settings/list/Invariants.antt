use Rattle.std.proofs.Common.{◌≡◌, drop, length}
use Rattle.gp_words.specs.Settings.{list_of}
use Rattle.gp_words.proofs.settings.list.Given as goal

abbrev pub invariant-loop-choice : goal.invariant-loop-choice
invariant-loop-choice l =
    (goal.iterator-loop-choice).can_next l.choice-iterator ×
    (goal.iterator-loop-choice).is_finite l.choice-iterator ×
    (list_of (drop (length l.yielded) l.fn.taken) ≡ list_of l.fn.taken)
