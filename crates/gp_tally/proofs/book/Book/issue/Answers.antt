use Rattle.std.proofs.Common.{◌∙◌}
use Rattle.gp_tally.proofs.Agreeing.{splits_at}
use Rattle.gp_tally.proofs.book.Book.issue.Goals as goal

pub split_seat-requires : goal.split_seat-requires
split_seat-requires c = let i = c.self.invariant in (c.add.ensures.table ∙ i.0, i.1, splits_at _ _ _ _ _ c.add.ensures.view)
