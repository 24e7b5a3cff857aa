use Rattle.std.proofs.Common.{[], ◌∷◌}
use Rattle.gp_tally.proofs.Agreeing.{opens}
use Rattle.gp_tally.proofs.book.Book.new.Goals as goal

pub of_words-requires : goal.of_words-requires
of_words-requires c = opens (Unit {0}) (0 ∷ [])
