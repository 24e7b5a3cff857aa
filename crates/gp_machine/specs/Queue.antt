-- The queue of runnable goroutines.
use Rattle.std.specs.Prelude.{ℕ, List}
pub use Rattle.gp_journal.specs.Standing.{head_of, times}

-- Goroutines in the order in which they came, of those whose numbers are below `cells`.
pub record Line : Type 0 where
  pub cells : ℕ
  pub items : List ℕ
