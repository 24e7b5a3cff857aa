-- How a body is held.
use Rattle.std.specs.Prelude.{ℕ, List, Bool}
use Rattle.atomic_table.specs.Seated.{TableId}

-- Of which cells and by which pass a body is held; the cell; whether it came by a claim, else it came by a take; and the epoch
-- and the actor of the word that this made.
pub record Hold : Type 0 where
  pub cells : TableId
  pub pass : List ℕ
  pub cell : ℕ
  pub claims : Bool
  pub epoch : ℕ
  pub actor : ℕ
