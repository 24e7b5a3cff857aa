-- Bodies outside of the lock: on loan to a call behind it, and behind their goroutines.
use Rattle.std.specs.Prelude.{◌≡◌, ◌≤◌, ℕ}
use Rattle.atomic_table.specs.Seated.{TableId}
use Rattle.gp_isa.specs.declared.parts.Parts.{Parts}
use Rattle.gp_stack.specs.Body.{progress_of, ahead_at, StandsIn}
use Rattle.gp_journal.specs.Bodies.{further}
use Rattle.gp_cells.specs.declared.held.Held.{Held}
use Rattle.gp_cells.specs.declared.carried.Carried.{Carried}
use Rattle.gp_cells.specs.Goroutine.{progress_in, IsLive, IsInStep}
use Rattle.gp_cells.specs.Held.{hold_of}

-- An actor lends the body of goroutine g, which it holds by an exchange of its own on g's cell: its share is that of g's row in
-- the book, and it is in step with it.
pub record IsLent (program : Parts) (roster : TableId) (actor g : ℕ) (held : Held) : Type 0 where
  pub by_actor : (hold_of held).actor ≡ actor
  pub its_cell : (hold_of held).cell ≡ g
  pub book : held.body.share.book ≡ roster
  pub number : held.body.share.number ≡ g
  pub in_step : IsInStep program held.body

-- A body whose goroutine is so many points ahead of it: its row says so already. They are local, and the body stands behind them
-- once it has passed them.
pub record IsAhead (program : Parts) (n : ℕ) (carried : Carried) : Type 0 where
  pub within : n ≤ ahead_at program (progress_of carried.body)
  pub row : progress_in carried.share.row ≡ further n (progress_of carried.body)
  pub live : IsLive program carried.share.row
  pub stands : StandsIn program carried.body
