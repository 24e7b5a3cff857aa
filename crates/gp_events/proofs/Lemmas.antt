-- The lemmas on events that crates above take. No other page of these proofs is for them.

-- Sums begin with none and have each event more; what all of them together have then.
pub use Rattle.gp_events.proofs.Growing.{sums_begin, sums_grow, total_count-added, total_delay-added}
-- With each event that comes a choice goes on to the next.
pub use Rattle.gp_events.proofs.Words.{goes_on}
