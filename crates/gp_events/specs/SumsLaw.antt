-- Laws of sums: how they grow, and that nothing is added twice or lost.
use Rattle.std.specs.Prelude.{◌≡◌, List, [], ◌∷◌, ◌++◌, sum_by}
use Rattle.gp_events.specs.Event.{Event}
use Rattle.gp_events.specs.Sums.{sums, added, total_count, total_delay}

-- No events have no sums,
abbrev pub SumsBegin : Type 0
SumsBegin = sums [] ≡ []

-- and with each event the sums have it more.
abbrev pub SumsGrow : Type 0
SumsGrow = (events : List Event) (event : Event) → sums (events ++ event ∷ []) ≡ added (sums events) event

-- Together the sums are what all events count, and what all their delays are.
pub record IsShared (events : List Event) : Type 0 where
  pub count : total_count (sums events) ≡ sum_by (λ (event : Event). event.count) events
  pub delay : total_delay (sums events) ≡ sum_by (λ (event : Event). event.delay) events

abbrev pub SumsAreShares : Type 0
SumsAreShares = (events : List Event) → IsShared events
