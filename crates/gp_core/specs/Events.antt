-- Lists of events.
use Rattle.std.specs.Prelude.{ℕ, Bool, false, ◌==◌, List, [], ◌∷◌}
use Rattle.std.specs.List.{list_any}
use Rattle.gp_journal.specs.declared.settings.Settings.{Settings}
use Rattle.gp_journal.specs.State.{Code}
use Rattle.gp_core.specs.declared.event.CoreEvent.{CoreEvent}
use Rattle.gp_core.specs.declared.event.CoreEvent.TheVariants.{Bear, Bury}
use Rattle.gp_core.specs.CoreState.{CoreState, first_core}
use Rattle.gp_core.specs.Enabled.{IsEnabled}
use Rattle.gp_core.specs.Stepped.{stepped}

-- each event is enabled where it comes, from a state on
abbrev pub AreEnabled : Code → Settings → CoreState → List CoreEvent → Type 0
AreEnabled code settings core [] = Unit {0}
AreEnabled code settings core (event ∷ events) =
    IsEnabled code settings core event × AreEnabled code settings (stepped code settings core event) events

-- the state after events, from a state on
abbrev pub after_events : Code → Settings → CoreState → List CoreEvent → CoreState
after_events code settings core [] = core
after_events code settings core (event ∷ events) = after_events code settings (stepped code settings core event) events

-- A list of events that the protocol allows: each is enabled where it comes, from the first state on.
abbrev pub IsAllowed : Code → Settings → List CoreEvent → Type 0
IsAllowed code settings events = AreEnabled code settings (first_core settings) events

-- the state after such a list
abbrev pub core_after : Code → Settings → List CoreEvent → CoreState
core_after code settings events = after_events code settings (first_core settings) events

-- whether the body of a goroutine was put into its cell, and whether it was put away
abbrev pub is_bear_of : ℕ → CoreEvent → Bool
is_bear_of g (Bear w other) = other == g
is_bear_of g _ = false

abbrev pub is_bury_of : ℕ → CoreEvent → Bool
is_bury_of g (Bury w other) = other == g
is_bury_of g _ = false

abbrev pub is_borne : List CoreEvent → ℕ → Bool
is_borne events g = list_any (is_bear_of g) events

abbrev pub is_buried : List CoreEvent → ℕ → Bool
is_buried events g = list_any (is_bury_of g) events
