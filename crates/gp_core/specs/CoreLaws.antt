-- The two laws of the core.
use Rattle.std.specs.Prelude.{◌≡◌, ◌⊎◌, ℕ, List, [], ◌∷◌, ◌++◌}
use Rattle.std.specs.List.{AllByRecursion}
use Rattle.gp_stack.specs.declared.record.Record.{Record as Row}
use Rattle.gp_journal.specs.declared.entry.Entry.{Entry}
use Rattle.gp_journal.specs.declared.entry.Entry.TheVariants.{Open}
use Rattle.gp_journal.specs.declared.settings.Settings.{Settings}
use Rattle.gp_journal.specs.Settings.{AreInRange}
use Rattle.gp_journal.specs.State.{Code}
use Rattle.gp_journal.specs.Run.{last}
use Rattle.gp_journal.specs.Frozen.{frozen}
use Rattle.gp_core.specs.declared.event.CoreEvent.{CoreEvent}
use Rattle.gp_core.specs.Events.{IsAllowed, core_after}
use Rattle.gp_core.specs.Invariant.{KeepsInvariant}

-- After every list of events that the protocol allows the invariant holds.
abbrev pub InvariantHolds : Type 0
InvariantHolds = (code : Code) (settings : Settings) (events : List CoreEvent) → AreInRange settings →
    IsAllowed code settings events → KeepsInvariant code settings events (core_after code settings events)

-- whether one of some rows is this one
abbrev pub IsAmong : Row → List Row → Type 0
IsAmong it [] = ⊥
IsAmong it (r ∷ rows) = (r ≡ it) ⊎ IsAmong it rows

-- A copy is its goroutine's row of those that were frozen at the Open of its profile.
pub record IsFrozenCopy (code : Code) (settings : Settings) (journal : List Entry) (copy : ℕ × Row) : Type 0 where
  pub before : List Entry
  pub room : ℕ
  pub during : List Entry
  pub opened : journal ≡ before ++ Open copy.0 room ∷ during
  pub among : IsAmong copy.1 (frozen code (last code settings before))

-- After every such list each copy that was recorded is one.
abbrev pub CopiesAreFrozen : Type 0
CopiesAreFrozen = (code : Code) (settings : Settings) (events : List CoreEvent) → AreInRange settings →
    IsAllowed code settings events →
    let core = core_after code settings events in
    AllByRecursion (IsFrozenCopy code settings core.journal) core.copies
