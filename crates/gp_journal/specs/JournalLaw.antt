-- The journal law: what epochs say, and what stands still while a profile is active.
use Rattle.std.specs.Prelude.{◌≡◌, ◌⊎◌, ◌+◌, ◌<◌, ℕ, Bool, true, false, List, [], ◌∷◌, ◌++◌, length}
use Rattle.gp_isa.specs.declared.frame.Frame.{Frame}
use Rattle.gp_stack.specs.Goroutine.{stack_of}
use Rattle.gp_journal.specs.declared.goroutine.Goroutine.{Goroutine}
use Rattle.gp_journal.specs.declared.entry.Entry.{Entry}
use Rattle.gp_journal.specs.declared.entry.Entry.TheVariants.{Open, Close}
use Rattle.gp_journal.specs.declared.settings.Settings.{Settings}
use Rattle.gp_journal.specs.State.{Code, State, goroutine, is_running, is_live, live, unrecorded, trace_of}
use Rattle.gp_journal.specs.Effect.{labels_at}
use Rattle.gp_journal.specs.Run.{IsLegal, last, at}
use Rattle.gp_journal.specs.Frozen.{frozen, rows_taken, sorted}

-- What a state keeps of the epochs.
pub record KeepsEpochs (state : State) : Type 0 where
  -- while a profile is active, a running goroutine has its epoch
  pub while_running : (g : ℕ) → 0 < state.active → is_running (goroutine state g).status ≡ true →
      (goroutine state g).epoch ≡ state.active
  -- and a live one has its epoch or the one before
  pub while_active : (g : ℕ) → 0 < state.active → is_live (goroutine state g) ≡ true →
      ((goroutine state g).epoch ≡ state.active) ⊎ ((goroutine state g).epoch + 1 ≡ state.active)
  -- between profiles all live ones have the last epoch
  pub while_none : (g : ℕ) → state.active ≡ 0 → is_live (goroutine state g) ≡ true →
      (goroutine state g).epoch ≡ state.last_epoch

-- the whole stack of a goroutine
abbrev pub stack_at : Code → Goroutine → List Frame
stack_at code g = stack_of (trace_of code g) g.count

-- g stands in one state as in another: its count is the same, and so are its stack and its labels.
pub record StandsAs (code : Code) (opened now : State) (g : ℕ) : Type 0 where
  pub same_count : (goroutine now g).count ≡ (goroutine opened g).count
  pub same_stack : stack_at code (goroutine now g) ≡ stack_at code (goroutine opened g)
  pub same_labels : labels_at code (goroutine now g) ≡ labels_at code (goroutine opened g)

-- whether entries have a Close
abbrev pub has_close : List Entry → Bool
has_close [] = false
has_close (Close epoch ∷ entries) = true
has_close (entry ∷ entries) = has_close entries

-- At every step of a legal journal its state keeps the epochs.
abbrev pub EpochsHold : Type 0
EpochsHold = (code : Code) (settings : Settings) (journal : List Entry) (k : ℕ) →
    IsLegal code settings journal → KeepsEpochs (at code settings journal k)

-- From the Open of a profile on, up to its Close, a live goroutine that has the epoch before stands as it stood at
-- the Open.
abbrev pub UnrecordedStand : Type 0
UnrecordedStand = (code : Code) (settings : Settings) (before : List Entry) (epoch room : ℕ) (during : List Entry) (g : ℕ) →
    let journal = before ++ Open epoch room ∷ during in
    let now = last code settings journal in
    IsLegal code settings journal → has_close during ≡ false →
    is_live (goroutine now g) ≡ true → (goroutine now g).epoch + 1 ≡ epoch → StandsAs code (last code settings before) now g

-- The rows taken between an Open and its Close, sorted by number, are the frozen rows at the Open.
abbrev pub RowsAreFrozen : Type 0
RowsAreFrozen = (code : Code) (settings : Settings) (before : List Entry) (epoch room : ℕ) (during : List Entry) →
    IsLegal code settings (before ++ Open epoch room ∷ during) → has_close during ≡ true →
    let opened = before ++ Open epoch room ∷ [] in
    sorted (rows_taken code settings (last code settings opened) during) ≡ frozen code (last code settings before)

-- From the Open of a profile on, up to its Close, the rows taken so far and the goroutines that have still to be
-- recorded are together as many as were live at the Open.
abbrev pub UnrecordedAddUp : Type 0
UnrecordedAddUp = (code : Code) (settings : Settings) (before : List Entry) (epoch room : ℕ) (during : List Entry) →
    let opened = before ++ Open epoch room ∷ [] in
    let journal = before ++ Open epoch room ∷ during in
    IsLegal code settings journal → has_close during ≡ false →
    let taken = length (rows_taken code settings (last code settings opened) during) in
    taken + unrecorded (last code settings journal) ≡ live (last code settings before)
