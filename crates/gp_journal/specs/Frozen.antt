-- The rows of a goroutine profile: what a profile has to show, and what the Record entries take.
use Rattle.std.specs.Prelude.{ℕ, suc, Bool, List, [], ◌∷◌, take, if◌then◌else◌, nat_le}
use Rattle.gp_stack.specs.declared.record.Record.{Record as Row}
use Rattle.gp_isa.specs.Limits.{goroutine_frames}
use Rattle.gp_stack.specs.Goroutine.{stack_of, labels_of}
use Rattle.gp_journal.specs.declared.entry.Entry.{Entry}
use Rattle.gp_journal.specs.declared.entry.Entry.TheVariants.{Record, Close}
use Rattle.gp_journal.specs.declared.goroutine.Goroutine.{Goroutine}
use Rattle.gp_journal.specs.declared.settings.Settings.{Settings}
use Rattle.gp_journal.specs.State.{Code, State, goroutine, trace_of, is_live}
use Rattle.gp_journal.specs.Effect.{after}

-- The row of goroutine number g: its stack, cut, and its labels.
abbrev pub row : Code → ℕ → Goroutine → Row
row code g it = record {
  g = g;
  stack = take goroutine_frames (stack_of (trace_of code it) it.count);
  set = labels_of (trace_of code it) it.set it.count;
}

-- the rows of those of a list of goroutines that pass a test, numbered from n on
abbrev pub rows_from : Code → (Goroutine → Bool) → ℕ → List Goroutine → List Row
rows_from code test n [] = []
rows_from code test n (it ∷ rest) = if test it then row code n it ∷ rows_from code test (suc n) rest else rows_from code test (suc n) rest

-- The frozen rows of a state: those of all live goroutines, by number.
abbrev pub frozen : Code → State → List Row
frozen code state = rows_from code is_live 0 state.goroutines

-- The rows that entries take, from a state on, up to the first Close: each Record the row of its goroutine.
abbrev pub rows_taken : Code → Settings → State → List Entry → List Row
rows_taken code settings state [] = []
rows_taken code settings state (Record actor g ∷ entries) =
    row code g (goroutine state g) ∷ rows_taken code settings (after code settings state (Record actor g)) entries
rows_taken code settings state (Close epoch ∷ entries) = []
rows_taken code settings state (entry ∷ entries) = rows_taken code settings (after code settings state entry) entries

-- rows sorted by number, with one more in its place
abbrev pub inserted : Row → List Row → List Row
inserted new [] = new ∷ []
inserted new (r ∷ rows) = if nat_le new.g r.g then new ∷ r ∷ rows else r ∷ inserted new rows

-- rows, sorted by number
abbrev pub sorted : List Row → List Row
sorted [] = []
sorted (r ∷ rows) = inserted r (sorted rows)
