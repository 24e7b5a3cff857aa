-- Legal journals.
use Rattle.std.specs.Prelude.{ℕ, List, [], ◌∷◌, take}
use Rattle.gp_isa.specs.declared.parts.Parts.{Parts}
use Rattle.gp_journal.specs.declared.entry.Entry.{Entry}
use Rattle.gp_journal.specs.declared.settings.Settings.{Settings}
use Rattle.gp_journal.specs.State.{Code, State, code_of, first}
use Rattle.gp_journal.specs.Due.{IsComplete}
use Rattle.gp_journal.specs.May.{May}
use Rattle.gp_journal.specs.Effect.{after}

-- entries are legal one after another, from a state on
abbrev pub AreLegal : Code → Settings → State → List Entry → Type 0
AreLegal code settings state [] = Unit {0}
AreLegal code settings state (entry ∷ entries) =
    May code settings state entry × AreLegal code settings (after code settings state entry) entries

-- the state after entries, from a state on
abbrev pub after_all : Code → Settings → State → List Entry → State
after_all code settings state [] = state
after_all code settings state (entry ∷ entries) = after_all code settings (after code settings state entry) entries

-- A journal is legal: each entry is, from the first state on.
abbrev pub IsLegal : Code → Settings → List Entry → Type 0
IsLegal code settings journal = AreLegal code settings (first code settings) journal

-- the state after all entries of a journal
abbrev pub last : Code → Settings → List Entry → State
last code settings journal = after_all code settings (first code settings) journal

-- the state after a journal of a program's run
abbrev pub state_of : Parts → Settings → List Entry → State
state_of program settings journal = last (code_of program) settings journal

-- the state before entry k, counted from 0
abbrev pub at : Code → Settings → List Entry → ℕ → State
at code settings journal k = last code settings (take k journal)

-- A journal is finished: it is legal and its run is complete.
pub record IsFinished (code : Code) (settings : Settings) (journal : List Entry) : Type 0 where
  pub legal : IsLegal code settings journal
  pub complete : IsComplete settings (last code settings journal)
