-- What the profiler's calls keep.
use Rattle.std.proofs.Common.{◌≡◌, ◌<◌, ◌∷◌, [], ◌==◌, ℕ, Bool, true, false, List, refl, sym, ap, ◌∙◌, subst, arith}
use Rattle.std.specs.Prelude.{Option, Some, None, if◌then◌else◌, IfSome}
use Rattle.std.proofs.lemmas.List.Quantifiers.{position-Some}
use Rattle.atomic_table.specs.Seated.{TableId}
use Rattle.gp_isa.specs.declared.parts.Parts.{Parts}
use Rattle.gp_journal.specs.declared.entry.Entry.{Entry}
use Rattle.gp_journal.specs.declared.settings.Settings.{Settings}
use Rattle.gp_journal.specs.Run.{IsLegal, state_of}
use Rattle.gp_journal.specs.Settings.{AreInRange}
use Rattle.gp_journal.specs.Standing.{first_behind}
use Rattle.gp_journal.specs.State.{State, code_of, goroutine, nobody, is_behind, is_live}
use Rattle.gp_journal.proofs.Lemmas.{behind_parts}
use Rattle.gp_tally.specs.Rows.{Part}
use Rattle.gp_tally.specs.declared.row.Row.{Row}
use Rattle.gp_world.specs.Rows.{profiler_row, has_finished}
use Rattle.gp_world.specs.Scene.{Scene}
use Rattle.gp_profiler.specs.declared.answers.Opening.{Opening}
use Rattle.gp_profiler.specs.declared.answers.Opening.TheVariants.{Opened, TooSmall, NotStopped}
use Rattle.gp_profiler.specs.declared.answers.Recording.{Recording}
use Rattle.gp_profiler.specs.declared.answers.Recording.TheVariants.{Recorded, Already}
use Rattle.gp_profiler.specs.declared.answers.Closing.{Closing}
use Rattle.gp_profiler.specs.declared.answers.Closing.TheVariants.{Closed, Missing}
use Rattle.gp_profiler.specs.Calls.{with_entry, share_with, opening_entry, recording_entry, closing_entry}
use Rattle.gp_workers.specs.kept.Locked.{Leaves, IsProfiler}
use Rattle.gp_workers.proofs.Keeping.{is_still, keeps_same, leaves_all, leaves_same}

abbrev pub IsStill : Option Entry → Type 0
IsStill made = IfSome made (λ entry. is_still entry ≡ true)

pub opening_still : (settings : Settings) (it : Opening) → IsStill (opening_entry settings it)
opening_still settings (Opened epoch n) = refl
opening_still settings (TooSmall n room) = refl
opening_still settings (NotStopped running) = tt

pub recording_still : (actor g : ℕ) (it : Recording) → IsStill (recording_entry actor g it)
recording_still actor g Recorded = refl
recording_still actor g (Already epoch) = tt

pub closing_still : (it : Closing) → IsStill (closing_entry it)
closing_still (Closed epoch) = refl
closing_still (Missing have n) = tt

-- A call that makes one entry, or none, moves no body.
pub entered_leaves : (program : Parts) (settings : Settings) → AreInRange settings → (old new : Scene) (made : Option Entry) → IsStill made → new ≡ with_entry old made → IsLegal (code_of program) settings new.journal → Leaves program settings old new
entered_leaves program settings range old new None still is legal = subst (Leaves program settings old) (sym is) (leaves_same program settings range old)
entered_leaves program settings range old new (Some entry) still is legal =
    leaves_all program settings range (entry ∷ []) old new (still, tt) (subst (IsLegal (code_of program) settings) (ap (λ (s : Scene). s.journal) is) legal)
    (record { keeps = keeps_same old new (ap (λ (s : Scene). s.book) is) (ap (λ (s : Scene). s.ring) is); grown = ap (λ (s : Scene). s.journal) is })

-- Who has still to be recorded is live.
pub found_lives : (s : State) (g : ℕ) → first_behind s.active s.goroutines ≡ Some g → is_live (goroutine s g) ≡ true
found_lives s g e = (behind_parts s.active (goroutine s g) ((position-Some (is_behind s.active) s.goroutines g nobody e).1)).0

-- ---- its share

pub profiler_row_unfinished : (program : Parts) (settings : Settings) (journal : List Entry) → (profiler_row program settings journal).a < has_finished
profiler_row_unfinished program settings journal = by ((state_of program settings journal).active == 0)
  where
    by : (none : Bool) → (if none then 0 else 1) < 2
    by true = omega arith
    by false = omega arith

-- one that hasn't finished
pub record IsBusy (book : TableId) (settings : Settings) (share : Part) : Type 0 where
  pub profiler : IsProfiler book settings share
  pub unfinished : share.row.a < has_finished

pub noted_busy : (book next_book : TableId) (settings : Settings) (share : Part) (made : Option Entry) (row : Row) → next_book ≡ book → IsProfiler book settings share → share.row.a < has_finished → row.a < has_finished →
    IsBusy next_book settings (share_with share made row)
noted_busy book next_book settings share None row same it few low = record { profiler = subst (λ b. IsProfiler b settings share) (sym same) it; unfinished = few }
noted_busy book next_book settings share (Some entry) row same it few low =
    record { profiler = record { its_book = it.its_book ∙ sym same; number = it.number; told = omega arith }; unfinished = low }
