-- What a Run or an Op leaves of a body on loan and of its row.
use Rattle.std.proofs.Common.{◌≡◌, ◌+◌, ◌<◌, ◌≤◌, ℕ, Bool, true, false, List, [], ◌∷◌, ◌++◌, map, Some, refl, sym, ap, ◌∙◌, subst, arith, true≢false, if◌then◌else◌}
use Rattle.std.proofs.lemmas.List.{length-map, get_or-map}
use Rattle.gp_isa.specs.declared.parts.Parts.{Parts}
use Rattle.gp_isa.specs.Calls.{IsProgram}
use Rattle.gp_isa.specs.InLimits.{AreInLimits}
use Rattle.gp_stack.specs.declared.body.Body.{Body}
use Rattle.gp_stack.specs.Body.{Progress, progress_of, ahead_at, StandsIn}
use Rattle.gp_tally.specs.declared.row.Row.{Row}
use Rattle.gp_journal.specs.declared.answer.Applied.{Applied}
use Rattle.gp_journal.specs.declared.answer.Applied.TheVariants.{Plain, Passed, Born, Blocked as Waits, Fault}
use Rattle.gp_journal.specs.declared.entry.Entry.{Entry}
use Rattle.gp_journal.specs.declared.entry.Entry.TheVariants.{Start, Run, Op, Tick, Park, Open, Refuse, Record, Close}
use Rattle.gp_journal.specs.declared.settings.Settings.{Settings}
use Rattle.gp_journal.specs.Answer.{applied}
use Rattle.gp_journal.specs.Bodies.{nowhere, standing, AreBodiesOf, further}
use Rattle.gp_journal.specs.May.{May}
use Rattle.gp_journal.specs.Reached.{IsReached}
use Rattle.gp_journal.specs.Run.{IsLegal, state_of}
use Rattle.gp_journal.specs.Settings.{AreInRange}
use Rattle.gp_journal.specs.State.{State, code_of, nobody, goroutine, is_live, first}
use Rattle.gp_journal.proofs.Lemmas.{appended, live_within, runner_live, run_ahead}
use Rattle.gp_cells.specs.declared.carried.Carried.{Carried}
use Rattle.gp_cells.specs.Goroutine.{progress_in, IsLive, IsInStep}
use Rattle.gp_roster.specs.Lent.{IsAhead}
use Rattle.gp_roster.specs.Rows.{row_of}
use Rattle.gp_roster.specs.RowLaws.{mover, told_row}
use Rattle.gp_roster.proofs.RowsFollow.{rows_are_told}
use Rattle.gp_roster.proofs.Lent.{row_is_live}

-- bodies that stand where the goroutines of a state stand
standing_bodies : (s : State) → AreBodiesOf s (map standing s.goroutines)
standing_bodies s = record {
  each = length-map s.goroutines standing;
  live = λ k live. get_or-map standing s.goroutines k nobody nowhere (live_within s.goroutines k live);
}

-- whether an answer tells that the trace ended
abbrev pub dies : Applied → Bool
dies (Plain died) = died
dies (Passed woke event died) = died
dies (Born h died) = died
dies _ = false

mark_stays : (made : Entry) (told : Applied) (row : Row) → dies told ≡ false → (told_row made told row).d ≡ row.d
mark_stays (Run w g n) (Plain true) row on = absurd (true≢false on)
mark_stays (Run w g n) (Plain false) row on = refl
mark_stays (Run w g n) (Passed woke event died) row on = refl
mark_stays (Run w g n) (Born h died) row on = refl
mark_stays (Run w g n) Waits row on = refl
mark_stays (Run w g n) (Fault cause) row on = refl
mark_stays (Op w g) (Plain died) row on = refl
mark_stays (Op w g) (Passed woke event true) row on = absurd (true≢false on)
mark_stays (Op w g) (Passed woke event false) row on = refl
mark_stays (Op w g) (Born h true) row on = absurd (true≢false on)
mark_stays (Op w g) (Born h false) row on = refl
mark_stays (Op w g) Waits row on = refl
mark_stays (Op w g) (Fault cause) row on = refl
mark_stays (Start w g) told row on = refl
mark_stays (Tick w g) told row on = refl
mark_stays (Park w g) told row on = refl
mark_stays (Open epoch room) told row on = refl
mark_stays (Refuse room n) told row on = refl
mark_stays (Record actor g) told row on = refl
mark_stays (Close epoch) told row on = refl

live_mark : (g : ℕ) (live : Bool) → live ≡ true → 0 < (if live then g + 1 else 0)
live_mark g true e = omega arith
live_mark g false e = absurd (true≢false (sym e))

module _ (program : Parts) (settings : Settings) (journal : List Entry) (limits : AreInLimits program) (checked : IsProgram program) (legal : IsLegal (code_of program) settings journal) where
  abbrev s : State
  s = state_of program settings journal

  -- The row of whoever makes a Run or an Op is live behind it, where the answer doesn't tell that its trace ended.
  pub still_live : (made : Entry) (g : ℕ) (row new : Row) → May (code_of program) settings (state_of program settings journal) made → mover made ≡ Some g → row ≡ row_of g (goroutine s g) → is_live (goroutine s g) ≡ true →
      new ≡ told_row made (applied (code_of program) settings (state_of program settings journal) made) row → dies (applied (code_of program) settings (state_of program settings journal) made) ≡ false → IsLive program new
  still_live made g row new may moves is live told on =
      let longer : IsLegal (code_of program) settings (journal ++ made ∷ []) = appended (code_of program) settings (first (code_of program) settings) journal made legal may in
      let answer = applied (code_of program) settings (state_of program settings journal) made in
      let now : new ≡ row_of g (goroutine (state_of program settings (journal ++ made ∷ [])) g) =
      told ∙ ap (told_row made answer) is ∙ sym (rows_are_told (code_of program) settings journal made longer g moves) in
      row_is_live program settings (journal ++ made ∷ []) g new limits checked longer now
      (subst (λ (n : ℕ). 0 < n) (sym (ap (λ (r : Row). r.d) told ∙ mark_stays made answer row on ∙ ap (λ (r : Row). r.d) is)) (live_mark g (is_live (goroutine s g)) live))

  module _ (range : AreInRange settings) (w g n : ℕ) (may : May (code_of program) settings (state_of program settings journal) (Run w g n)) where
    reached : IsReached (code_of program) settings (state_of program settings journal)
    reached = record { journal = journal; legal = legal; its_last = refl }

    its_live : is_live (goroutine s g) ≡ true
    its_live = runner_live program settings s reached range (map standing s.goroutines) (standing_bodies s) w g may.runs

    -- the points of a Run are local
    pub run_within : (place : Progress) → place ≡ standing (goroutine s g) → n ≤ ahead_at program place
    run_within place there =
        subst (λ (p : Progress). n ≤ ahead_at program p) ((standing_bodies s).live g its_live ∙ sym there)
        (run_ahead program settings s reached range (map standing s.goroutines) (standing_bodies s) w g n may)

    -- A Run that doesn't end the trace leaves its goroutine ahead of the body.
    pub run_ahead_of : (row : Row) (carried : Carried) → row ≡ row_of g (goroutine s g) → progress_of carried.body ≡ progress_in row → StandsIn program carried.body →
        applied (code_of program) settings (state_of program settings journal) (Run w g n) ≡ Plain false → carried.share.row ≡ told_row (Run w g n) (Plain false) row → IsAhead program n carried
    run_ahead_of row carried is place stands on told = record {
      within = run_within (progress_of carried.body) (place ∙ ap progress_in is);
      row = ap progress_in told ∙ ap (further n) (sym place);
      live = still_live (Run w g n) g row carried.share.row may refl is its_live (told ∙ ap (λ (a : Applied). told_row (Run w g n) a row) (sym on)) (ap dies on);
      stands = stands;
    }

-- A body that has passed the points by which its goroutine was ahead is in step with its row.
pub advanced : (program : Parts) (n : ℕ) (carried : Carried) (body : Body) → IsAhead program n carried → progress_of body ≡ further n (progress_of carried.body) → StandsIn program body →
    IsInStep program (record { body = body; share = carried.share })
advanced program n carried body ahead place stands = record { progress = place ∙ sym ahead.row; stands = stands }
