-- What is so of a worker that has picked a goroutine and of the entries by which it is recorded and started.
use Rattle.std.proofs.Common.{◌≡◌, ◌≢◌, ◌⊎◌, inl, inr, ◌<◌, ◌==◌, ◌||◌, ℕ, Bool, true, false, List, [], ◌∷◌, ◌++◌, Some, refl, sym, ap, ◌∙◌, arith, eq-eqb, get_or-set_same, true≢false}
use Rattle.std.proofs.lemmas.Bool.{or_parts, cases_lt, ne_eqb, eqb-false}
use Rattle.std.proofs.lemmas.List.{append_assoc}
use Rattle.gp_isa.specs.declared.parts.Parts.{Parts}
use Rattle.gp_journal.specs.declared.entry.Entry.{Entry}
use Rattle.gp_journal.specs.declared.entry.Entry.TheVariants.{Start, Record}
use Rattle.gp_journal.specs.declared.goroutine.Goroutine.{Goroutine}
use Rattle.gp_journal.specs.declared.goroutine.Worker.{Worker}
use Rattle.gp_journal.specs.declared.settings.Settings.{Settings}
use Rattle.gp_journal.specs.Due.{asked, over}
use Rattle.gp_journal.specs.Effect.{after, recorded, started}
use Rattle.gp_journal.specs.May.{May, is_recorded}
use Rattle.gp_journal.specs.Reached.{IsReached}
use Rattle.gp_journal.specs.Run.{IsLegal, state_of}
use Rattle.gp_journal.specs.State.{State, code_of, goroutine, worker, is_idle, is_live, nobody, resting}
use Rattle.gp_journal.proofs.Lemmas.{after_all-append, is_whole, live_status, behind_from, active_last, Behind, idle_within, recorded_active, runnable_born}
use Rattle.gp_tally.specs.declared.row.Row.{Row}
use Rattle.gp_world.specs.Calls.{may_not_start}
use Rattle.gp_world.specs.Rows.{row_of, row_with, worker_row, runs_one}
use Rattle.gp_world.specs.kept.Entering.{IsMine}
use Rattle.gp_world.specs.kept.Workers.{HasPicked}

-- The state after one entry more.
pub entered : (program : Parts) (settings : Settings) (journal : List Entry) (made : Entry) →
    state_of program settings (journal ++ made ∷ []) ≡ after (code_of program) settings (state_of program settings journal) made
entered program settings journal made = after_all-append (code_of program) settings _ journal (made ∷ [])

pub or_left : (a b : Bool) → a ≡ true → (a || b) ≡ true
or_left true b e = refl
or_left false b e = absurd (true≢false (sym e))

pub or_right : (a b : Bool) → b ≡ true → (a || b) ≡ true
or_right true b e = refl
or_right false b e = e

none_or_this : (active epoch : ℕ) → ((active == 0) || (epoch == active)) ≡ false → (active ≢ 0) × (epoch ≢ active)
none_or_this active epoch e = let parts = or_parts (active == 0) (epoch == active) e in (eqb-false active 0 parts.0, eqb-false epoch active parts.1)

module _ (program : Parts) (settings : Settings) (journal : List Entry) (legal : IsLegal (code_of program) settings journal) (w g : ℕ) (row : Row)
    (picked : HasPicked program settings journal w row g) where
  abbrev pub now : State
  now = state_of program settings journal

  reached : IsReached (code_of program) settings now
  reached = record { journal = journal; legal = legal; its_last = refl }

  pub its_live : is_live (goroutine now g) ≡ true
  its_live = live_status (goroutine now g) picked.runnable refl

  pub is_mine : IsMine (Start w g) row
  is_mine = (ap (λ (r : Row). r.a) picked.its_row, ap (λ (r : Row). r.b) picked.its_row)

  -- It may be started where it is recorded,
  pub may_start : may_not_start settings now ≡ false → is_recorded now g ≡ true → May (code_of program) settings now (Start w g)
  may_start may recorded =
      let parts = or_parts (asked settings now) (over settings now) may in
      record { idle = picked.idle; runnable = picked.runnable; none_asked = parts.0; not_over = parts.1; recorded = recorded }

  -- and then the worker runs it.
  pub runs_it : worker_row program settings (journal ++ Start w g ∷ []) w ≡ row_of program settings (journal ++ Start w g ∷ []) w runs_one g
  unfolding after
  runs_it =
      let runs : (worker (state_of program settings (journal ++ Start w g ∷ [])) w).runs ≡ Some g =
      ap (λ (s : State). (worker s w).runs) (entered program settings journal (Start w g))
      ∙ ap (λ (v : Worker). v.runs) (get_or-set_same now.workers w (started g (worker now w)) resting (idle_within now w picked.idle)) in
      ap (row_with program settings (journal ++ Start w g ∷ []) w) runs

  -- It may be recorded where it isn't,
  pub may_record : is_recorded now g ≡ false → May (code_of program) settings now (Record w g)
  may_record unrecorded =
      let neither = none_or_this now.active (goroutine now g).epoch unrecorded in
      let some : 0 < now.active = elim (cases_lt 0 now.active) [ inl lt ↦ lt | inr none ↦ absurd (neither.0 (omega arith)) ] in
      let whole = is_whole (code_of program) settings now reached in
      record {
        is_active = some;
        unrecorded = behind_from now.active (goroutine now g) its_live (below some neither.1 (active_last now whole some) (whole.epochs g its_live));
        recorder = or_right (w == settings.workers) (is_idle now w) picked.idle;
      }
    where
      below : 0 < now.active → (goroutine now g).epoch ≢ now.active → now.active ≡ now.last_epoch →
          ((goroutine now g).epoch ≡ now.last_epoch) ⊎ Behind now.active now.last_epoch (goroutine now g) → (goroutine now g).epoch < now.active
      below some other last (inl same) = absurd (other (omega arith))
      below some other last (inr behind) = let one_more = behind.1 in omega arith

  -- and then it is, and the worker has it still.
  abbrev pub next : State
  next = after (code_of program) settings now (Record w g)

  recorded_there : goroutine next g ≡ recorded now.active (goroutine now g)
  unfolding after
  recorded_there = get_or-set_same now.goroutines g (recorded now.active (goroutine now g)) nobody (runnable_born (code_of program) settings now reached g picked.runnable)

  pub recorded_epoch : (goroutine next g).epoch ≡ now.active
  recorded_epoch = ap (λ (it : Goroutine). it.epoch) recorded_there

  pub is_recorded_then : is_recorded next g ≡ true
  is_recorded_then =
      let active = recorded_active (code_of program) settings now w g in
      or_right (next.active == 0) ((goroutine next g).epoch == next.active) (rw (recorded_epoch, active) (eq-eqb now.active now.active refl))

  pub may_then : is_recorded now g ≡ false → over settings next ≡ false → may_not_start settings next ≡ false
  unfolding asked
  may_then unrecorded going =
      let active = recorded_active (code_of program) settings now w g in
      let neither = none_or_this now.active (goroutine now g).epoch unrecorded in
      let none : (next.active == 0) ≡ false = rw active (ne_eqb now.active 0 neither.0) in
      rw (none, going) refl

  pub picked_then : (later : Row) → later ≡ row_of program settings (journal ++ Record w g ∷ []) w row.a row.b →
      HasPicked program settings (journal ++ Record w g ∷ []) w later g
  unfolding after
  picked_then later is =
      let mine = is_mine in
      let same = entered program settings journal (Record w g) in
      record {
        its_row = is ∙ (λ i. row_of program settings (journal ++ Record w g ∷ []) w (mine.0 i) (mine.1 i));
        idle = ap (λ (s : State). is_idle s w) same ∙ picked.idle;
        runnable = ap (λ (s : State). (goroutine s g).status) same ∙ ap (λ (it : Goroutine). it.status) recorded_there ∙ picked.runnable;
      }

-- Two entries behind a journal.
pub both : (journal : List Entry) (one other : Entry) → (journal ++ one ∷ []) ++ other ∷ [] ≡ journal ++ one ∷ other ∷ []
both journal one other = append_assoc journal (one ∷ []) (other ∷ [])
