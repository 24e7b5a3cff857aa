-- A world keeps what it keeps over each entry of the profiler, over each Record, and once the profiler has finished.
use Rattle.std.proofs.Common.{◌≡◌, ◌⊎◌, inl, inr, ◌+◌, ◌^◌, ◌<◌, ◌≤◌, ◌==◌, ℕ, Bool, true, false, List, [], ◌∷◌, ◌++◌, length, get_or, set, Some, None, if◌then◌else◌, refl, sym, ap, ◌∙◌, subst, arith, get_or-set_same, get_or-set_other}
use Rattle.std.specs.List.{slice_get}
use Rattle.std.proofs.lemmas.Bool.{cases_eq, cases_lt}
use Rattle.std.proofs.lemmas.Option.{get_or_from_slice_get, slice_get_within}
use Rattle.gp_isa.specs.declared.parts.Parts.{Parts}
use Rattle.gp_stack.specs.declared.body.Body.{Body}
use Rattle.gp_journal.specs.declared.entry.Entry.{Entry}
use Rattle.gp_journal.specs.declared.entry.Entry.TheVariants.{Open, Refuse, Record, Close}
use Rattle.gp_journal.specs.declared.goroutine.Worker.{Worker}
use Rattle.gp_journal.specs.declared.settings.Settings.{Settings}
use Rattle.gp_journal.specs.Actors.{actor_of}
use Rattle.gp_journal.specs.Answer.{applied}
use Rattle.gp_journal.specs.Due.{IsComplete}
use Rattle.gp_journal.specs.Effect.{after}
use Rattle.gp_journal.specs.May.{May}
use Rattle.gp_journal.specs.Reached.{IsReached}
use Rattle.gp_journal.specs.Run.{state_of}
use Rattle.gp_journal.specs.Standing.{times}
use Rattle.gp_journal.specs.State.{Code, State, resting, code_of, goroutine, worker, live, is_live}
use Rattle.gp_journal.specs.StepLaws.{SameEpochs}
use Rattle.gp_journal.proofs.Lemmas.{step_epochs, is_kept, runs_there, live_status}
use Rattle.gp_machine.specs.Queue.{Line}
use Rattle.gp_cpu.specs.Samples.{sampled_at}
use Rattle.gp_tally.specs.declared.row.Row.{Row}
use Rattle.gp_world.specs.declared.ring_end.RingEnd.{RingEnd}
use Rattle.gp_world.specs.declared.ring_end.RingEnd.TheVariants.{Settled}
use Rattle.gp_world.specs.declared.world.Numbers.{Numbers}
use Rattle.gp_world.specs.RingEnds.{with_sampled, shut_of}
use Rattle.gp_world.specs.kept.Ending.{IsEnd}
use Rattle.gp_world.proofs.RingEnds.{shut_end}
use Rattle.gp_world.specs.Rows.{blank, row_of, profiler_row, finished_row, settled_row, has_picked, runs_one, between_profiles, within_profile, has_finished, on_of}
use Rattle.gp_world.specs.kept.World.{picks, picks_by, TellsProfiles, AreNumbers, IsWorld}
use Rattle.gp_world.proofs.Picked.{pick_stands}
use Rattle.gp_world.proofs.Rows.{LeavesOthers, leaves_all, whole_now, then_is, leaves_others, rows_set, waits_worker, waits_profiler, tells_on, tells_now}
use Rattle.gp_world.proofs.Entering.{born_by, expected_opened, going, ring_open, enters, unborn_then, numbers_then}

-- ---- what the profiler's entries leave

record_workers : (code : Code) (settings : Settings) (s : State) (actor g : ℕ) → (after code settings s (Record actor g)).workers ≡ s.workers
unfolding after
record_workers code settings s actor g = refl

record_queue : (code : Code) (settings : Settings) (s : State) (actor g : ℕ) → (after code settings s (Record actor g)).queue ≡ s.queue
unfolding after
record_queue code settings s actor g = refl

pub open_queue : (code : Code) (settings : Settings) (s : State) (epoch room : ℕ) → (after code settings s (Open epoch room)).queue ≡ s.queue
unfolding after
open_queue code settings s epoch room = refl

pub refuse_queue : (code : Code) (settings : Settings) (s : State) (room n : ℕ) → (after code settings s (Refuse room n)).queue ≡ s.queue
unfolding after
refuse_queue code settings s room n = refl

pub close_queue : (code : Code) (settings : Settings) (s : State) (epoch : ℕ) → (after code settings s (Close epoch)).queue ≡ s.queue
unfolding after
close_queue code settings s epoch = refl

-- two rows with the same first numbers tell the same of profiles
tells_same : (settings : Settings) (s : State) (old new : Row) → new.a ≡ old.a → new.b ≡ old.b → TellsProfiles settings s old → TellsProfiles settings s new
tells_same settings s old new a b tells = record {
  epoch = b ∙ tells.epoch;
  is_one = subst (λ n. ((n ≡ between_profiles) × (s.active ≡ 0)) ⊎ (((n ≡ within_profile) × (0 < s.active)) ⊎ ((has_finished ≤ n) × IsComplete settings s))) (sym a) tells.is_one;
}

-- the row of the profiler that hasn't finished says so
unfinished : (active : ℕ) → (if active == 0 then between_profiles else within_profile) < has_finished
unfinished active = by (active == 0)
  where
    by : (b : Bool) → (if b then between_profiles else within_profile) < has_finished
    by true = omega arith
    by false = omega arith

module _ (program : Parts) (settings : Settings) (journal : List Entry) (line : Line) (ring : RingEnd) (rows : List Row) (unborn : List Body) (numbers : Numbers)
    (it : IsWorld program settings journal line ring rows unborn numbers) where
  abbrev now : State
  now = state_of program settings journal

  reached : IsReached (code_of program) settings now
  reached = record { journal = journal; legal = it.legal; its_last = refl }

  -- how many workers there are
  pub workers_now : length now.workers ≡ settings.workers
  workers_now = (is_kept (code_of program) settings now reached it.in_range).numbered.number

  -- The next epoch fits.
  pub epoch_fits : now.last_epoch + 1 < 2 ^ 32
  epoch_fits = let some = (is_kept (code_of program) settings now reached it.in_range).numbered.epochs in let few = it.in_range.few_requests in omega arith

  -- ---- an entry of the profiler, but for a Record

  module _ (made : Entry) (may : May (code_of program) settings now made) where
    abbrev longer : List Entry
    longer = journal ++ made ∷ []

    pub profiler_enters : (counts : Numbers) → actor_of settings.workers made ≡ settings.workers → (after (code_of program) settings now made).queue ≡ now.queue →
        born_by (applied (code_of program) settings now made) ≡ 0 → sampled_at (code_of program) now made ≡ [] → AreNumbers program settings longer counts →
        IsWorld program settings longer line ring (set rows settings.workers (profiler_row program settings longer)) unborn counts
    profiler_enters counts actor queue bears samples are_numbers =
        let row = profiler_row program settings longer in
        let later = then_is program settings journal it.legal made in
        let within : settings.workers < length rows = let all = it.its_rows.actors in omega arith in
        let mine = get_or-set_same rows settings.workers row blank within in
        enters program settings journal line ring rows unborn numbers it made may line ring (set rows settings.workers row) unborn counts refl
        (rows_set program settings journal longer line.items line.items rows settings.workers row it.its_rows
        (subst (LeavesOthers program settings journal longer) actor (leaves_others program settings journal it.legal made)) (omega arith) refl
        (λ below. absurd (omega arith))
        (waits_profiler program settings journal longer line.items rows row it.its_rows (ap (λ (t : State). t.queue) later ∙ queue))
        (subst (TellsProfiles settings (state_of program settings longer)) (sym mine) (tells_now program settings longer)))
        (subst (λ (r : Row). r.a < has_finished) (sym mine) (unfinished (state_of program settings longer).active))
        (ap (with_sampled ring ring) (sym samples))
        (unborn_then program settings journal line ring rows unborn numbers it made may bears)
        are_numbers

  -- the number that is kept beside where a profile is opened
  pub numbers_opened : (epoch room : ℕ) → AreNumbers program settings (journal ++ Open epoch room ∷ []) (record numbers { expected = live now })
  numbers_opened epoch room = record {
    its_workers = it.its_numbers.its_workers;
    its_room = it.its_numbers.its_room;
    its_expected = sym (expected_opened (code_of program) settings journal epoch room);
  }

  -- ---- a Record

  module _ (actor g : ℕ) (may : May (code_of program) settings now (Record actor g)) (few : actor ≤ settings.workers) where
    abbrev recorded : List Entry
    recorded = journal ++ Record actor g ∷ []

    abbrev old : Row
    old = get_or rows actor blank

    abbrev new : Row
    new = row_of program settings recorded actor old.a old.b

    later : state_of program settings recorded ≡ after (code_of program) settings now (Record actor g)
    later = then_is program settings journal it.legal (Record actor g)

    within : actor < length rows
    within = let all = it.its_rows.actors in omega arith

    same_workers : (state_of program settings recorded).workers ≡ now.workers
    same_workers = ap (λ (t : State). t.workers) later ∙ record_workers (code_of program) settings now actor g

    same_queue : (state_of program settings recorded).queue ≡ now.queue
    same_queue = ap (λ (t : State). t.queue) later ∙ record_queue (code_of program) settings now actor g

    same_epochs : SameEpochs now (state_of program settings recorded)
    same_epochs = subst (SameEpochs now) (sym later) (step_epochs (code_of program) settings now (Record actor g) (whole_now program settings journal it.legal) tt)

    -- the profiler's row has the same first numbers
    first_same : ((get_or (set rows actor new) settings.workers blank).a ≡ (get_or rows settings.workers blank).a) × ((get_or (set rows actor new) settings.workers blank).b ≡ (get_or rows settings.workers blank).b)
    first_same = by (cases_eq settings.workers actor)
      where
        by : (settings.workers ≡ actor) ⊎ (settings.workers ≡ actor → ⊥)
            → ((get_or (set rows actor new) settings.workers blank).a ≡ (get_or rows settings.workers blank).a) × ((get_or (set rows actor new) settings.workers blank).b ≡ (get_or rows settings.workers blank).b)
        by (inl same) =
            let here = ap (λ n. get_or (set rows actor new) n blank) same ∙ get_or-set_same rows actor new blank within in
            let was = ap (λ n. get_or rows n blank) (sym same) in
            (ap (λ (r : Row). r.a) here ∙ ap (λ (r : Row). r.a) was, ap (λ (r : Row). r.b) here ∙ ap (λ (r : Row). r.b) was)
        by (inr other) = let e = get_or-set_other rows actor settings.workers new blank other in (ap (λ (r : Row). r.a) e, ap (λ (r : Row). r.b) e)

    waits_same : (h : ℕ) → times h line.items + picks (set rows actor new) settings.workers h ≡ times h (state_of program settings recorded).queue
    waits_same h = by (cases_lt actor settings.workers)
      where
        by : (actor < settings.workers) ⊎ (settings.workers ≤ actor) → times h line.items + picks (set rows actor new) settings.workers h ≡ times h (state_of program settings recorded).queue
        by (inl below) =
            waits_worker program settings journal recorded line.items line.items rows actor new it.its_rows below h
            (let same = ap (times h) same_queue in let as_before : picks_by new h ≡ picks_by old h = refl in omega arith)
        by (inr above) =
            let is : settings.workers ≡ actor = omega arith in
            subst (λ n. times h line.items + picks (set rows n new) settings.workers h ≡ times h (state_of program settings recorded).queue) is
            (waits_profiler program settings journal recorded line.items rows new it.its_rows same_queue h)

    pub record_enters : IsWorld program settings recorded line ring (set rows actor new) unborn numbers
    record_enters =
        enters program settings journal line ring rows unborn numbers it (Record actor g) may line ring (set rows actor new) unborn numbers refl
        (rows_set program settings journal recorded line.items line.items rows actor new it.its_rows (leaves_others program settings journal it.legal (Record actor g)) few refl
        (λ below. ap (λ (ws : List Worker). (get_or ws actor resting).runs) same_workers ∙ it.its_rows.works actor below)
        waits_same
        (tells_same settings (state_of program settings recorded) (get_or rows settings.workers blank) (get_or (set rows actor new) settings.workers blank) first_same.0 first_same.1
        (tells_on settings now (state_of program settings recorded) (get_or rows settings.workers blank) it.its_rows.profiles same_epochs (going program settings journal line ring rows unborn numbers it (Record actor g) may))))
        (subst (λ n. n < has_finished) (sym first_same.0) (ring_open program settings journal line ring rows unborn numbers it (Record actor g) may))
        refl
        (unborn_then program settings journal line ring rows unborn numbers it (Record actor g) may refl)
        (numbers_then program settings journal line ring rows unborn numbers it (Record actor g) may tt)

  -- ---- the profiler finishes, and the ring is settled

  -- the profiler's row alone is set, of a run that is complete, and the ring's end goes with it
  ends : (row : Row) (next : RingEnd) → row ≡ row_of program settings journal settings.workers row.a row.b → row.b ≡ now.last_epoch → has_finished ≤ row.a → IsComplete settings now → IsEnd program settings journal row.a next →
      IsWorld program settings journal line next (set rows settings.workers row) unborn numbers
  ends row next counted epoch done complete is_end =
      let within : settings.workers < length rows = let all = it.its_rows.actors in omega arith in
      let mine = get_or-set_same rows settings.workers row blank within in
      record {
        in_range = it.in_range;
        legal = it.legal;
        its_cells = it.its_cells;
        its_rows =
            rows_set program settings journal journal line.items line.items rows settings.workers row it.its_rows (leaves_all program settings journal settings.workers) (omega arith) counted
            (λ below. absurd (omega arith))
            (waits_profiler program settings journal journal line.items rows row it.its_rows refl)
            (subst (TellsProfiles settings now) (sym mine) (record { epoch = epoch; is_one = inr (inr (done, complete)) }));
        its_ring = subst (λ (r : Row). IsEnd program settings journal r.a next) (sym mine) is_end;
        its_unborn = it.its_unborn;
        its_numbers = it.its_numbers;
      }

  pub shuts : IsComplete settings now → (get_or rows settings.workers blank).a < has_finished → IsWorld program settings journal line (shut_of ring) (set rows settings.workers (finished_row program settings journal)) unborn numbers
  shuts complete below =
      ends (finished_row program settings journal) (shut_of ring) refl refl (omega arith) complete (shut_end program settings journal (get_or rows settings.workers blank).a ring below it.its_ring)

  pub settles : IsComplete settings now → IsWorld program settings journal line Settled (set rows settings.workers (settled_row program settings journal)) unborn numbers
  settles complete = ends (settled_row program settings journal) Settled refl refl (omega arith) complete refl

  -- ---- what a share's row tells

  module _ (number : ℕ) (row : Row) (agrees : slice_get rows number ≡ Some row) where
    its : get_or rows number blank ≡ row
    its = get_or_from_slice_get rows number row blank agrees

    -- it is of an actor, who made and ran what it says,
    pub is_actor : number < settings.workers + 1
    is_actor = let within = slice_get_within rows number row agrees in let all = it.its_rows.actors in omega arith

    pub counts : row ≡ row_of program settings journal number row.a row.b
    counts = subst (λ (r : Row). r ≡ row_of program settings journal number r.a r.b) its (it.its_rows.counted number (let few = is_actor in omega arith))

    -- a worker runs whom it says,
    pub works : number < settings.workers → (worker now number).runs ≡ on_of row
    works few = it.its_rows.works number few ∙ ap on_of its

    -- the run that the profiler has finished is complete,
    pub has_completed : number ≡ settings.workers → has_finished ≤ row.a → IsComplete settings now
    has_completed profiler done = by (it.its_rows.profiles).is_one
      where
        here : has_finished ≤ (get_or rows settings.workers blank).a
        here = subst (λ n. has_finished ≤ n) (sym (ap (λ n. (get_or rows n blank).a) (sym profiler) ∙ ap (λ (r : Row). r.a) its)) done

        by : (((get_or rows settings.workers blank).a ≡ between_profiles) × (now.active ≡ 0)) ⊎ ((((get_or rows settings.workers blank).a ≡ within_profile) × (0 < now.active))
            ⊎ ((has_finished ≤ (get_or rows settings.workers blank).a) × IsComplete settings now)) → IsComplete settings now
        by (inl none) = let a = none.0 in let b = here in absurd (omega arith)
        by (inr (inl one)) = let a = one.0 in let b = here in absurd (omega arith)
        by (inr (inr complete)) = complete.1

    -- and whom a worker has picked or runs is live, and has a cell.
    pub is_held : number < settings.workers → (row.a ≡ has_picked) ⊎ (row.a ≡ runs_one) → (is_live (goroutine now row.b) ≡ true) × (row.b < settings.cells)
    is_held few (inl picked) =
        let there = pick_stands program settings journal line ring rows unborn numbers it number few row.b (ap (λ (r : Row). r.a) its ∙ picked) (ap (λ (r : Row). r.b) its) in
        (there.live, there.cell)
    is_held few (inr busy) =
        let runs : (worker now number).runs ≡ Some row.b = works few ∙ ap (λ a. if a == runs_one then Some row.b else None) busy in
        let there = runs_there (code_of program) settings now reached it.in_range number row.b runs in
        (live_status (goroutine now row.b) there.status refl, there.is_cell)
