-- A world keeps what it keeps over each kind of entry.
use Rattle.std.proofs.Common.{◌≡◌, ◌⊎◌, inl, inr, ◌+◌, ◌*◌, ◌^◌, ◌<◌, ◌≤◌, ℕ, Bool, true, false, List, [], ◌∷◌, ◌++◌, length, get_or, set, Option, Some, None, if◌then◌else◌, refl, sym, ap, ◌∙◌, subst, arith, get_or-set_other, length-set, true≢false}
use Rattle.std.specs.List.{AllByRecursion}
use Rattle.std.proofs.lemmas.Bool.{cases_eq}
use Rattle.std.proofs.lemmas.List.{length_push}
use Rattle.gp_isa.specs.declared.parts.Parts.{Parts}
use Rattle.gp_stack.specs.Body.{Progress, HasRoom}
use Rattle.gp_stack.specs.declared.body.Body.{Body}
use Rattle.gp_journal.specs.declared.answer.Applied.{Applied}
use Rattle.gp_journal.specs.declared.answer.Applied.TheVariants.{Plain, Passed, Born, Blocked, Fault}
use Rattle.gp_journal.specs.declared.entry.Entry.{Entry}
use Rattle.gp_journal.specs.declared.goroutine.Status.{Status}
use Rattle.gp_journal.specs.declared.goroutine.Status.TheVariants.{Runnable}
use Rattle.gp_journal.specs.declared.entry.Entry.TheVariants.{Start, Run, Op, Tick, Park, Open, Refuse, Record, Close}
use Rattle.gp_journal.specs.declared.settings.Settings.{Settings}
use Rattle.gp_journal.specs.Actors.{actor_of}
use Rattle.gp_journal.specs.Answer.{applied}
use Rattle.gp_journal.specs.Bodies.{standing}
use Rattle.gp_journal.specs.Due.{IsComplete}
use Rattle.gp_journal.specs.Effect.{after}
use Rattle.gp_journal.specs.May.{May}
use Rattle.gp_journal.specs.NumberLaws.{most_entries}
use Rattle.gp_journal.specs.Reached.{IsReached}
use Rattle.gp_journal.specs.Run.{IsLegal, after_all, state_of, last}
use Rattle.gp_journal.specs.Standing.{times, without}
use Rattle.gp_journal.specs.State.{Code, State, code_of, goroutine, worker, births, live, first, is_runnable}
use Rattle.gp_journal.specs.StepLaws.{LeavesEpochs, SameEpochs, remaining, joining}
use Rattle.gp_journal.proofs.Lemmas.{IsWhole, step_epochs, step_queue, nothing_may, runnable_once, is_kept, born_cell, runnable_born, holds_runnable, appended, acts_told, times-cons, one_at, entries_are_bounded, clock_fits}
use Rattle.gp_machine.specs.Queue.{Line}
use Rattle.gp_cpu.specs.Samples.{sampled_at}
use Rattle.gp_samples.specs.RunRing.{sample_at}
use Rattle.gp_tally.specs.declared.row.Row.{Row}
use Rattle.gp_world.specs.declared.ring_end.RingEnd.{RingEnd}
use Rattle.gp_world.specs.declared.world.Numbers.{Numbers}
use Rattle.gp_world.specs.Calls.{live_at_open, live_at_open_from}
use Rattle.gp_world.specs.Rows.{blank, worker_row, runs_one, has_finished}
use Rattle.gp_world.specs.kept.World.{picks_by, TellsProfiles, AreRows, AreUnborn, AreNumbers, IsWorld}
use Rattle.gp_world.specs.RingEnds.{with_sampled}
use Rattle.gp_world.specs.kept.Ending.{MayOffer}
use Rattle.gp_world.specs.kept.Entering.{IsMine, IsQuiet, MayJoin, HandsOut, IsSpare}
use Rattle.gp_world.proofs.RingEnds.{end_then, may_offer}
use Rattle.gp_world.proofs.Rows.{LeavesOthers, whole_now, then_is, leaves_others, times_append, times_gone, times_left, rows_set, waits_worker, tells_on, not_finished, picks_none, on_worker, with_is, busy_picks_none, runs_by, picks_one, picks_no_other}

-- ---- numbers kept beside

-- an entry that opens no profile
abbrev pub OpensNothing : Entry → Type 0
OpensNothing (Open epoch room) = ⊥
OpensNothing _ = Unit {0}

expected_append : (code : Code) (settings : Settings) (s : State) (n : ℕ) (xs : List Entry) (entry : Entry) →
    live_at_open_from code settings s n (xs ++ entry ∷ []) ≡ live_at_open_from code settings (after_all code settings s xs) (live_at_open_from code settings s n xs) (entry ∷ [])
expected_append code settings s n [] entry = refl
expected_append code settings s n (Open epoch room ∷ xs) entry = expected_append code settings (after code settings s (Open epoch room)) (live s) xs entry
expected_append code settings s n (x ∷ xs) entry = expected_append code settings (after code settings s x) n xs entry

expected_one : (code : Code) (settings : Settings) (s : State) (n : ℕ) (entry : Entry) → OpensNothing entry → live_at_open_from code settings s n (entry ∷ []) ≡ n
expected_one code settings s n (Open epoch room) none = absurd none
expected_one code settings s n entry none = refl

pub expected_stays : (code : Code) (settings : Settings) (journal : List Entry) (entry : Entry) → OpensNothing entry → live_at_open code settings (journal ++ entry ∷ []) ≡ live_at_open code settings journal
unfolding live_at_open
expected_stays code settings journal entry none =
    expected_append code settings (first code settings) 0 journal entry
    ∙ expected_one code settings (last code settings journal) (live_at_open_from code settings (first code settings) 0 journal) entry none

pub expected_opened : (code : Code) (settings : Settings) (journal : List Entry) (epoch room : ℕ) → live_at_open code settings (journal ++ Open epoch room ∷ []) ≡ live (last code settings journal)
unfolding live_at_open
expected_opened code settings journal epoch room = expected_append code settings (first code settings) 0 journal (Open epoch room)

pub expected_first : (code : Code) (settings : Settings) → live_at_open code settings [] ≡ 0
unfolding live_at_open
expected_first code settings = refl

-- ---- who is born

abbrev pub born_by : Applied → ℕ
born_by (Born g died) = 1
born_by _ = 0

pub births_after : (code : Code) (settings : Settings) (s : State) (entry : Entry) → IsWhole s → births (after code settings s entry) ≡ births s + born_by (applied code settings s entry)
unfolding after
births_after code settings s (Start w g) whole = length-set s.goroutines g _ ∙ omega arith
births_after code settings s (Run w g n) whole = length-set s.goroutines g _ ∙ omega arith
births_after code settings s (Op w g) whole =
    acts_told code settings w g s (λ t told. births t ≡ births s + born_by told) whole (record {
      stays = omega arith;
      resumed = length-set _ g _ ∙ length-set s.goroutines g _ ∙ omega arith;
      passed = λ cs ms. length-set s.goroutines g _ ∙ omega arith;
      woke = λ cs ms h since contended blocked. length-set _ g _ ∙ length-set s.goroutines h _ ∙ omega arith;
      blocked = λ cs ms. length-set s.goroutines g _ ∙ omega arith;
      faulted = λ cause cs ms some. length-set s.goroutines g _ ∙ omega arith;
      bore = λ function room. length-set _ g _ ∙ length_push s.goroutines _ ∙ omega arith;
    })
births_after code settings s (Tick w g) whole = omega arith
births_after code settings s (Park w g) whole = length-set s.goroutines g _ ∙ omega arith
births_after code settings s (Open epoch room) whole = omega arith
births_after code settings s (Refuse room n) whole = omega arith
births_after code settings s (Record actor g) whole = length-set s.goroutines g _ ∙ omega arith
births_after code settings s (Close epoch) whole = omega arith

-- ---- a world and a legal entry

-- where nobody is born the bodies of those not yet born stay
unborn_stay : (program : Parts) (settings : Settings) (journal : List Entry) (made : Entry) (unborn : List Body) → IsLegal (code_of program) settings journal → AreUnborn program settings journal unborn →
    born_by (applied (code_of program) settings (state_of program settings journal) made) ≡ 0 → AreUnborn program settings (journal ++ made ∷ []) unborn
unborn_stay program settings journal made unborn legal it none = record {
  each =
      let more = births_after (code_of program) settings (state_of program settings journal) made (whole_now program settings journal legal) in
      let same = ap births (then_is program settings journal legal made) in
      let all = it.each in
      omega arith;
  vacant = it.vacant;
}

all_but_last : (program : Parts) (xs : List Body) (x : Body) → AllByRecursion (HasRoom program) (xs ++ x ∷ []) → AllByRecursion (HasRoom program) xs × HasRoom program x
all_but_last program [] x all = (tt, all.0)
all_but_last program (y ∷ xs) x all = let rest = all_but_last program xs x all.1 in ((all.0, rest.0), rest.1)

-- ---- who joins the queue, and who leaves it

one_joins : (made : Entry) (told : Applied) → (joining made told ≡ []) ⊎ ((g : ℕ) × (joining made told ≡ g ∷ []))
one_joins (Park w g) told = inr (g, refl)
one_joins made (Passed (Some woken) event died) = inr (woken.g, refl)
one_joins made (Passed None event died) = inl refl
one_joins made (Born g died) = inr (g, refl)
one_joins made (Plain died) = inl refl
one_joins made Blocked = inl refl
one_joins made (Fault cause) = inl refl

-- where somebody joins the queue nobody leaves it
keeps_queue : (code : Code) (settings : Settings) (s : State) (made : Entry) (g : ℕ) → times g (joining made (applied code settings s made)) ≡ 1 → (queue : List ℕ) → remaining made queue ≡ queue
keeps_queue code settings s (Start w h) g one queue = absurd (omega arith)
keeps_queue code settings s made g one queue = refl

is_one : (b : Bool) → 1 ≤ (if b then 1 else 0) → b ≡ true
is_one true some = refl
is_one false some = absurd (omega arith)

runnable_is : (status : Status) → is_runnable status ≡ true → status ≡ Runnable
runnable_is Runnable e = refl
runnable_is status e = absurd (true≢false (sym e))

-- Who leaves it with an entry was picked by the worker that makes it.
leaves_one : (code : Code) (settings : Settings) (s : State) → IsReached code settings s → (made : Entry) (row : Row) → May code settings s made → IsMine made row → (h : ℕ) →
    times h (remaining made s.queue) + picks_by row h ≡ times h s.queue
leaves_one code settings s reached (Start w g) row may mine h = by (cases_eq g h)
  where
    by : (g ≡ h) ⊎ (g ≡ h → ⊥) → times h (without g s.queue) + picks_by row h ≡ times h s.queue
    by (inl same) =
        subst (λ n. times n (without g s.queue) + picks_by row n ≡ times n s.queue) same
        (omega (arith, times_gone g s.queue, picks_one row g mine.0 mine.1, runnable_once code settings s reached g may.runnable))
    by (inr other) = omega (arith, times_left h g s.queue other, picks_no_other row g h mine.0 mine.1 other)
leaves_one code settings s reached made row may mine h = let none = busy_picks_none row h mine in omega arith

-- ---- what entries that are quiet don't do

pub record LeavesMuch (code : Code) (settings : Settings) (s : State) (made : Entry) : Type 0 where
  pub epochs : LeavesEpochs made
  pub opens : OpensNothing made
  pub bears : born_by (applied code settings s made) ≡ 0
  pub samples : sampled_at code s made ≡ []

pub quiet_leaves : (code : Code) (settings : Settings) (s : State) (made : Entry) → IsQuiet made → LeavesMuch code settings s made
quiet_leaves code settings s (Start w g) quiet = record { epochs = tt; opens = tt; bears = refl; samples = refl }
quiet_leaves code settings s (Run w g n) quiet = record { epochs = tt; opens = tt; bears = refl; samples = refl }
quiet_leaves code settings s (Park w g) quiet = record { epochs = tt; opens = tt; bears = refl; samples = refl }
quiet_leaves code settings s made quiet = absurd quiet

module _ (program : Parts) (settings : Settings) (journal : List Entry) (line : Line) (ring : RingEnd) (rows : List Row) (unborn : List Body) (numbers : Numbers)
    (it : IsWorld program settings journal line ring rows unborn numbers) (made : Entry) (may : May (code_of program) settings (state_of program settings journal) made) where
  abbrev now : State
  now = state_of program settings journal

  abbrev longer : List Entry
  longer = journal ++ made ∷ []

  abbrev told : Applied
  told = applied (code_of program) settings now made

  whole : IsWhole now
  whole = whole_now program settings journal it.legal

  pub going : IsComplete settings now → ⊥
  going complete = nothing_may (code_of program) settings now whole complete made may

  pub legal_then : IsLegal (code_of program) settings longer
  legal_then = appended (code_of program) settings (first (code_of program) settings) journal made it.legal may

  reached : IsReached (code_of program) settings now
  reached = record { journal = journal; legal = it.legal; its_last = refl }

  reached_then : IsReached (code_of program) settings (state_of program settings longer)
  reached_then = record { journal = longer; legal = legal_then; its_last = refl }

  then_after : state_of program settings longer ≡ after (code_of program) settings now made
  then_after = then_is program settings journal it.legal made

  -- the number of workers after it
  pub workers_then : length (state_of program settings longer).workers ≡ settings.workers
  workers_then = (is_kept (code_of program) settings (state_of program settings longer) reached_then it.in_range).numbered.number

  pub ring_open : (get_or rows settings.workers blank).a < has_finished
  ring_open = not_finished settings now (get_or rows settings.workers blank) it.its_rows.profiles going

  -- The world once rows, line, bodies and numbers go with the entry.
  pub enters : (later : Line) (sampled : RingEnd) (set_rows : List Row) (left : List Body) (counts : Numbers) → later.cells ≡ line.cells → AreRows program settings longer later.items set_rows →
      (get_or set_rows settings.workers blank).a < has_finished → sampled ≡ with_sampled ring sampled (sampled_at (code_of program) now made) →
      AreUnborn program settings longer left → AreNumbers program settings longer counts → IsWorld program settings longer later sampled set_rows left counts
  enters later sampled set_rows left counts cells are_rows unfinished offered are_unborn are_numbers = record {
    in_range = it.in_range;
    legal = legal_then;
    its_cells = cells ∙ it.its_cells;
    its_rows = are_rows;
    its_ring = end_then program settings journal made (get_or rows settings.workers blank).a (get_or set_rows settings.workers blank).a ring sampled ring_open unfinished it.its_ring offered;
    its_unborn = are_unborn;
    its_numbers = are_numbers;
  }

  pub unborn_then : born_by told ≡ 0 → AreUnborn program settings longer unborn
  unborn_then none = unborn_stay program settings journal made unborn it.legal it.its_unborn none

  pub numbers_then : OpensNothing made → AreNumbers program settings longer numbers
  numbers_then none = record {
    its_workers = it.its_numbers.its_workers;
    its_room = it.its_numbers.its_room;
    its_expected = it.its_numbers.its_expected ∙ sym (expected_stays (code_of program) settings journal made none);
  }

  -- the queue after it
  queue_then : (g : ℕ) → times g (state_of program settings longer).queue ≡ times g (remaining made now.queue) + times g (joining made told)
  queue_then g =
      ap (times g) (ap (λ (t : State). t.queue) then_after ∙ step_queue (code_of program) settings now made whole) ∙ times_append g (remaining made now.queue) (joining made told)

  -- Who joins the queue has a cell, and waits nowhere.
  joins : (g : ℕ) → times g (joining made told) ≡ 1 → (g < line.cells) × (times g line.items ≡ 0)
  joins g one =
      let next = state_of program settings longer in
      let held = holds_runnable (code_of program) settings next reached_then g in
      let runnable = runnable_is (goroutine next g).status (is_one (is_runnable (goroutine next g).status) (let all = queue_then g in omega arith)) in
      let cells = it.its_cells in
      let cell = born_cell (code_of program) settings next reached_then it.in_range g (runnable_born (code_of program) settings next reached_then g runnable) in
      let once = runnable_once (code_of program) settings next reached_then g runnable in
      let same = ap (times g) (keeps_queue (code_of program) settings now made g one now.queue) in
      (omega arith, omega (arith, it.its_rows.waits g, queue_then g))

  pub may_join : MayJoin line (joining made told)
  may_join = by (one_joins made told)
    where
      by : (joining made told ≡ []) ⊎ ((g : ℕ) × (joining made told ≡ g ∷ [])) → MayJoin line (joining made told)
      by (inl none) = subst (MayJoin line) (sym none) tt
      by (inr one) = subst (MayJoin line) (sym one.1) (joins one.0 (ap (times one.0) one.1 ∙ times-cons one.0 one.0 [] ∙ ap (λ n. n + 0) (one_at one.0)))

  -- ---- the rows after an entry of a worker

  module _ (w : ℕ) (few : w < settings.workers) (actor : actor_of settings.workers made ≡ w) (leaves : LeavesEpochs made) (mine : IsMine made (get_or rows w blank)) where
    abbrev row : Row
    row = worker_row program settings longer w

    abbrev runs_then : Option ℕ
    runs_then = (worker (state_of program settings longer) w).runs

    -- who leaves the queue was picked by the worker
    leaves_queue : (h : ℕ) → times h (remaining made now.queue) + picks_by (get_or rows w blank) h ≡ times h now.queue
    leaves_queue h = leaves_one (code_of program) settings now reached made (get_or rows w blank) may mine h

    profiler_stays : get_or (set rows w row) settings.workers blank ≡ get_or rows settings.workers blank
    profiler_stays = get_or-set_other rows w settings.workers row blank (λ same. absurd (omega arith))

    epochs_stay : SameEpochs now (state_of program settings longer)
    epochs_stay = subst (SameEpochs now) (sym then_after) (step_epochs (code_of program) settings now made whole leaves)

    pub rows_by_worker : AreRows program settings longer (line.items ++ joining made told) (set rows w row)
    rows_by_worker =
        rows_set program settings journal longer line.items (line.items ++ joining made told) rows w row it.its_rows
        (subst (LeavesOthers program settings journal longer) actor (leaves_others program settings journal it.legal made)) (omega arith)
        (with_is program settings longer w runs_then) (λ below. on_worker program settings longer w runs_then)
        (λ g. waits_worker program settings journal longer line.items (line.items ++ joining made told) rows w row it.its_rows few g
        (omega (arith, times_append g line.items (joining made told), picks_none program settings longer w g runs_then, leaves_queue g, queue_then g)))
        (subst (TellsProfiles settings (state_of program settings longer)) (sym profiler_stays)
        (tells_on settings now (state_of program settings longer) (get_or rows settings.workers blank) it.its_rows.profiles epochs_stay going))

    pub finished_not : (get_or (set rows w row) settings.workers blank).a < has_finished
    finished_not = subst (λ (r : Row). r.a < has_finished) (sym profiler_stays) ring_open

    -- the world after it, once line, ring and bodies go with it
    pub worker_enters : (after_it : Line) (sampled : RingEnd) (left : List Body) → after_it.cells ≡ line.cells → after_it.items ≡ line.items ++ joining made told → sampled ≡ with_sampled ring sampled (sampled_at (code_of program) now made) →
        AreUnborn program settings longer left → OpensNothing made → IsWorld program settings longer after_it sampled (set rows w row) left numbers
    worker_enters after_it sampled left cells items offered are_unborn opens =
        enters after_it sampled (set rows w row) left numbers cells (subst (λ items. AreRows program settings longer items (set rows w row)) (sym items) rows_by_worker) finished_not offered are_unborn (numbers_then opens)

    -- and after one that is quiet
    pub quiet_enters : LeavesMuch (code_of program) settings now made → IsWorld program settings longer (record line { items = line.items ++ joining made told }) ring (set rows w row) unborn numbers
    quiet_enters much =
        worker_enters (record line { items = line.items ++ joining made told }) ring unborn refl refl (ap (with_sampled ring ring) (sym much.samples)) (unborn_then much.bears) much.opens

  -- A worker that runs somebody may make each entry of its own but a Start.
  pub mine_due : (w g : ℕ) → w < settings.workers → (worker now w).runs ≡ Some g → (get_or rows w blank).a ≡ runs_one
  mine_due w g few runs = runs_by (get_or rows w blank) g (sym (it.its_rows.works w few) ∙ runs)

  -- ---- what a Tick asks for

  pub few_entries : length journal < most_entries settings
  few_entries = let all = entries_are_bounded (code_of program) settings longer it.in_range legal_then in let more = length_push journal made in omega arith

  pub time_fits : 1000 * now.clock < 2 ^ 64
  time_fits = let low = clock_fits (code_of program) settings now reached it.in_range in omega arith

  pub sample_may_be_offered : (g : ℕ) (place : Progress) → place ≡ standing (goroutine now g) → MayOffer ring (sample_at program now.clock place)
  sample_may_be_offered g place stands = may_offer program settings journal (get_or rows settings.workers blank).a ring it.in_range ring_open it.its_ring g place stands few_entries

  -- ---- who is born

  -- The body that is handed out for one that is born was the last of those left.
  handed : (left : List Body) (spare : Option Body) (told_it : Applied) → told_it ≡ told → HandsOut told_it unborn left spare
      → (length left + born_by told_it ≡ length unborn) × ((AllByRecursion (HasRoom program) left) × IsSpare program told_it spare)
  handed left (Some body) (Born h died) same is =
      let parts = all_but_last program left body (subst (AllByRecursion (HasRoom program)) is it.its_unborn.vacant) in
      (sym (length_push left body) ∙ ap length (sym is), (parts.0, parts.1))
  handed left None (Born h died) same is =
      let next = state_of program settings longer in
      let few = (is_kept (code_of program) settings next reached_then it.in_range).numbered.born_bound in
      let more = ap births then_after ∙ births_after (code_of program) settings now made whole ∙ ap (λ a. births now + born_by a) (sym same) in
      let all = it.its_unborn.each in
      let none = ap length is in
      absurd (omega arith)
  handed left spare (Plain died) same is = (ap (λ n. n + 0) (ap length is) ∙ omega arith, (subst (AllByRecursion (HasRoom program)) (sym is) it.its_unborn.vacant, tt))
  handed left spare (Passed woke event died) same is = (ap (λ n. n + 0) (ap length is) ∙ omega arith, (subst (AllByRecursion (HasRoom program)) (sym is) it.its_unborn.vacant, tt))
  handed left spare Blocked same is = (ap (λ n. n + 0) (ap length is) ∙ omega arith, (subst (AllByRecursion (HasRoom program)) (sym is) it.its_unborn.vacant, tt))
  handed left spare (Fault cause) same is = (ap (λ n. n + 0) (ap length is) ∙ omega arith, (subst (AllByRecursion (HasRoom program)) (sym is) it.its_unborn.vacant, tt))

  pub unborn_handed : (left : List Body) (spare : Option Body) → HandsOut told unborn left spare → AreUnborn program settings longer left
  unborn_handed left spare is =
      let parts = handed left spare told refl is in
      record {
        each =
            let more = ap births then_after ∙ births_after (code_of program) settings now made whole in
            let all = it.its_unborn.each in
            let count = parts.0 in
            omega arith;
        vacant = parts.1.0;
      }

  pub spare_handed : (left : List Body) (spare : Option Body) → HandsOut told unborn left spare → IsSpare program told spare
  spare_handed left spare is = (handed left spare told refl is).1.1
