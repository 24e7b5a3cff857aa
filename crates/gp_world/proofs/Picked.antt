-- What a world keeps once who waits and one worker's row have changed together, and what is known of whom a worker has picked.
use Rattle.std.proofs.Common.{◌≡◌, ◌≢◌, ◌+◌, ◌<◌, ◌≤◌, ◌==◌, ℕ, true, false, List, [], ◌∷◌, drop, length, get_or, set, Some, None, refl, sym, ap, ◌∙◌, subst, arith, if◌then◌else◌, nat_lt, eq-eqb, get_or-set_other, length-set}
use Rattle.std.proofs.lemmas.Bool.{lt-ltb, ne_eqb}
use Rattle.std.proofs.lemmas.Option.{same_Some}
use Rattle.gp_isa.specs.declared.parts.Parts.{Parts}
use Rattle.gp_stack.specs.declared.body.Body.{Body}
use Rattle.gp_journal.specs.declared.entry.Entry.{Entry}
use Rattle.gp_journal.specs.declared.goroutine.Status.{Status}
use Rattle.gp_journal.specs.declared.goroutine.Status.TheVariants.{Runnable, Running, Blocked, Faulted, Dead}
use Rattle.gp_journal.specs.declared.settings.Settings.{Settings}
use Rattle.gp_journal.specs.Due.{asked, over}
use Rattle.gp_journal.specs.Run.{state_of}
use Rattle.gp_journal.specs.Reached.{IsReached}
use Rattle.gp_journal.specs.Standing.{times, head_of, without}
use Rattle.gp_journal.specs.State.{State, code_of, goroutine, worker, is_idle, is_runnable, is_live}
use Rattle.gp_journal.proofs.Lemmas.{changed, place, times-cons, one_at, without_head, is_kept, holds_runnable, runnable_born, born_cell, live_status}
use Rattle.gp_machine.specs.Queue.{Line}
use Rattle.gp_tally.specs.declared.row.Row.{Row}
use Rattle.gp_world.specs.declared.world.Numbers.{Numbers}
use Rattle.gp_world.specs.declared.pick.Pick.TheVariants as pick
use Rattle.gp_world.specs.Calls.{pick_of}
use Rattle.gp_world.specs.Rows.{blank, row_of, has_nothing, has_picked, runs_one, is_done, on_of}
use Rattle.gp_world.specs.declared.ring_end.RingEnd.{RingEnd}
use Rattle.gp_world.specs.kept.Ending.{IsEnd}
use Rattle.gp_world.specs.kept.World.{IsWorld, TellsProfiles, picks, picks_by}
use Rattle.gp_world.specs.kept.Workers.{HasPicked}
use Rattle.gp_world.proofs.Picks.{picks_set}

-- What a pick answers, where the run isn't over and no profile is asked for.
pub picked_head : (settings : Settings) (s : State) (waiting : List ℕ) (g : ℕ) → over settings s ≡ false → asked settings s ≡ false → head_of waiting ≡ Some g →
    pick_of settings s waiting ≡ pick.Go g s.active
picked_head settings s [] g going none head = absurd (cc)
picked_head settings s (h ∷ rest) g going none head = rw (going, none) (ap (λ k. pick.Go k s.active) (same_Some h g head))

pub picked_nobody : (settings : Settings) (s : State) (waiting : List ℕ) → over settings s ≡ false → asked settings s ≡ false → head_of waiting ≡ None → pick_of settings s waiting ≡ pick.Idle
picked_nobody settings s [] going none head = rw (going, none) refl
picked_nobody settings s (h ∷ rest) going none head = absurd (cc)

-- A worker with a row (a, b) counts as the picker of g exactly where it has picked it.
pub picked_one : (row : Row) (g : ℕ) → row.a ≡ has_picked → row.b ≡ g → picks_by row g ≡ 1
picked_one row g a b = rw (a, b, eq-eqb g g refl) refl

pub picks_none : (row : Row) (g : ℕ) → row.a ≢ has_picked → picks_by row g ≡ 0
picks_none row g other = rw (ne_eqb row.a has_picked other) refl

module _ (program : Parts) (settings : Settings) (journal : List Entry) (line : Line) (ring : RingEnd) (rows : List Row) (unborn : List Body) (numbers : Numbers)
    (was : IsWorld program settings journal line ring rows unborn numbers) (w : ℕ) (is_worker : w < settings.workers) where
  abbrev pub now : State
  now = state_of program settings journal

  reached : IsReached (code_of program) settings now
  reached = record { journal = journal; legal = was.legal; its_last = refl }

  -- Who waits and one worker's row change together.
  pub moved : (row : Row) (items : List ℕ) → row ≡ row_of program settings journal w row.a row.b → on_of row ≡ on_of (get_or rows w blank) →
      ((g : ℕ) → times g items + picks_by row g ≡ times g line.items + picks_by (get_or rows w blank) g) →
      IsWorld program settings journal (record { cells = line.cells; items = items }) ring (set rows w row) unborn numbers
  moved row items counted works together = record {
    in_range = was.in_range;
    legal = was.legal;
    its_cells = was.its_cells;
    its_rows = record {
      actors = length-set rows w row ∙ was.its_rows.actors;
      counted = changed (λ k (x : Row). k ≤ settings.workers → x ≡ row_of program settings journal k x.a x.b) blank rows w row (λ within. counted) was.its_rows.counted;
      works = changed (λ k (x : Row). k < settings.workers → (worker now k).runs ≡ on_of x) blank rows w row (λ within. was.its_rows.works w is_worker ∙ sym works) was.its_rows.works;
      waits = λ g. let all = was.its_rows.waits g in let each = picks_set rows w settings.workers g row is_worker within in let both = together g in omega arith;
      profiles = subst (TellsProfiles settings now) (sym last) was.its_rows.profiles;
    };
    its_ring = subst (λ (x : Row). IsEnd program settings journal x.a ring) (sym last) was.its_ring;
    its_unborn = was.its_unborn;
    its_numbers = was.its_numbers;
  }
    where
      within : w < length rows
      within = let actors = was.its_rows.actors in omega arith

      last : get_or (set rows w row) settings.workers blank ≡ get_or rows settings.workers blank
      last = get_or-set_other rows w settings.workers row blank (λ same. absurd (omega arith))

  -- Of who stands in the queue: it does so once, is runnable, and has a cell.
  pub record Stands (g : ℕ) : Type 0 where
    pub once : times g now.queue ≡ 1
    pub runnable : (goroutine now g).status ≡ Runnable
    pub live : is_live (goroutine now g) ≡ true
    pub cell : g < settings.cells

  by_status : (status : Status) (n : ℕ) → n ≡ (if is_runnable status then 1 else 0) → 1 ≤ n → status ≡ Runnable
  by_status Runnable n e some = refl
  by_status (Running v) n e some = absurd (omega arith)
  by_status Blocked n e some = absurd (omega arith)
  by_status Faulted n e some = absurd (omega arith)
  by_status Dead n e some = absurd (omega arith)

  pub stands : (g : ℕ) → 1 ≤ times g now.queue → Stands g
  stands g some =
      let holds = holds_runnable (code_of program) settings now reached g in
      let runnable = by_status (goroutine now g).status (times g now.queue) holds some in
      record {
        once = holds ∙ ap (λ t. if is_runnable t then 1 else 0) runnable;
        runnable = runnable;
        live = live_status (goroutine now g) runnable refl;
        cell = born_cell (code_of program) settings now reached was.in_range g (runnable_born (code_of program) settings now reached g runnable);
      }

  -- The head of those that wait does, and waits once.
  pub head_stands : (g : ℕ) → head_of line.items ≡ Some g → Stands g
  head_stands g head = by line.items head (was.its_rows.waits g)
    where
      by : (items : List ℕ) → head_of items ≡ Some g → times g items + picks rows settings.workers g ≡ times g now.queue → Stands g
      by [] e all = absurd (cc)
      by (h ∷ rest) e all =
          let same : h ≡ g = cc in
          stands g (omega (arith, times-cons g h rest, ap (λ x. place x g) same, one_at g, all))

  pub head_once : (g : ℕ) → head_of line.items ≡ Some g → times g line.items ≡ 1
  head_once g head = by line.items head (was.its_rows.waits g) (head_stands g head).once
    where
      by : (items : List ℕ) → head_of items ≡ Some g → times g items + picks rows settings.workers g ≡ times g now.queue → times g now.queue ≡ 1 → times g items ≡ 1
      by [] e all once = absurd (cc)
      by (h ∷ rest) e all once =
          let same : h ≡ g = cc in
          omega (arith, times-cons g h rest, ap (λ x. place x g) same, one_at g, all, once)

  pub head_rest : (g : ℕ) → head_of line.items ≡ Some g → without g line.items ≡ drop 1 line.items
  head_rest g head = by line.items head (head_once g head)
    where
      by : (items : List ℕ) → head_of items ≡ Some g → times g items ≡ 1 → without g items ≡ drop 1 items
      by [] e once = absurd (cc)
      by (x ∷ rest) e once =
          let same : x ≡ g = cc in
          subst (λ y. times g (y ∷ rest) ≡ 1 → without g (y ∷ rest) ≡ rest) (sym same) (without_head g rest) once

  -- So does whom the worker has picked, who doesn't wait.
  some_pick : (g : ℕ) → picks_by (get_or rows w blank) g ≤ picks rows settings.workers g
  some_pick g = let actors = was.its_rows.actors in let set = picks_set rows w settings.workers g blank is_worker (omega arith) in omega arith

  pub pick_stands : (g : ℕ) → (get_or rows w blank).a ≡ has_picked → (get_or rows w blank).b ≡ g → Stands g
  pick_stands g a b = let one = picked_one (get_or rows w blank) g a b in let some = some_pick g in let all = was.its_rows.waits g in stands g (omega arith)

  pub pick_absent : (g : ℕ) → (get_or rows w blank).a ≡ has_picked → (get_or rows w blank).b ≡ g → times g line.items ≡ 0
  pick_absent g a b =
      let one = picked_one (get_or rows w blank) g a b in let some = some_pick g in let all = was.its_rows.waits g in
      let once = (pick_stands g a b).once in omega arith

  -- Such a worker is idle.
  pub pick_idle : (get_or rows w blank).a ≡ has_picked → is_idle now w ≡ true
  pick_idle a =
      let runs : (worker now w).runs ≡ None = was.its_rows.works w is_worker ∙ rw a refl in
      let many = (is_kept (code_of program) settings now reached was.in_range).numbered.number in
      let within : nat_lt w (length now.workers) ≡ true = lt-ltb w (length now.workers) (omega arith) in
      rw (within, runs) refl

  -- What stays kept where the worker takes the head, where it puts it back, and where it is done.
  pub taken : (row : Row) (g : ℕ) → (get_or rows w blank).a ≡ has_nothing → head_of line.items ≡ Some g → row ≡ row_of program settings journal w has_picked g →
      IsWorld program settings journal (record { cells = line.cells; items = without g line.items }) ring (set rows w row) unborn numbers
  taken row g nothing head is =
      moved row (without g line.items) (is ∙ sym (ap (λ (r : Row). row_of program settings journal w r.a r.b) is))
      (ap on_of is ∙ sym (ap (λ a. if a == runs_one then Some (get_or rows w blank).b else None) nothing))
      (λ h. by h line.items head (head_once g head))
    where
      by : (h : ℕ) (items : List ℕ) → head_of items ≡ Some g → times g items ≡ 1 → times h (without g items) + picks_by row h ≡ times h items + picks_by (get_or rows w blank) h
      by h [] e once = absurd (cc)
      by h (x ∷ rest) e once =
          let same : x ≡ g = cc in
          let rest_is : without g (x ∷ rest) ≡ rest = subst (λ y. times g (y ∷ rest) ≡ 1 → without g (y ∷ rest) ≡ rest) (sym same) (without_head g rest) once in
          let new : picks_by row h ≡ place x h = ap (λ (r : Row). picks_by r h) is ∙ ap (λ y. place y h) (sym same) in
          let old = picks_none (get_or rows w blank) h (λ e. absurd (omega arith)) in
          omega (arith, ap (times h) rest_is, times-cons h x rest, new, old)

  pub returned : (row : Row) (g : ℕ) → (get_or rows w blank).a ≡ has_picked → (get_or rows w blank).b ≡ g → row ≡ row_of program settings journal w has_nothing 0 →
      IsWorld program settings journal (record { cells = line.cells; items = g ∷ line.items }) ring (set rows w row) unborn numbers
  returned row g a b is =
      moved row (g ∷ line.items) (is ∙ sym (ap (λ (r : Row). row_of program settings journal w r.a r.b) is))
      (ap on_of is ∙ sym (ap (λ a. if a == runs_one then Some (get_or rows w blank).b else None) a))
      (λ h. let new : picks_by row h ≡ 0 = ap (λ (r : Row). picks_by r h) is in let old : picks_by (get_or rows w blank) h ≡ place g h = rw (a, b) refl in omega (arith, times-cons h g line.items, new, old))

  pub finished : (row : Row) → (get_or rows w blank).a ≡ has_nothing → row ≡ row_of program settings journal w is_done 0 →
      IsWorld program settings journal line ring (set rows w row) unborn numbers
  finished row nothing is =
      moved row line.items (is ∙ sym (ap (λ (r : Row). row_of program settings journal w r.a r.b) is))
      (ap on_of is ∙ sym (ap (λ a. if a == runs_one then Some (get_or rows w blank).b else None) nothing))
      (λ h. let new : picks_by row h ≡ 0 = ap (λ (r : Row). picks_by r h) is in let old = picks_none (get_or rows w blank) h (λ e. absurd (omega arith)) in omega arith)

  -- What is known of whom the worker has picked, by its row.
  pub has_picked_it : (row : Row) → get_or rows w blank ≡ row → row.a ≡ has_picked → HasPicked program settings journal w row row.b
  has_picked_it row here a =
      let there = pick_stands row.b (ap (λ (r : Row). r.a) here ∙ a) (ap (λ (r : Row). r.b) here) in
      let counted : row ≡ row_of program settings journal w row.a row.b =
      subst (λ (r : Row). r ≡ row_of program settings journal w r.a r.b) here (was.its_rows.counted w (omega arith)) in
      record {
        its_row = counted ∙ ap (λ a. row_of program settings journal w a row.b) a;
        idle = pick_idle (ap (λ (r : Row). r.a) here ∙ a);
        runnable = there.runnable;
      }
