-- The worked journals, computed.
use Rattle.std.proofs.Common.{◌≡◌, ℕ, zero, suc, true, false, List, [], ◌∷◌, ◌++◌, get_or, refl, sym, subst, replicate}
use Rattle.gp_isa.specs.declared.parts.Parts.{Parts}
use Rattle.gp_isa.proofs.Actions.{action-work, action-spawn, action-send, action-recv, action-lock, action-unlock}
use Rattle.gp_isa.specs.Trace.{Local, Send, Recv, Lock, Unlock, Spawn, Point, point_at, trace, trace_within}
use Rattle.gp_stack.specs.Goroutine.{next_point, is_ended, stack_of, labels_of, local_ahead}
use Rattle.gp_journal.specs.declared.entry.Entry.{Entry}
use Rattle.gp_journal.specs.declared.entry.Ended.{Ended}
use Rattle.gp_journal.specs.declared.settings.Settings.{Settings}
use Rattle.gp_journal.specs.State.{Code, code_of, first}
use Rattle.gp_journal.specs.Answer.{operation_answer}
use Rattle.gp_journal.specs.Told.{Told, told_from, done_of, made_of}
use Rattle.gp_journal.specs.Due.{over, asked, due, extent, ended, IsComplete}
use Rattle.gp_journal.specs.Effect.{meets, operates, after}
use Rattle.gp_journal.specs.Run.{last}
use Rattle.gp_journal.specs.Worked.{SmallExamples, Worked, EndsThere, smallest, SmallestProgram, wake, WokenBetween, pair, RoomForTwo, contended, ContendedMutex, deadlocked, Deadlocks, faulty, FaultOfUnlock, six, Ticks, long, FullJournal}
use Rattle.gp_journal.proofs.Allows.{allows_all, legal_from, not_legal}

-- the code of a program, where the traces of its functions are these
abbrev pub with_traces : Parts → List (List Point) → Code
with_traces program traces = record (code_of program) { points = λ f. get_or traces f [] }

pub code_is : (program : Parts) (traces : List (List Point)) → ((f : ℕ) → trace program f ≡ get_or traces f []) → code_of program ≡ with_traces program traces
code_is program traces same = λ i. record (code_of program) { points = λ f. same f i }

-- A journal of a program with what is told, computed.
works : (code : Code) (settings : Settings) (journal : List Entry) (end : Ended) (told : List Told) (done made : List ℕ) → allows_all code settings (first code settings) journal ≡ true →
    IsComplete settings (last code settings journal) → ended (last code settings journal) ≡ end → told_from code settings (first code settings) journal ≡ told →
    done_of (last code settings journal) ≡ done → made_of settings journal ≡ made → Worked code settings journal end told done made
works code settings journal end told done made legal complete e t d m = record {
  finished = record { legal = legal_from code settings (first code settings) journal legal; complete = complete };
  its_end = e;
  its_told = t;
  its_done = d;
  its_made = m;
}

fails : (code : Code) (settings : Settings) (journal : List Entry) (entry : Entry) → allows_all code settings (first code settings) journal ≡ true →
    allows_all code settings (first code settings) (journal ++ entry ∷ []) ≡ false → EndsThere code settings journal entry
fails code settings journal entry legal not =
    record { legal = legal_from code settings (first code settings) journal legal; refused = not_legal code settings (first code settings) (journal ++ entry ∷ []) not }

unfoldable pub smallest_traces : List (List Point)
smallest_traces = (point_at 0 2 Local ∷ []) ∷ []

pub smallest_same : (f : ℕ) → trace smallest f ≡ get_or smallest_traces f []
unfolding smallest_traces trace trace_within
smallest_same zero = rw action-work refl
smallest_same (suc f) = refl

smallest_computed : SmallestProgram (with_traces smallest smallest_traces)
unfolding smallest_traces next_point is_ended stack_of labels_of local_ahead over asked due extent meets operates operation_answer after
smallest_computed =
    let code = with_traces smallest smallest_traces in record {
      journal = works code _ _ _ _ _ _ refl (record { is_over = refl; nobody_runs = refl; none_active = refl; none_left = refl }) refl refl refl refl;
      rows = refl;
      no_close = fails code _ _ _ refl refl;
      no_more_points = fails code _ _ _ refl refl;
      no_tick = fails code _ _ _ refl refl;
      no_park = fails code _ _ _ refl refl;
    }

pub smallest_program : SmallestProgram (code_of smallest)
smallest_program = subst SmallestProgram (sym (code_is smallest smallest_traces smallest_same)) smallest_computed

unfoldable pub wake_traces : List (List Point)
wake_traces =
    (point_at 0 3 (Spawn 1) ∷ (replicate 1000 (point_at 0 4 Local) ++ (point_at 0 5 (Send 0) ∷ replicate 5 (point_at 0 6 Local))))
    ∷ (point_at 1 9 (Recv 0) ∷ replicate 7 (point_at 1 10 Local)) ∷ []

pub wake_same : (f : ℕ) → trace wake f ≡ get_or wake_traces f []
unfolding wake_traces trace trace_within
wake_same zero = rw (action-spawn, action-send, action-work 5, action-work 1000) refl
wake_same (suc zero) = rw (action-recv, action-work) refl
wake_same (suc (suc f)) = refl

wake_computed : WokenBetween (with_traces wake wake_traces)
unfolding wake_traces next_point is_ended stack_of labels_of local_ahead over asked due extent meets operates operation_answer after
wake_computed =
    let code = with_traces wake wake_traces in record {
      journal = works code _ _ _ _ _ _ refl (record { is_over = refl; nobody_runs = refl; none_active = refl; none_left = refl }) refl refl refl refl;
      rows = refl;
      taken = refl;
      no_start = fails code _ _ _ refl refl;
      no_more_points = fails code _ _ _ refl refl;
    }

pub woken_between : WokenBetween (code_of wake)
woken_between = subst WokenBetween (sym (code_is wake wake_traces wake_same)) wake_computed

unfoldable pub pair_traces : List (List Point)
pair_traces = (point_at 0 2 (Spawn 1) ∷ replicate 5 (point_at 0 3 Local)) ∷ replicate 2 (point_at 1 6 Local) ∷ []

pub pair_same : (f : ℕ) → trace pair f ≡ get_or pair_traces f []
unfolding pair_traces trace trace_within
pair_same zero = rw (action-spawn, action-work) refl
pair_same (suc zero) = rw action-work refl
pair_same (suc (suc f)) = refl

pair_computed : RoomForTwo (with_traces pair pair_traces)
unfolding pair_traces next_point is_ended stack_of labels_of local_ahead over asked due extent meets operates operation_answer after
pair_computed =
    let code = with_traces pair pair_traces in record {
      refused = works code _ _ _ _ _ _ refl (record { is_over = refl; nobody_runs = refl; none_active = refl; none_left = refl }) refl refl refl refl;
      profiled = works code _ _ _ _ _ _ refl (record { is_over = refl; nobody_runs = refl; none_active = refl; none_left = refl }) refl refl refl refl;
      parallel = works code _ _ _ _ _ _ refl (record { is_over = refl; nobody_runs = refl; none_active = refl; none_left = refl }) refl refl refl refl;
      rows = refl;
      parallel_rows = refl;
      no_open = fails code _ _ _ refl refl;
      no_refuse = fails code _ _ _ refl refl;
      no_open_running = fails code _ _ _ refl refl;
      no_record_of_born = fails code _ _ _ refl refl;
    }

pub room_for_two : RoomForTwo (code_of pair)
room_for_two = subst RoomForTwo (sym (code_is pair pair_traces pair_same)) pair_computed

unfoldable pub contended_traces : List (List Point)
contended_traces =
    (point_at 0 4 (Spawn 1) ∷ point_at 0 5 (Spawn 1) ∷ point_at 0 6 (Lock 0) ∷ (replicate 1002 (point_at 0 7 Local) ++ (point_at 0 8 (Unlock 0) ∷ point_at 0 9 (Recv 0) ∷ point_at 0 10 (Recv 0) ∷ [])))
    ∷ (point_at 1 13 (Lock 0) ∷ point_at 1 14 (Unlock 0) ∷ point_at 1 15 (Send 0) ∷ []) ∷ []

pub contended_same : (f : ℕ) → trace contended f ≡ get_or contended_traces f []
unfolding contended_traces trace trace_within
contended_same zero = rw (action-spawn, action-lock, action-unlock, action-recv, action-work) refl
contended_same (suc zero) = rw (action-lock, action-unlock, action-send) refl
contended_same (suc (suc f)) = refl

contended_computed : ContendedMutex (with_traces contended contended_traces)
unfolding contended_traces next_point is_ended stack_of labels_of local_ahead over asked due extent meets operates operation_answer after
contended_computed =
    let code = with_traces contended contended_traces in record {
      journal = works code _ _ _ _ _ _ refl
          (record { is_over = refl; nobody_runs = refl; none_active = refl; none_left = refl }) refl refl refl refl;
    }

pub contended_mutex : ContendedMutex (code_of contended)
contended_mutex = subst ContendedMutex (sym (code_is contended contended_traces contended_same)) contended_computed

unfoldable pub deadlock_traces : List (List Point)
deadlock_traces = (point_at 0 3 (Spawn 1) ∷ point_at 0 4 (Recv 0) ∷ []) ∷ (point_at 1 7 (Recv 0) ∷ []) ∷ []

pub deadlock_same : (f : ℕ) → trace deadlocked f ≡ get_or deadlock_traces f []
unfolding deadlock_traces trace trace_within
deadlock_same zero = rw (action-spawn, action-recv) refl
deadlock_same (suc zero) = rw action-recv refl
deadlock_same (suc (suc f)) = refl

deadlock_computed : Deadlocks (with_traces deadlocked deadlock_traces)
unfolding deadlock_traces next_point is_ended stack_of labels_of local_ahead over asked due extent meets operates operation_answer after
deadlock_computed =
    let code = with_traces deadlocked deadlock_traces in record {
      journal = works code _ _ _ _ _ _ refl (record { is_over = refl; nobody_runs = refl; none_active = refl; none_left = refl }) refl refl refl refl;
      rows = refl;
      no_cell = works code _ _ _ _ _ _ refl (record { is_over = refl; nobody_runs = refl; none_active = refl; none_left = refl }) refl refl refl refl;
    }

pub deadlocks : Deadlocks (code_of deadlocked)
deadlocks = subst Deadlocks (sym (code_is deadlocked deadlock_traces deadlock_same)) deadlock_computed

unfoldable pub faulty_traces : List (List Point)
faulty_traces = (replicate 3 (point_at 0 3 Local) ++ (point_at 0 4 (Unlock 0) ∷ [])) ∷ []

pub faulty_same : (f : ℕ) → trace faulty f ≡ get_or faulty_traces f []
unfolding faulty_traces trace trace_within
faulty_same zero = rw (action-work, action-unlock) refl
faulty_same (suc f) = refl

faulty_computed : FaultOfUnlock (with_traces faulty faulty_traces)
unfolding faulty_traces next_point is_ended stack_of labels_of local_ahead over asked due extent meets operates operation_answer after
faulty_computed =
    let code = with_traces faulty faulty_traces in record {
      journal = works code _ _ _ _ _ _ refl
          (record { is_over = refl; nobody_runs = refl; none_active = refl; none_left = refl }) refl refl refl refl;
      rows = refl;
    }

pub fault_of_unlock : FaultOfUnlock (code_of faulty)
fault_of_unlock = subst FaultOfUnlock (sym (code_is faulty faulty_traces faulty_same)) faulty_computed

unfoldable pub six_traces : List (List Point)
six_traces = replicate 6 (point_at 0 2 Local) ∷ []

pub six_same : (f : ℕ) → trace six f ≡ get_or six_traces f []
unfolding six_traces trace trace_within
six_same zero = rw action-work refl
six_same (suc f) = refl

six_computed : Ticks (with_traces six six_traces)
unfolding six_traces next_point is_ended stack_of labels_of local_ahead over asked due extent meets operates operation_answer after
six_computed = let code = with_traces six six_traces in record {
  journal = works code _ _ _ _ _ _ refl
      (record { is_over = refl; nobody_runs = refl; none_active = refl; none_left = refl }) refl refl refl refl;
}

pub ticks : Ticks (code_of six)
ticks = subst Ticks (sym (code_is six six_traces six_same)) six_computed

unfoldable pub long_traces : List (List Point)
long_traces = replicate 20000 (point_at 0 2 Local) ∷ []

pub long_same : (f : ℕ) → trace long f ≡ get_or long_traces f []
unfolding long_traces trace trace_within
long_same zero = rw action-work refl
long_same (suc f) = refl

long_computed : FullJournal (with_traces long long_traces)
unfolding long_traces next_point is_ended stack_of labels_of local_ahead over asked due extent meets operates operation_answer after
long_computed =
    let code = with_traces long long_traces in record {
      journal = works code _ _ _ _ _ _ refl
          (record { is_over = refl; nobody_runs = refl; none_active = refl; none_left = refl }) refl refl refl refl;
      rows = refl;
      no_start = fails code _ _ _ refl refl;
    }

pub full_journal_is : FullJournal (code_of long)
full_journal_is = subst FullJournal (sym (code_is long long_traces long_same)) long_computed

pub small_examples : SmallExamples
small_examples = record { come = refl; to_come = refl; never_by_clock = refl; sorted_rows = refl }
