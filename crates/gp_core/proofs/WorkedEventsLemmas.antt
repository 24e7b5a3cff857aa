-- The worked lists of events, computed.
use Rattle.std.proofs.Common.{◌≡◌, true, false, List, [], ◌∷◌, ◌++◌, refl, sym, subst}
use Rattle.gp_stack.specs.Goroutine.{next_point, is_ended, stack_of, labels_of, local_ahead}
use Rattle.gp_journal.specs.declared.settings.Settings.{Settings}
use Rattle.gp_journal.specs.State.{Code, code_of}
use Rattle.gp_journal.specs.Answer.{operation_answer}
use Rattle.gp_journal.specs.Due.{over, asked, due, extent}
use Rattle.gp_journal.specs.Effect.{meets, operates, after}
use Rattle.gp_journal.specs.Worked.{wake, wake_settings, pair}
use Rattle.gp_journal.proofs.Journals.{wake_traces, pair_traces}
use Rattle.gp_journal.proofs.Lemmas.{with_traces, code_is, wake_same, pair_same}
use Rattle.gp_core.specs.declared.event.CoreEvent.{CoreEvent}
use Rattle.gp_core.specs.CoreState.{first_core}
use Rattle.gp_core.specs.WorkedEvents.{StopsAt, wake_home, wake_profile, WokenCore, RefusedEvents}
use Rattle.gp_core.proofs.Admits.{admits_all, admitted_all, not_admitted}

stops : (code : Code) (settings : Settings) (events : List CoreEvent) (next : CoreEvent) → admits_all code settings (first_core settings) events ≡ true →
    admits_all code settings (first_core settings) (events ++ next ∷ []) ≡ false → StopsAt code settings events next
stops code settings events next passes fails = record {
  allowed = admitted_all code settings (first_core settings) events passes;
  refused = not_admitted code settings (first_core settings) (events ++ next ∷ []) fails;
}

refused_computed : RefusedEvents (with_traces pair pair_traces)
unfolding pair_traces next_point is_ended stack_of labels_of local_ahead over asked due extent meets operates operation_answer after
refused_computed =
    let code = with_traces pair pair_traces in record {
      second_claim = stops code _ _ _ refl refl;
      take_of_claimed = stops code _ _ _ refl refl;
      begin_without_copy = stops code _ _ _ refl refl;
      commit_without_copy = stops code _ _ _ refl refl;
      satisfy_before_record = stops code _ _ _ refl refl;
      claim_of_satisfied = stops code _ _ _ refl refl;
      claim_without_profile = stops code _ _ _ refl refl;
      close_too_early = stops code _ _ _ refl refl;
      open_while_running = stops code _ _ _ refl refl;
      give_of_running = stops code _ _ _ refl refl;
      copy_of_running = stops code _ _ _ refl refl;
      bury_of_living = stops code _ _ _ refl refl;
      second_bear = stops code _ _ _ refl refl;
      bear_of_unborn = stops code _ _ _ refl refl;
      take_by_profiler = stops code _ _ _ refl refl;
    }

pub refused_events : RefusedEvents (code_of pair)
refused_events = subst RefusedEvents (sym (code_is pair pair_traces pair_same)) refused_computed

woken_computed : WokenCore (with_traces wake wake_traces)
unfolding wake_traces next_point is_ended stack_of labels_of local_ahead over asked due extent meets operates operation_answer after
woken_computed = record {
  allowed = admitted_all (with_traces wake wake_traces) wake_settings (first_core wake_settings) (wake_home ++ wake_profile) refl;
  after = record { journal = refl; copies = refl; main_runs = refl; other_home = refl };
}

pub woken_core : WokenCore (code_of wake)
woken_core = subst WokenCore (sym (code_is wake wake_traces wake_same)) woken_computed
