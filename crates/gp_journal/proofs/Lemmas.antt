-- The lemmas on journals and their states that crates above take. No other page of these proofs is for them.

-- Legal entries: what stands after a list of entries and more of them, the front of a legal list, and its rest.
pub use Rattle.gp_journal.proofs.Law.{after_all-append, prefix_legal, front_legal, rest_legal}
-- What every state of a legal journal keeps, in the first state, over one legal entry and over all of a list.
pub use Rattle.gp_journal.proofs.Whole.{IsWhole, Behind}
pub use Rattle.gp_journal.proofs.Law.{first_whole, all_whole}
pub use Rattle.gp_journal.proofs.Steps.{step_whole}
-- An Op by cases: what holds of the state in each of them holds after it, also together with the answer.
pub use Rattle.gp_journal.proofs.Acts.{Cases, acts_all, Told, acts_told}
-- What the state that a legal journal reaches keeps: it is whole, its queue holds the runnable, its clocks have come.
pub use Rattle.gp_journal.proofs.Reached.{is_whole, holds_runnable, has_come, is_kept, clock_fits}
-- Who runs there has a worker, is born, waits nowhere and doesn't stand in the queue; who is runnable stands in it once.
pub use Rattle.gp_journal.proofs.Reached.{runs_there, runner_absent, runner_waits_nowhere, absent_unless, runnable_once}
-- Live and runnable goroutines are born, and those that are have a cell; an idle worker is one of the workers.
pub use Rattle.gp_journal.proofs.Reached.{live_born, runnable_born, born_cell, idle_within}
-- Where a profile is asked for a request is left, and epochs of the live ones are below the next.
pub use Rattle.gp_journal.proofs.Reached.{some_request, epochs_below}
-- The numbers of a legal journal's last state: its entries are counted and bounded.
pub use Rattle.gp_journal.proofs.Totals.{Kept, kept_at, entries_are_counted, entries_are_bounded}
-- The laws that others build on.
pub use Rattle.gp_journal.proofs.Law.{rows_are_frozen, epochs_hold, unrecorded_stand}
pub use Rattle.gp_journal.proofs.OnWorkers.{statuses_match_workers, worker_at}
-- Who is behind the active epoch; no profile is active where one is asked for, and the active one is the last.
pub use Rattle.gp_journal.proofs.Steps.{behind_parts, behind_from, none_active, active_last}
-- An entry that is no Open and no Close leaves the active profile.
pub use Rattle.gp_journal.proofs.Law.{quiet_active}
-- How many have still to be recorded: all live ones as a profile is opened, one fewer with each Record, else as many.
pub use Rattle.gp_journal.proofs.Rows.{IsQuiet}
pub use Rattle.gp_journal.proofs.Unrecorded.{unrecorded_open, unrecorded_record, unrecorded_quiet, unrecorded_add_up}
-- The laws on single entries, of a whole state and the state after a legal entry: other workers and the epochs stay,
-- what happens to the queue, a run that is over stays over, and nothing is legal after a complete run.
pub use Rattle.gp_journal.proofs.EachEntry.{step_others, step_epochs, step_queue, step_over, nothing_may}
-- What the due entry tells: where an Op or a Run is due no profile is asked for and some of the slice is left.
pub use Rattle.gp_journal.proofs.Going.{GoesOn, op_goes, run_goes, run_extent}
-- What operations do to the places of a goroutine in wait lists: as many as before, one more for whom they block, one
-- fewer for whom they wake.
pub use Rattle.gp_journal.proofs.Parts.{one_if, one_if_eq, Balances, with_wait_lists, blocked_by, live_status}
pub use Rattle.gp_journal.proofs.WaitLists.{send_moves, recv_moves, lock_moves, unlock_moves}
pub use Rattle.gp_journal.proofs.Outcomes.{Moves, MovesBy, operation_moves, outcome_moves}
pub use Rattle.gp_journal.proofs.Whole.{seats, live_within, some_same}
-- A program's channels and mutexes stay as many as they are, what a goroutine's next instruction names is one of them,
-- and no effect counts its entry.
pub use Rattle.gp_journal.proofs.Lengths.{HasPlaces, last_has_places, effect_entries, counted_after}
pub use Rattle.gp_journal.proofs.Naming.{next_named}
-- What holds at each place of a list holds after one place is changed, or one is added.
-- (and where a list counts none, no place of it has what is counted)
pub use Rattle.gp_journal.proofs.Places.{changed, pushed, replaced, replaced_within, none_counted}
-- How often a goroutine stands in a list, with one more at its head or its tail, and without one.
pub use Rattle.gp_journal.proofs.InLine.{place, times-cons, times_push, one_at, none_at, other_than}
pub use Rattle.gp_journal.proofs.InLine.{head_below, length-without, times_without, without_head, without_other, length-of_different}
-- One legal entry more; what entries do to the active profile and to the last epoch.
pub use Rattle.gp_journal.proofs.Recorded.{appended, OpensNone, keeps_last, opened_active, opened_last, recorded_active, closed_active}
-- The records of profiles: how they grow, how many there are, that they are frozen; the last list, with one row more.
pub use Rattle.gp_journal.proofs.Recorded.{records_grow, records_are_counted, some_records, records_are_frozen, last_is, with_row_last, last_grown}
-- How the bodies of a state's goroutines move with an entry, and who is born by an Op.
pub use Rattle.gp_journal.proofs.Following.{leaves_bodies, stays, follows_run, Moved, follows_op, op_shared, op_not_plain, Bears, op_bears, born_there, main_there, first_bodies}
-- What bodies tell of their goroutines: who has one, what is ahead, the next point, and the row.
pub use Rattle.gp_journal.proofs.BodiesTell.{has_body, runner_live, run_ahead, op_at_shared, point_is, row_is, bodies_follow, bodies_gain, nobody_born}
-- One of some bodies moves on.
pub use Rattle.gp_journal.proofs.MovedOn.{moved, as_many}
-- The waits that Ops end and those at contended unlocks: how they grow, what is foreseen of them, and how long they are.
pub use Rattle.gp_journal.proofs.Waits.{waits_begin, contentions_begin, waits_grow, contentions_grow, foreseen_is, wait_fits, contention_fits}
-- Journals of worked programs: their traces, and whether entries are legal, computed.
pub use Rattle.gp_journal.proofs.Journals.{with_traces, code_is, wake_traces, wake_same, pair_traces, pair_same}
pub use Rattle.gp_journal.proofs.Allows.{allows, allowed, allows_legal, allows_all, legal_from}
