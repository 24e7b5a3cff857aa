-- The exit statuses, by number.
use Rattle.std.specs.Prelude.{ℕ}
use Rattle.gp_report.specs.declared.refusal.Fault.{Fault}
use Rattle.gp_report.specs.declared.refusal.Fault.TheVariants.{Usage, Line, At, Long, Read}

-- The run ended by `main`, no profile was refused, all files were put and the summary was written; or the text of a profile was
-- written.
abbrev pub exit_done : ℕ
exit_done = 0

-- The words give no job.
abbrev pub exit_usage : ℕ
exit_usage = 1

-- The bytes are no program, or no profile for `dump`, or too many.
abbrev pub exit_refused : ℕ
exit_refused = 2

-- The source failed.
abbrev pub exit_read_fault : ℕ
exit_read_fault = 3

-- The store or the sink failed.
abbrev pub exit_put_fault : ℕ
exit_put_fault = 4

-- The run ended by a fault.
abbrev pub exit_fault : ℕ
exit_fault = 5

-- The run ended by deadlock.
abbrev pub exit_deadlock : ℕ
exit_deadlock = 6

-- The run ended by `main`, and a profile was refused.
abbrev pub exit_profile_refused : ℕ
exit_profile_refused = 7

-- The run ended with a full journal.
abbrev pub exit_full : ℕ
exit_full = 8

-- Want of memory.
abbrev pub exit_memory : ℕ
exit_memory = 9

-- The status of words, bytes and sources that are at fault.
abbrev pub exit_of : Fault → ℕ
exit_of (Usage place cause) = exit_usage
exit_of (Line line cause) = exit_refused
exit_of (At at cause) = exit_refused
exit_of Long = exit_refused
exit_of Read = exit_read_fault
