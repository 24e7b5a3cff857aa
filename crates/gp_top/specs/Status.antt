-- The exit statuses of complete runs.
use Rattle.std.specs.Prelude.{ℕ, List, [], ◌∷◌}
use Rattle.gp_isa.specs.declared.parts.Parts.{Parts}
use Rattle.gp_journal.specs.declared.entry.Ended.{Ended}
use Rattle.gp_journal.specs.declared.entry.Ended.TheVariants as ended
use Rattle.gp_journal.specs.declared.settings.Settings.{Settings}
use Rattle.gp_journal.specs.Due as machine
use Rattle.gp_journal.specs.Run.{state_of}
use Rattle.gp_sim.specs.Choice.{sim_journal}
use Rattle.gp_report.specs.declared.report.Report.{Report}
use Rattle.gp_top.specs.Report.{refusals}
use Rattle.gp_top.specs.Exit.{exit_done, exit_fault, exit_deadlock, exit_profile_refused, exit_full}

-- A run that ended by `main` is done, unless a profile was refused.
abbrev pub status_by_main : List (ℕ × ℕ) → ℕ
status_by_main [] = exit_done
status_by_main (one ∷ more) = exit_profile_refused

-- The status that tells how a run ended.
abbrev pub status_of_end : List (ℕ × ℕ) → Ended → ℕ
status_of_end refused (ended.Fault cause) = exit_fault
status_of_end refused ended.Full = exit_full
status_of_end refused ended.Deadlock = exit_deadlock
status_of_end refused ended.Main = status_by_main refused

-- The status of a run by its report.
abbrev pub status_of : Report → ℕ
status_of report = status_of_end report.refused report.ended

-- The status that a program's run under its options comes to.
abbrev pub status_of_run : Parts → Settings → ℕ
status_of_run program settings =
    let journal = sim_journal program settings in
    status_of_end (refusals journal) (machine.ended (state_of program settings journal))
