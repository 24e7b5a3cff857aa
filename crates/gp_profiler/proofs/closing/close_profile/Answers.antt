use Rattle.std.proofs.Common.{refl, ap, ◌∙◌, arith}
use Rattle.gp_journal.specs.Run.{state_of}
use Rattle.gp_journal.specs.State.{code_of}
use Rattle.gp_profiler.proofs.AddUp.{told_add_up}
use Rattle.gp_profiler.proofs.closing.close_profile.Goals as goal

pub overflow_cast-have : goal.overflow_cast-have
overflow_cast-have g c =
    let program = g.R.Run.program in
    let settings = g.R.Run.settings in
    let active = c.active-epoch.ensures ∙ ap (λ j. (state_of program settings j).active) c.machine.ensures.journal in
    let sum = told_add_up (code_of program) settings c.args.world.now.journal c.machine.ensures.legal c.requires.active c.active-epoch.result
    c.expected-n.result c.records.result.now active c.records.ensures c.expected-n.ensures in
    omega arith

pub enter_close-requires-clause-may : goal.enter_close-requires-clause-may
enter_close-requires-clause-may g c =
    let program = g.R.Run.program in
    let settings = g.R.Run.settings in
    let active = c.active-epoch.ensures ∙ ap (λ j. (state_of program settings j).active) c.machine.ensures.journal in
    let sum = told_add_up (code_of program) settings c.args.world.now.journal c.machine.ensures.legal c.requires.active c.active-epoch.result
    c.expected-n.result c.records.result.now active c.records.ensures c.expected-n.ensures in
    record { is_active = c.requires.active; epoch_given = refl; all_recorded = omega arith }
