use Rattle.std.proofs.Common.{◌++◌, ◌∷◌, [], sym, ap, ◌∙◌}
use Rattle.gp_stack.specs.Body.{progress_of}
use Rattle.gp_journal.specs.declared.entry.Entry.{Entry}
use Rattle.gp_journal.specs.Bodies.{further}
use Rattle.gp_journal.specs.Run.{state_of}
use Rattle.gp_journal.specs.State.{code_of}
use Rattle.gp_core.specs.Stepped.{points_of}
use Rattle.gp_core.proofs.Along.{due_told, due_run, due_op, due_tick, due_park, not_start, not_open, not_refuse, not_record, not_close}
use Rattle.gp_core.proofs.due.make_due.Goals as goal

pub run-requires-clause-may : goal.run-requires-clause-may
run-requires-clause-may g c =
    let P = g.R.Run.program in let S = g.R.Run.settings in let s = state_of P S c.args.machine.now in
    let is = due_told P S c.args.machine.now c.args.w c.args.g c.due-made.result c.due-made.ensures c.requires.runs in
    record { runs = c.requires.runs; is_next = due_run (code_of P) S s c.args.w c.args.g c.due-made.result is c.in-Run.w c.in-Run.g c.in-Run.n c.in-Run.is }

pub shared_point-point-requires-clause-may : goal.shared_point-point-requires-clause-may
shared_point-point-requires-clause-may g c =
    let P = g.R.Run.program in let S = g.R.Run.settings in let s = state_of P S c.args.machine.now in
    let is = due_told P S c.args.machine.now c.args.w c.args.g c.due-made.result c.due-made.ensures c.requires.runs in
    record { runs = c.requires.runs; is_next = due_op (code_of P) S s c.args.w c.args.g c.due-made.result is c.in-Op.w c.in-Op.g c.in-Op.is }

pub operate-requires-clause-may : goal.operate-requires-clause-may
operate-requires-clause-may g c =
    let P = g.R.Run.program in let S = g.R.Run.settings in let s = state_of P S c.args.machine.now in
    let is = due_told P S c.args.machine.now c.args.w c.args.g c.due-made.result c.due-made.ensures c.requires.runs in
    record { runs = c.requires.runs; is_next = due_op (code_of P) S s c.args.w c.args.g c.due-made.result is c.in-Op.w c.in-Op.g c.in-Op.is }

pub make-requires-clause-legal : goal.make-requires-clause-legal
make-requires-clause-legal g c =
    let P = g.R.Run.program in let S = g.R.Run.settings in let s = state_of P S c.args.machine.now in
    let is = due_told P S c.args.machine.now c.args.w c.args.g c.due-made.result c.due-made.ensures c.requires.runs in
    record { runs = c.requires.runs; is_next = due_tick (code_of P) S s c.args.w c.args.g c.due-made.result is c.in-Tick.w c.in-Tick.g c.in-Tick.is }

pub make-requires-in-Park-clause-legal : goal.make-requires-in-Park-clause-legal
make-requires-in-Park-clause-legal g c =
    let P = g.R.Run.program in let S = g.R.Run.settings in let s = state_of P S c.args.machine.now in
    let is = due_told P S c.args.machine.now c.args.w c.args.g c.due-made.result c.due-made.ensures c.requires.runs in
    record { runs = c.requires.runs; is_next = due_park (code_of P) S s c.args.w c.args.g c.due-made.result is c.in-Park.w c.in-Park.g c.in-Park.is }

pub unreachable-requires : goal.unreachable-requires
unreachable-requires g c =
    let P = g.R.Run.program in let S = g.R.Run.settings in let s = state_of P S c.args.machine.now in
    let is = due_told P S c.args.machine.now c.args.w c.args.g c.due-made.result c.due-made.ensures c.requires.runs in
    not_start (code_of P) S s c.args.w c.args.g c.due-made.result is c.in-Start.w c.in-Start.g c.in-Start.is

pub unreachable-requires-in-Open : goal.unreachable-requires-in-Open
unreachable-requires-in-Open g c =
    let P = g.R.Run.program in let S = g.R.Run.settings in let s = state_of P S c.args.machine.now in
    let is = due_told P S c.args.machine.now c.args.w c.args.g c.due-made.result c.due-made.ensures c.requires.runs in
    not_open (code_of P) S s c.args.w c.args.g c.due-made.result is c.in-Open.epoch c.in-Open.room c.in-Open.is

pub unreachable-requires-in-Refuse : goal.unreachable-requires-in-Refuse
unreachable-requires-in-Refuse g c =
    let P = g.R.Run.program in let S = g.R.Run.settings in let s = state_of P S c.args.machine.now in
    let is = due_told P S c.args.machine.now c.args.w c.args.g c.due-made.result c.due-made.ensures c.requires.runs in
    not_refuse (code_of P) S s c.args.w c.args.g c.due-made.result is c.in-Refuse.room c.in-Refuse.n c.in-Refuse.is

pub unreachable-requires-in-Record : goal.unreachable-requires-in-Record
unreachable-requires-in-Record g c =
    let P = g.R.Run.program in let S = g.R.Run.settings in let s = state_of P S c.args.machine.now in
    let is = due_told P S c.args.machine.now c.args.w c.args.g c.due-made.result c.due-made.ensures c.requires.runs in
    not_record (code_of P) S s c.args.w c.args.g c.due-made.result is c.in-Record.actor c.in-Record.g c.in-Record.is

pub unreachable-requires-in-Close : goal.unreachable-requires-in-Close
unreachable-requires-in-Close g c =
    let P = g.R.Run.program in let S = g.R.Run.settings in let s = state_of P S c.args.machine.now in
    let is = due_told P S c.args.machine.now c.args.w c.args.g c.due-made.result c.due-made.ensures c.requires.runs in
    not_close (code_of P) S s c.args.w c.args.g c.due-made.result is c.in-Close.epoch c.in-Close.is

pub returns-in-Run-clause-journal : goal.returns-in-Run-clause-journal
returns-in-Run-clause-journal g c =
    let P = g.R.Run.program in let S = g.R.Run.settings in let s = state_of P S c.args.machine.now in
    let is = due_told P S c.args.machine.now c.args.w c.args.g c.due-made.result c.due-made.ensures c.requires.runs in
    c.run.ensures.journal ∙ ap (λ (e : Entry). c.args.machine.now ++ e ∷ []) (sym (due_run (code_of P) S s c.args.w c.args.g c.due-made.result is c.in-Run.w c.in-Run.g c.in-Run.n c.in-Run.is))

pub returns-in-Op-clause-journal : goal.returns-in-Op-clause-journal
returns-in-Op-clause-journal g c =
    let P = g.R.Run.program in let S = g.R.Run.settings in let s = state_of P S c.args.machine.now in
    let is = due_told P S c.args.machine.now c.args.w c.args.g c.due-made.result c.due-made.ensures c.requires.runs in
    c.operate.ensures.journal ∙ ap (λ (e : Entry). c.args.machine.now ++ e ∷ []) (sym (due_op (code_of P) S s c.args.w c.args.g c.due-made.result is c.in-Op.w c.in-Op.g c.in-Op.is))

pub returns-in-Tick-clause-journal : goal.returns-in-Tick-clause-journal
returns-in-Tick-clause-journal g c =
    let P = g.R.Run.program in let S = g.R.Run.settings in let s = state_of P S c.args.machine.now in
    let is = due_told P S c.args.machine.now c.args.w c.args.g c.due-made.result c.due-made.ensures c.requires.runs in
    c.make.ensures.journal ∙ ap (λ (e : Entry). c.args.machine.now ++ e ∷ []) (sym (due_tick (code_of P) S s c.args.w c.args.g c.due-made.result is c.in-Tick.w c.in-Tick.g c.in-Tick.is))

pub returns-in-Park-clause-journal : goal.returns-in-Park-clause-journal
returns-in-Park-clause-journal g c =
    let P = g.R.Run.program in let S = g.R.Run.settings in let s = state_of P S c.args.machine.now in
    let is = due_told P S c.args.machine.now c.args.w c.args.g c.due-made.result c.due-made.ensures c.requires.runs in
    c.make-in-Park.ensures.journal ∙ ap (λ (e : Entry). c.args.machine.now ++ e ∷ []) (sym (due_park (code_of P) S s c.args.w c.args.g c.due-made.result is c.in-Park.w c.in-Park.g c.in-Park.is))

pub returns-in-Op-clause-progress : goal.returns-in-Op-clause-progress
returns-in-Op-clause-progress g c =
    let P = g.R.Run.program in let S = g.R.Run.settings in let s = state_of P S c.args.machine.now in
    let is = due_told P S c.args.machine.now c.args.w c.args.g c.due-made.result c.due-made.ensures c.requires.runs in
    c.operate.ensures.progress ∙ ap (λ (e : Entry). further (points_of (code_of P) S s e) (progress_of c.args.body.now)) (sym (due_op (code_of P) S s c.args.w c.args.g c.due-made.result is c.in-Op.w c.in-Op.g c.in-Op.is))
