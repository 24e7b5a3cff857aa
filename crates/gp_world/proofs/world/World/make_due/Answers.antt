use Rattle.std.proofs.Common.{◌≡◌, OnOk, sym, ap, ◌∙◌, subst}
use Rattle.gp_stack.specs.Body.{progress_of}
use Rattle.gp_history.specs.Events.{event_of, AddsEvent}
use Rattle.gp_journal.specs.declared.entry.Entry.{Entry}
use Rattle.gp_journal.specs.declared.entry.Entry.TheVariants as entry
use Rattle.gp_journal.specs.Due.{due}
use Rattle.gp_journal.specs.May.{May}
use Rattle.gp_journal.specs.Run.{state_of}
use Rattle.gp_journal.specs.State.{code_of}
use Rattle.gp_world.specs.kept.Workers.{after_due, moved_with}
use Rattle.gp_world.specs.Scene.{Scene}
use Rattle.gp_world.proofs.Stepped.{due_told, due_run, due_op, due_tick, due_park, not_start, not_open, not_refuse, not_record, not_close, tick_scene, on_error}
use Rattle.gp_world.proofs.world.World.make_due.Goals as goal

pub run-requires-clause-may : goal.run-requires-clause-may
run-requires-clause-may g c =
    let P = g.R.Run.program in let S = g.R.Run.settings in let now = c.args.self.now in let w = c.args.who.now.number in let s = state_of P S now.journal in
    let is = due_told P S c.machine.result.now now.journal c.number.result w c.args.g c.due-made.result c.due-made.ensures (c.machine.ensures ∙ ap (λ (x : Scene). x.journal) c.self.view_is) c.number.ensures c.requires.runs in
    let next = due_run (code_of P) S s w c.args.g c.due-made.result is c.in-Run.w c.in-Run.g c.in-Run.n c.in-Run.is in
    record { runs = c.requires.runs; is_next = next }

pub shared_point-point-requires-clause-may : goal.shared_point-point-requires-clause-may
shared_point-point-requires-clause-may g c =
    let P = g.R.Run.program in let S = g.R.Run.settings in let now = c.args.self.now in let w = c.args.who.now.number in let s = state_of P S now.journal in
    let is = due_told P S c.machine.result.now now.journal c.number.result w c.args.g c.due-made.result c.due-made.ensures (c.machine.ensures ∙ ap (λ (x : Scene). x.journal) c.self.view_is) c.number.ensures c.requires.runs in
    let next = due_op (code_of P) S s w c.args.g c.due-made.result is c.in-Op.w c.in-Op.g c.in-Op.is in
    subst (λ x. May (code_of P) S (state_of P S x) (entry.Op c.number-in-Op.result c.args.g)) (sym (c.machine-in-Op.ensures ∙ ap (λ (x : Scene). x.journal) c.self.view_is))
    (subst (λ n. May (code_of P) S s (entry.Op n c.args.g)) (sym c.number-in-Op.ensures) (record { runs = c.requires.runs; is_next = next }))

pub operate-requires-clause-may : goal.operate-requires-clause-may
operate-requires-clause-may g c =
    let P = g.R.Run.program in let S = g.R.Run.settings in let now = c.args.self.now in let w = c.args.who.now.number in let s = state_of P S now.journal in
    let is = due_told P S c.machine.result.now now.journal c.number.result w c.args.g c.due-made.result c.due-made.ensures (c.machine.ensures ∙ ap (λ (x : Scene). x.journal) c.self.view_is) c.number.ensures c.requires.runs in
    let next = due_op (code_of P) S s w c.args.g c.due-made.result is c.in-Op.w c.in-Op.g c.in-Op.is in
    record { runs = c.requires.runs; is_next = next }

pub enter_tick-requires-clause-may : goal.enter_tick-requires-clause-may
enter_tick-requires-clause-may g c =
    let P = g.R.Run.program in let S = g.R.Run.settings in let now = c.args.self.now in let w = c.args.who.now.number in let s = state_of P S now.journal in
    let is = due_told P S c.machine.result.now now.journal c.number.result w c.args.g c.due-made.result c.due-made.ensures (c.machine.ensures ∙ ap (λ (x : Scene). x.journal) c.self.view_is) c.number.ensures c.requires.runs in
    let next = due_tick (code_of P) S s w c.args.g c.due-made.result is c.in-Tick.w c.in-Tick.g c.in-Tick.is in
    record { runs = c.requires.runs; is_next = next }

pub enter-requires-clause-may : goal.enter-requires-clause-may
enter-requires-clause-may g c =
    let P = g.R.Run.program in let S = g.R.Run.settings in let now = c.args.self.now in let w = c.args.who.now.number in let s = state_of P S now.journal in
    let is = due_told P S c.machine.result.now now.journal c.number.result w c.args.g c.due-made.result c.due-made.ensures (c.machine.ensures ∙ ap (λ (x : Scene). x.journal) c.self.view_is) c.number.ensures c.requires.runs in
    let next = due_park (code_of P) S s w c.args.g c.due-made.result is c.in-Park.w c.in-Park.g c.in-Park.is in
    subst (λ n. May (code_of P) S s (entry.Park n c.args.g)) (sym c.number-in-Park.ensures) (record { runs = c.requires.runs; is_next = next })

pub unreachable-requires : goal.unreachable-requires
unreachable-requires g c =
    let P = g.R.Run.program in let S = g.R.Run.settings in let now = c.args.self.now in let w = c.args.who.now.number in let s = state_of P S now.journal in
    let is = due_told P S c.machine.result.now now.journal c.number.result w c.args.g c.due-made.result c.due-made.ensures (c.machine.ensures ∙ ap (λ (x : Scene). x.journal) c.self.view_is) c.number.ensures c.requires.runs in
    not_start (code_of P) S s w c.args.g c.due-made.result is c.in-Start.w c.in-Start.g c.in-Start.is

pub unreachable-requires-in-Open : goal.unreachable-requires-in-Open
unreachable-requires-in-Open g c =
    let P = g.R.Run.program in let S = g.R.Run.settings in let now = c.args.self.now in let w = c.args.who.now.number in let s = state_of P S now.journal in
    let is = due_told P S c.machine.result.now now.journal c.number.result w c.args.g c.due-made.result c.due-made.ensures (c.machine.ensures ∙ ap (λ (x : Scene). x.journal) c.self.view_is) c.number.ensures c.requires.runs in
    not_open (code_of P) S s w c.args.g c.due-made.result is c.in-Open.epoch c.in-Open.room c.in-Open.is

pub unreachable-requires-in-Refuse : goal.unreachable-requires-in-Refuse
unreachable-requires-in-Refuse g c =
    let P = g.R.Run.program in let S = g.R.Run.settings in let now = c.args.self.now in let w = c.args.who.now.number in let s = state_of P S now.journal in
    let is = due_told P S c.machine.result.now now.journal c.number.result w c.args.g c.due-made.result c.due-made.ensures (c.machine.ensures ∙ ap (λ (x : Scene). x.journal) c.self.view_is) c.number.ensures c.requires.runs in
    not_refuse (code_of P) S s w c.args.g c.due-made.result is c.in-Refuse.room c.in-Refuse.n c.in-Refuse.is

pub unreachable-requires-in-Record : goal.unreachable-requires-in-Record
unreachable-requires-in-Record g c =
    let P = g.R.Run.program in let S = g.R.Run.settings in let now = c.args.self.now in let w = c.args.who.now.number in let s = state_of P S now.journal in
    let is = due_told P S c.machine.result.now now.journal c.number.result w c.args.g c.due-made.result c.due-made.ensures (c.machine.ensures ∙ ap (λ (x : Scene). x.journal) c.self.view_is) c.number.ensures c.requires.runs in
    not_record (code_of P) S s w c.args.g c.due-made.result is c.in-Record.actor c.in-Record.g c.in-Record.is

pub unreachable-requires-in-Close : goal.unreachable-requires-in-Close
unreachable-requires-in-Close g c =
    let P = g.R.Run.program in let S = g.R.Run.settings in let now = c.args.self.now in let w = c.args.who.now.number in let s = state_of P S now.journal in
    let is = due_told P S c.machine.result.now now.journal c.number.result w c.args.g c.due-made.result c.due-made.ensures (c.machine.ensures ∙ ap (λ (x : Scene). x.journal) c.self.view_is) c.number.ensures c.requires.runs in
    not_close (code_of P) S s w c.args.g c.due-made.result is c.in-Close.epoch c.in-Close.is

pub returns-in-Run-clause-scene : goal.returns-in-Run-clause-scene
returns-in-Run-clause-scene g c =
    let P = g.R.Run.program in let S = g.R.Run.settings in let now = c.args.self.now in let w = c.args.who.now.number in let s = state_of P S now.journal in
    let is = due_told P S c.machine.result.now now.journal c.number.result w c.args.g c.due-made.result c.due-made.ensures (c.machine.ensures ∙ ap (λ (x : Scene). x.journal) c.self.view_is) c.number.ensures c.requires.runs in
    let next = due_run (code_of P) S s w c.args.g c.due-made.result is c.in-Run.w c.in-Run.g c.in-Run.n c.in-Run.is in
    c.run.ensures.scene ∙ ap (after_due P S now c.run.new.self) (sym next)

pub returns-in-Run-clause-moved : goal.returns-in-Run-clause-moved
returns-in-Run-clause-moved g c =
    let P = g.R.Run.program in let S = g.R.Run.settings in let now = c.args.self.now in let w = c.args.who.now.number in let s = state_of P S now.journal in
    let is = due_told P S c.machine.result.now now.journal c.number.result w c.args.g c.due-made.result c.due-made.ensures (c.machine.ensures ∙ ap (λ (x : Scene). x.journal) c.self.view_is) c.number.ensures c.requires.runs in
    let next = due_run (code_of P) S s w c.args.g c.due-made.result is c.in-Run.w c.in-Run.g c.in-Run.n c.in-Run.is in
    sym (ap (λ (e : Entry). moved_with P S now e (progress_of c.args.body.now)) next)

pub returns-in-Op-clause-scene : goal.returns-in-Op-clause-scene
returns-in-Op-clause-scene g c =
    let P = g.R.Run.program in let S = g.R.Run.settings in let now = c.args.self.now in let w = c.args.who.now.number in let s = state_of P S now.journal in
    let is = due_told P S c.machine.result.now now.journal c.number.result w c.args.g c.due-made.result c.due-made.ensures (c.machine.ensures ∙ ap (λ (x : Scene). x.journal) c.self.view_is) c.number.ensures c.requires.runs in
    let next = due_op (code_of P) S s w c.args.g c.due-made.result is c.in-Op.w c.in-Op.g c.in-Op.is in
    subst (λ (e : Entry). OnOk c.operate.result (c.operate.new.self ≡ after_due P S now c.operate.new.self e)) (sym next) c.operate.ensures.scene

pub returns-in-Op-clause-moved : goal.returns-in-Op-clause-moved
returns-in-Op-clause-moved g c =
    let P = g.R.Run.program in let S = g.R.Run.settings in let now = c.args.self.now in let w = c.args.who.now.number in let s = state_of P S now.journal in
    let is = due_told P S c.machine.result.now now.journal c.number.result w c.args.g c.due-made.result c.due-made.ensures (c.machine.ensures ∙ ap (λ (x : Scene). x.journal) c.self.view_is) c.number.ensures c.requires.runs in
    let next = due_op (code_of P) S s w c.args.g c.due-made.result is c.in-Op.w c.in-Op.g c.in-Op.is in
    subst (λ (e : Entry). OnOk c.operate.result (progress_of c.operate.new.body ≡ moved_with P S now e (progress_of c.args.body.now))) (sym next) c.operate.ensures.moved

pub returns-in-Op-clause-memory : goal.returns-in-Op-clause-memory
returns-in-Op-clause-memory g c =
    let P = g.R.Run.program in let S = g.R.Run.settings in let now = c.args.self.now in let w = c.args.who.now.number in let s = state_of P S now.journal in
    let is = due_told P S c.machine.result.now now.journal c.number.result w c.args.g c.due-made.result c.due-made.ensures (c.machine.ensures ∙ ap (λ (x : Scene). x.journal) c.self.view_is) c.number.ensures c.requires.runs in
    let next = due_op (code_of P) S s w c.args.g c.due-made.result is c.in-Op.w c.in-Op.g c.in-Op.is in
    on_error (due (code_of P) S s w c.args.g ≡ entry.Op w c.args.g) (AddsEvent (event_of P S now.journal c.args.g)) c.operate.result next c.operate.ensures.memory

pub returns-in-Tick-clause-answer : goal.returns-in-Tick-clause-answer
returns-in-Tick-clause-answer g c =
    let P = g.R.Run.program in let S = g.R.Run.settings in let now = c.args.self.now in let w = c.args.who.now.number in let s = state_of P S now.journal in
    let is = due_told P S c.machine.result.now now.journal c.number.result w c.args.g c.due-made.result c.due-made.ensures (c.machine.ensures ∙ ap (λ (x : Scene). x.journal) c.self.view_is) c.number.ensures c.requires.runs in
    let next = due_tick (code_of P) S s w c.args.g c.due-made.result is c.in-Tick.w c.in-Tick.g c.in-Tick.is in
    (next, c.enter_tick.ensures.wrote)

pub returns-in-Tick-clause-scene : goal.returns-in-Tick-clause-scene
returns-in-Tick-clause-scene g c =
    let P = g.R.Run.program in let S = g.R.Run.settings in let now = c.args.self.now in let w = c.args.who.now.number in let s = state_of P S now.journal in
    let is = due_told P S c.machine.result.now now.journal c.number.result w c.args.g c.due-made.result c.due-made.ensures (c.machine.ensures ∙ ap (λ (x : Scene). x.journal) c.self.view_is) c.number.ensures c.requires.runs in
    let next = due_tick (code_of P) S s w c.args.g c.due-made.result is c.in-Tick.w c.in-Tick.g c.in-Tick.is in
    c.enter_tick.ensures.scene ∙ tick_scene P S now c.enter_tick.new.self w c.args.g ∙ ap (after_due P S now c.enter_tick.new.self) (sym next)

pub returns-in-Tick-clause-moved : goal.returns-in-Tick-clause-moved
returns-in-Tick-clause-moved g c =
    let P = g.R.Run.program in let S = g.R.Run.settings in let now = c.args.self.now in let w = c.args.who.now.number in let s = state_of P S now.journal in
    let is = due_told P S c.machine.result.now now.journal c.number.result w c.args.g c.due-made.result c.due-made.ensures (c.machine.ensures ∙ ap (λ (x : Scene). x.journal) c.self.view_is) c.number.ensures c.requires.runs in
    let next = due_tick (code_of P) S s w c.args.g c.due-made.result is c.in-Tick.w c.in-Tick.g c.in-Tick.is in
    sym (ap (λ (e : Entry). moved_with P S now e (progress_of c.args.body.now)) next)

pub returns-in-Park-clause-answer : goal.returns-in-Park-clause-answer
returns-in-Park-clause-answer g c =
    let P = g.R.Run.program in let S = g.R.Run.settings in let now = c.args.self.now in let w = c.args.who.now.number in let s = state_of P S now.journal in
    let is = due_told P S c.machine.result.now now.journal c.number.result w c.args.g c.due-made.result c.due-made.ensures (c.machine.ensures ∙ ap (λ (x : Scene). x.journal) c.self.view_is) c.number.ensures c.requires.runs in
    let next = due_park (code_of P) S s w c.args.g c.due-made.result is c.in-Park.w c.in-Park.g c.in-Park.is in
    next

pub returns-in-Park-clause-scene : goal.returns-in-Park-clause-scene
returns-in-Park-clause-scene g c =
    let P = g.R.Run.program in let S = g.R.Run.settings in let now = c.args.self.now in let w = c.args.who.now.number in let s = state_of P S now.journal in
    let is = due_told P S c.machine.result.now now.journal c.number.result w c.args.g c.due-made.result c.due-made.ensures (c.machine.ensures ∙ ap (λ (x : Scene). x.journal) c.self.view_is) c.number.ensures c.requires.runs in
    let next = due_park (code_of P) S s w c.args.g c.due-made.result is c.in-Park.w c.in-Park.g c.in-Park.is in
    c.enter.ensures.scene ∙ ap (λ n. after_due P S now c.enter.new.self (entry.Park n c.args.g)) c.number-in-Park.ensures ∙ ap (after_due P S now c.enter.new.self) (sym next)

pub returns-in-Park-clause-moved : goal.returns-in-Park-clause-moved
returns-in-Park-clause-moved g c =
    let P = g.R.Run.program in let S = g.R.Run.settings in let now = c.args.self.now in let w = c.args.who.now.number in let s = state_of P S now.journal in
    let is = due_told P S c.machine.result.now now.journal c.number.result w c.args.g c.due-made.result c.due-made.ensures (c.machine.ensures ∙ ap (λ (x : Scene). x.journal) c.self.view_is) c.number.ensures c.requires.runs in
    let next = due_park (code_of P) S s w c.args.g c.due-made.result is c.in-Park.w c.in-Park.g c.in-Park.is in
    sym (ap (λ (e : Entry). moved_with P S now e (progress_of c.args.body.now)) next)
