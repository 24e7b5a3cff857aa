use Rattle.std.proofs.Common.{◌≡◌, Some, IfOk, OnOk, OnErr, sym, ◌∙◌, subst}
use Rattle.gp_stack.specs.Body.{progress_of}
use Rattle.gp_journal.specs.Bodies.{standing}
use Rattle.gp_journal.specs.Due.{due}
use Rattle.gp_journal.specs.Run.{state_of}
use Rattle.gp_journal.specs.State.{code_of, goroutine, worker}
use Rattle.gp_tally.specs.Rows.{Part}
use Rattle.gp_world.specs.Calls.{WantsMemory}
use Rattle.gp_world.specs.Rows.{worker_row}
use Rattle.gp_world.specs.kept.Workers.{IsStepIn, after_due, moved_with}
use Rattle.gp_world.specs.Scene.{Scene}
use Rattle.gp_world.proofs.world.World.step.Goals as goal

pub make_due-requires-clause-runs : goal.make_due-requires-clause-runs
make_due-requires-clause-runs g c =
    let P = g.R.Run.program in let S = g.R.Run.settings in let now = c.run_by-g in
    subst (λ (s : Scene). (worker (state_of P S s.journal) now.new.who.number).runs ≡ Some now.result) (sym now.ensures.scene)
    (subst (λ (p : Part). (worker (state_of P S c.args.self.now.journal) p.number).runs ≡ Some now.result) (sym now.ensures.share) now.ensures.runs)

pub make_due-requires-clause-place : goal.make_due-requires-clause-place
make_due-requires-clause-place g c =
    let P = g.R.Run.program in let S = g.R.Run.settings in let scene = c.run_by-g.ensures.scene in let one = c.run_by-g.ensures.g in
    c.requires.place ∙ (λ i. standing (goroutine (state_of P S (sym scene i).journal) (sym one i)))

pub returns-clause-answer : goal.returns-clause-answer
returns-clause-answer g c =
    let P = g.R.Run.program in let S = g.R.Run.settings in let now = c.run_by-g in
    subst (λ n. IfOk c.make_due.result (IsStepIn P S c.args.self.now c.make_due.new.self c.args.who.now.number n)) now.ensures.g
    (subst (λ (p : Part). IfOk c.make_due.result (IsStepIn P S c.args.self.now c.make_due.new.self p.number now.result)) now.ensures.share
    (subst (λ (s : Scene). IfOk c.make_due.result (IsStepIn P S s c.make_due.new.self now.new.who.number now.result)) now.ensures.scene c.make_due.ensures.answer))

pub returns-clause-scene : goal.returns-clause-scene
returns-clause-scene g c =
    let P = g.R.Run.program in let S = g.R.Run.settings in let now = c.run_by-g in
    subst (λ n. OnOk c.make_due.result (c.make_due.new.self ≡ after_due P S c.args.self.now c.make_due.new.self (due (code_of P) S (state_of P S c.args.self.now.journal) c.args.who.now.number n))) now.ensures.g
    (subst (λ (p : Part). OnOk c.make_due.result (c.make_due.new.self ≡ after_due P S c.args.self.now c.make_due.new.self (due (code_of P) S (state_of P S c.args.self.now.journal) p.number now.result))) now.ensures.share
    (subst (λ (s : Scene). OnOk c.make_due.result (c.make_due.new.self ≡ after_due P S s c.make_due.new.self (due (code_of P) S (state_of P S s.journal) now.new.who.number now.result))) now.ensures.scene c.make_due.ensures.scene))

pub returns-clause-share : goal.returns-clause-share
returns-clause-share g c =
    let P = g.R.Run.program in let S = g.R.Run.settings in
    subst (λ (p : Part). OnOk c.make_due.result (c.make_due.new.who ≡ record p { row = worker_row P S c.make_due.new.self.journal p.number })) c.run_by-g.ensures.share c.make_due.ensures.share

pub returns-clause-moved : goal.returns-clause-moved
returns-clause-moved g c =
    let P = g.R.Run.program in let S = g.R.Run.settings in let now = c.run_by-g in
    subst (λ n. OnOk c.make_due.result (progress_of c.make_due.new.body ≡ moved_with P S c.args.self.now (due (code_of P) S (state_of P S c.args.self.now.journal) c.args.who.now.number n) (progress_of c.args.body.now))) now.ensures.g
    (subst (λ (p : Part). OnOk c.make_due.result (progress_of c.make_due.new.body ≡ moved_with P S c.args.self.now (due (code_of P) S (state_of P S c.args.self.now.journal) p.number now.result) (progress_of c.args.body.now))) now.ensures.share
    (subst (λ (s : Scene). OnOk c.make_due.result
    (progress_of c.make_due.new.body ≡ moved_with P S s (due (code_of P) S (state_of P S s.journal) now.new.who.number now.result) (progress_of c.args.body.now))) now.ensures.scene c.make_due.ensures.moved))

pub returns-clause-memory : goal.returns-clause-memory
returns-clause-memory g c =
    let P = g.R.Run.program in let S = g.R.Run.settings in let now = c.run_by-g in
    subst (λ n. OnErr c.make_due.result (WantsMemory P S c.args.self.now.journal c.args.who.now.number n)) now.ensures.g
    (subst (λ (p : Part). OnErr c.make_due.result (WantsMemory P S c.args.self.now.journal p.number now.result)) now.ensures.share
    (subst (λ (s : Scene). OnErr c.make_due.result (WantsMemory P S s.journal now.new.who.number now.result)) now.ensures.scene c.make_due.ensures.memory))
