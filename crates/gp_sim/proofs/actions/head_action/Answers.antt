use Rattle.std.proofs.Common.{◌≡◌, true, false, refl, arith, nat_lt}
use Rattle.std.proofs.lemmas.Bool.{lt-ltb, le-ltb}
use Rattle.gp_journal.specs.State.{code_of, goroutine}
use Rattle.gp_journal.specs.Run.{last}
use Rattle.gp_journal.proofs.Lemmas.{live_status}
use Rattle.gp_sim.proofs.Enabled.{head_runnable}
use Rattle.gp_sim.proofs.Acting.{head_is}
use Rattle.gp_sim.proofs.actions.head_action.Goals as goal

pub epoch-requires : goal.epoch-requires
epoch-requires g c =
    let now = last (code_of g.R.Run.program) g.R.Run.settings c.args.machine.now in
    live_status (goroutine now c.args.g)
    (head_runnable (code_of g.R.Run.program) g.R.Run.settings now (record { journal = c.args.machine.now; legal = c.journal.ensures.legal; its_last = refl }) c.args.g c.requires) refl

pub returns-then-epoch-active-clause-entry : goal.returns-then-epoch-active-clause-entry
returns-then-epoch-active-clause-entry g c =
    let now = last (code_of g.R.Run.program) g.R.Run.settings c.args.machine.now in
    let live = live_status (goroutine now c.args.g)
    (head_runnable (code_of g.R.Run.program) g.R.Run.settings now (record { journal = c.args.machine.now; legal = c.journal.ensures.legal; its_last = refl }) c.args.g c.requires) refl in
    let below : nat_lt (goroutine now c.args.g).epoch now.active ≡ true = lt-ltb _ _ (let e = c.if-epoch-active.true in let a = c.epoch.ensures in let b = c.active.ensures in omega arith) in
    head_is now c.args.w c.args.g true live below

pub returns-clause-entry : goal.returns-clause-entry
returns-clause-entry g c =
    let now = last (code_of g.R.Run.program) g.R.Run.settings c.args.machine.now in
    let live = live_status (goroutine now c.args.g)
    (head_runnable (code_of g.R.Run.program) g.R.Run.settings now (record { journal = c.args.machine.now; legal = c.journal.ensures.legal; its_last = refl }) c.args.g c.requires) refl in
    let past : nat_lt (goroutine now c.args.g).epoch now.active ≡ false = le-ltb _ _ (let e = c.if-epoch-active.false in let a = c.epoch.ensures in let b = c.active.ensures in omega arith) in
    head_is now c.args.w c.args.g false live past
