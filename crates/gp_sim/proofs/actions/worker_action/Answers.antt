use Rattle.std.proofs.Common.{◌≡◌, Some, sym, ap, ◌∙◌, subst, refl, arith, get_or}
use Rattle.gp_isa.specs.Trace.{trace}
use Rattle.gp_journal.specs.State.{code_of, goroutine, worker}
use Rattle.gp_journal.specs.Run.{last}
use Rattle.gp_journal.specs.Shown.{IsPeekAt}
use Rattle.gp_journal.specs.Bodies.{nowhere}
use Rattle.gp_journal.proofs.Lemmas.{is_kept, runs_there, live_status, some_same}
use Rattle.gp_sim.specs.Choice.{action_of_worker}
use Rattle.gp_sim.proofs.Acting.{peek_is, none_ahead, given}
use Rattle.gp_sim.proofs.actions.worker_action.Goals as goal

pub runs-requires : goal.runs-requires
runs-requires g c =
    let now = last (code_of g.R.Run.program) g.R.Run.settings c.args.machine.now in
    let many = (is_kept (code_of g.R.Run.program) g.R.Run.settings now (record { journal = c.args.machine.now; legal = c.journal.ensures.legal; its_last = refl }) c.requires.range).numbered.number in
    let within = c.requires.able.within in omega arith

pub peek-peek-requires-clause-born : goal.peek-peek-requires-clause-born
peek-peek-requires-clause-born g c =
    let now = last (code_of g.R.Run.program) g.R.Run.settings c.args.machine.now in
    let runs = runs_there (code_of g.R.Run.program) g.R.Run.settings now (record { journal = c.args.machine.now; legal = c.journal.ensures.legal; its_last = refl }) c.requires.range c.args.w c.in-Some.g (sym c.runs.ensures ∙ c.in-Some.is) in
    let born = runs.is_born in
    let each = c.requires.bodies.each in omega arith

pub point-requires-clause-born : goal.point-requires-clause-born
point-requires-clause-born g c =
    let now = last (code_of g.R.Run.program) g.R.Run.settings c.args.machine.now in
    let runs = runs_there (code_of g.R.Run.program) g.R.Run.settings now (record { journal = c.args.machine.now; legal = c.journal.ensures.legal; its_last = refl }) c.requires.range c.args.w c.in-Some.g (sym c.runs.ensures ∙ c.in-Some.is) in
    let born = runs.is_born in
    let each = c.requires.bodies.each in omega arith

pub due-requires-clause-peek : goal.due-requires-clause-peek
due-requires-clause-peek g c = λ h runs.
    let now = last (code_of g.R.Run.program) g.R.Run.settings c.args.machine.now in
    let there = runs_there (code_of g.R.Run.program) g.R.Run.settings now (record { journal = c.args.machine.now; legal = c.journal.ensures.legal; its_last = refl }) c.requires.range c.args.w c.in-Some.g (sym c.runs.ensures ∙ c.in-Some.is) in
    subst (λ n. IsPeekAt (code_of g.R.Run.program) now n c.peek-peek.result) (some_same (sym (sym c.runs.ensures ∙ c.in-Some.is) ∙ runs))
    (peek_is g.R.Run.program now c.in-Some.g c.args.bodies.now c.peek-peek.result c.requires.bodies (live_status (goroutine now c.in-Some.g) there.status refl) c.peek-peek.ensures.local c.peek-peek.ensures.then)

pub point-requires-clause-local : goal.point-requires-clause-local
point-requires-clause-local g c = λ shared.
    let p = get_or c.args.bodies.now c.in-Some.g nowhere in
    none_ahead (trace g.R.Run.program p.start) p.count c.peek-peek.result.local c.peek-peek.result.then c.peek-peek.ensures.local c.peek-peek.ensures.then shared

pub returns-in-Some-clause-entry : goal.returns-in-Some-clause-entry
returns-in-Some-clause-entry g c =
    let now = last (code_of g.R.Run.program) g.R.Run.settings c.args.machine.now in
    let runs : (worker now c.args.w).runs ≡ Some c.in-Some.g = sym c.runs.ensures ∙ c.in-Some.is in
    ap (action_of_worker (code_of g.R.Run.program) g.R.Run.settings now c.args.w) runs ∙ ap Some (sym (c.due.ensures c.in-Some.g runs))

pub returns-in-Some-clause-point : goal.returns-in-Some-clause-point
returns-in-Some-clause-point g c =
    let now = last (code_of g.R.Run.program) g.R.Run.settings c.args.machine.now in
    let runs : (worker now c.args.w).runs ≡ Some c.in-Some.g = sym c.runs.ensures ∙ c.in-Some.is in
    given g.R.Run.program g.R.Run.settings now (record { journal = c.args.machine.now; legal = c.journal.ensures.legal; its_last = refl }) c.requires.range
    c.args.bodies.now c.requires.bodies c.args.w c.in-Some.g runs c.point.result c.point.ensures c.due.result (c.due.ensures c.in-Some.g runs)
